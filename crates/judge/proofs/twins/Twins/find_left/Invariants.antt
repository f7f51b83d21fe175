use Rattle.judge.proofs.Names.{◌≡◌, ◌++◌, drop, filter, is_left, missing_of}
use Rattle.judge.proofs.twins.Twins.find_left.Given as goal

abbrev pub invariant-loop-w : goal.invariant-loop-w
invariant-loop-w l =
    l.found.items ++ missing_of l.vl (filter (is_left l.nearness) (drop l.w-index l.waiting))
    ≡ l.initial.found.items ++ missing_of l.vl (filter (is_left l.nearness) l.waiting)
