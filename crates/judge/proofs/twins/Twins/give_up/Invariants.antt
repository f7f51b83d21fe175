use Rattle.judge.proofs.Names.{◌≡◌, ◌++◌, drop, filter, is_lost, missing_of}
use Rattle.judge.proofs.twins.Twins.give_up.Given as goal

abbrev pub invariant-loop-w : goal.invariant-loop-w
invariant-loop-w l =
    l.found.items ++ missing_of l.vl (filter (is_lost l.nearness l.tag l.number) (drop l.w-index l.waiting))
    ≡ l.initial.found.items ++ missing_of l.vl (filter (is_lost l.nearness l.tag l.number) l.waiting)
