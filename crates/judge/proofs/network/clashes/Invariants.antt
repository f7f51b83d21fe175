-- What is left to compare adds the other clashes.
use Rattle.std.proofs.Common.{◌≡◌, ◌++◌, drop, take}
use Rattle.judge.specs.Network.{clashes, clashes_from, shared_with}
use Rattle.judge.proofs.network.clashes.Given as goal

abbrev pub invariant-loop-later : goal.invariant-loop-later
invariant-loop-later l = l.found.items ++ clashes_from l.plans l.later (drop l.later l.plans) ≡ clashes l.plans

abbrev pub invariant-loop-earlier : goal.invariant-loop-earlier
invariant-loop-earlier l =
    l.found.items ++ shared_with l.earlier (drop l.earlier (take l.later l.plans)) l.later l.plan
    ≡ l.initial.found.items ++ shared_with 0 (take l.later l.plans) l.later l.plan
