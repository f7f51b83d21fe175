-- What is left to compare adds the other links.
use Rattle.std.proofs.Common.{◌≡◌, ◌++◌, drop}
use Rattle.judge.specs.Network.{links_from}
use Rattle.judge.proofs.network.add_shared.Given as goal

abbrev pub invariant-loop-second : goal.invariant-loop-second
invariant-loop-second l =
    l.found.items ++ links_from l.fn.earlier l.other l.fn.later l.second (drop l.second l.plan.links)
    ≡ l.initial.found.items ++ links_from l.fn.earlier l.other l.fn.later 0 l.plan.links
