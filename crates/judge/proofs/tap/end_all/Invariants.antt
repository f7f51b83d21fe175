-- What is left to end gives the same findings.
use Rattle.std.proofs.Common.{◌≡◌, length}
use Rattle.judge.specs.Tap.{ended_all}
use Rattle.judge.proofs.tap.end_all.Given as goal

abbrev pub invariant-judges : goal.invariant-judges
invariant-judges l = ended_all l.judges.entries l.rest l.found.items
    ≡ ended_all l.fn.judges.entries l.fn.order l.fn.found.items

abbrev pub decreases-judges : goal.decreases-judges
decreases-judges l = length l.rest
