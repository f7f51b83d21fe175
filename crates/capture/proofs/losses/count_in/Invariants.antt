use Rattle.capture.proofs.Names.{length}
use Rattle.capture.proofs.Counts.{IsLeft}
use Rattle.capture.proofs.losses.count_in.Given as goal

abbrev pub invariant-loop-rest : goal.invariant-loop-rest
invariant-loop-rest l = IsLeft l.order l.code l.options l.rest

abbrev pub decreases-loop-rest : goal.decreases-loop-rest
decreases-loop-rest l = length l.rest
