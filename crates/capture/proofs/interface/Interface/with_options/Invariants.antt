use Rattle.capture.proofs.Names.{length}
use Rattle.capture.proofs.Options.{IsMidway}
use Rattle.capture.proofs.interface.Interface.with_options.Given as goal

abbrev pub invariant-loop-rest : goal.invariant-loop-rest
invariant-loop-rest l = IsMidway l.order l.options l.fn.self l.rest l.interface

abbrev pub decreases-loop-rest : goal.decreases-loop-rest
decreases-loop-rest l = length l.rest
