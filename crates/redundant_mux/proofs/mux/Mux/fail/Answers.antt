use Rattle.redundant_mux.proofs.MirroredLines.{in_step_failing}
use Rattle.redundant_mux.proofs.mux.Mux.fail.Goals as goal

pub invariant_of-self : goal.invariant_of-self
invariant_of-self g c =
    rw (c.fail.ensures.handed, c.fail.ensures.failures) (in_step_failing _ _ _ c.self.invariant)

pub invariant_of-self-in-B : goal.invariant_of-self-in-B
invariant_of-self-in-B g c =
    rw (c.fail-in-B.ensures.handed, c.fail-in-B.ensures.failures) (in_step_failing _ _ _ c.self.invariant)
