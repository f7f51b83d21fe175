use Rattle.afdx_handle.proofs.EndPorts.{failing_kept}
use Rattle.afdx_handle.proofs.end_system.EndSystem.fail.Goals as goal

pub invariant_of-self : goal.invariant_of-self
invariant_of-self c = rw (c.fail.ensures.tx, c.fail.ensures.stage) (failing_kept c.args.net _ c.self.invariant)
