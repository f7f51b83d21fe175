use Rattle.subvl_queue.proofs.Names.{below_more}
use Rattle.subvl_queue.proofs.receiver.has_every.Goals as goal

pub loop-port-preserved : goal.loop-port-preserved
loop-port-preserved c = below_more _ _ c.loop-port.invariant c.if-not-has_port.ensures
