use Rattle.afdx_tx.proofs.Names.{below_more}
use Rattle.afdx_tx.proofs.gather.has_every_place.Goals as goal

pub loop-place-preserved : goal.loop-place-preserved
loop-place-preserved c = below_more _ _ c.loop-place.invariant c.if-not-has_place.ensures
