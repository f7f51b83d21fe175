use Rattle.afdx_tx.proofs.Names.{falls_not_same, last_or-push, link_at, arith}
use Rattle.afdx_tx.proofs.turns.publish_all.Goals as goal

pub returns-clause-reaches : goal.returns-clause-reaches
returns-clause-reaches g c = grind (arith, last_or-push, link_at, falls_not_same)
