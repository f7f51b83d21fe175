use Rattle.afdx_tx.proofs.Names.{[], AreOpenedLinks}
use Rattle.afdx_tx.proofs.open.open_links.Given as goal

abbrev pub invariant-loop-plan : goal.invariant-loop-plan
invariant-loop-plan l = AreOpenedLinks l.config [] l.links.items l.plan-index
