use Rattle.afdx_tx.proofs.Names.{[], AreOpenedSubs}
use Rattle.afdx_tx.proofs.open.open_link.Given as goal

abbrev pub invariant-loop-sub : goal.invariant-loop-sub
invariant-loop-sub l = AreOpenedSubs l.config.end_system l.config.ports [] l.plan l.subs.items l.sub
