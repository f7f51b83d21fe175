use Rattle.afdx_tx.proofs.Names.{arith, refl}
use Rattle.afdx_tx.proofs.emitter.Emitter.poll_unreported.Goals as goal

pub returns-clause-told : goal.returns-clause-told
returns-clause-told g c = let told = c.in_ok-turn.ensures.told in record {
  report = record { released = record { items = told.0 }; standing = c.standing.result };
  stands = refl;
  few = told.2;
  polls = grind arith;
}
