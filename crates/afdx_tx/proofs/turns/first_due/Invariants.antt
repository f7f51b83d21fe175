use Rattle.afdx_tx.proofs.Names.{IsFirstDue}
use Rattle.afdx_tx.proofs.turns.first_due.Given as goal

abbrev pub invariant-loop-link : goal.invariant-loop-link
invariant-loop-link g l = IsFirstDue l.now l.links l.mux l.link-index l.first
