use Rattle.afdx_tx.proofs.KeptLinks.{IsPublishing}
use Rattle.afdx_tx.proofs.turns.publish_all.Given as goal

abbrev pub invariant-loop-link : goal.invariant-loop-link
invariant-loop-link g l = IsPublishing l.fn.links l.fn.board l.board l.link
