use Rattle.vl_link.proofs.Names.{PassedOver}
use Rattle.vl_link.proofs.link.choose.Given as goal

abbrev pub invariant-loop-k : goal.invariant-loop-k
invariant-loop-k l = PassedOver l.fn.shaper l.fn.subs l.subs l.k
