use Rattle.vl_link.proofs.Names.{true, false, arith}
use Rattle.vl_link.proofs.Choosing.{asked_next, passed_next}
use Rattle.vl_link.proofs.link.choose.Goals as goal

pub returns-then-ready-clause-chosen : goal.returns-then-ready-clause-chosen
returns-then-ready-clause-chosen c =
    let k = c.loop-k.k in
    let asked = asked_next _ _ _ k c.turn-sub.result c.index-subs-sub.result _ true c.loop-k.invariant c.turn-sub.ensures.turn
    c.turn-sub.ensures.apart (omega arith) (omega arith) (rw c.if-ready.true at c.ready.ensures) in
    grind arith

pub loop-k-preserved : goal.loop-k-preserved
loop-k-preserved c =
    passed_next _ _ _ c.loop-k.k c.turn-sub.result (asked_next _ _ _ c.loop-k.k c.turn-sub.result c.index-subs-sub.result _ false
    c.loop-k.invariant c.turn-sub.ensures.turn c.turn-sub.ensures.apart (omega arith) (omega arith)
    (grind arith)) c.turn-sub.ensures.turn
