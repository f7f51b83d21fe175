use Rattle.capture.proofs.Names.{arith, common_steps, length-drop, length-take, sym}
use Rattle.capture.proofs.Counts.{left_count, left_end, left_none, left_past, left_turn}
use Rattle.capture.proofs.losses.count_in.Goals as goal

pub returns-in_default : goal.returns-in_default
returns-in_default c = grind (arith, common_steps, left_past)

pub returns-then-front-eq-END : goal.returns-then-front-eq-END
returns-then-front-eq-END c = grind (arith, left_end)

pub returns-then-len-eq8 : goal.returns-then-len-eq8
returns-then-len-eq8 c =
    rw c.long.ensures
    (left_count c.args.order c.args.code c.args.options.now c.loop-rest.rest.now c.in-Ok.front c.loop-rest.invariant
    (omega arith) (sym c.in-Ok.ensures.value) c.if-front-eq-END.false c.if-front-code.true
    (grind (arith, c.if-len-eq8.true, c.in-Ok.ensures.within, length-take, length-drop)))

pub loop-rest-preserved : goal.loop-rest-preserved
loop-rest-preserved c = grind (arith, common_steps, left_turn)

pub returns : goal.returns
returns c = left_none c.args.order c.args.code c.args.options.now c.loop-rest.rest.now c.loop-rest.invariant (omega arith)
