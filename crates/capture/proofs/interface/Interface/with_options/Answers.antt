use Rattle.capture.proofs.Names.{arith, common_steps, err_from_is_err_and, ne_eqb, sym}
use Rattle.capture.proofs.Options.{midway_done, midway_next, midway_turn}
use Rattle.capture.proofs.interface.Interface.with_options.Goals as goal

pub returns-in_err-front : goal.returns-in_err-front
returns-in_err-front c =
    let told = err_from_is_err_and c.from_residual.result c.from_residual.ensures.1 in
    rw (told.1, told.2)
    (rw (sym c.in_err-front.ensures.value) at (midway_next c.args.order c.args.options.now c.loop-rest.rest.now
    c.args.self c.loop-rest.interface c.loop-rest.invariant (omega arith)))

pub returns-then-front-eq-END : goal.returns-then-front-eq-END
returns-then-front-eq-END c =
    rw (sym c.in_ok-front.ensures.value, c.if-front-eq-END.true) at (midway_next c.args.order c.args.options.now
    c.loop-rest.rest.now c.args.self c.loop-rest.interface c.loop-rest.invariant (omega arith))

pub returns-in_err-interface : goal.returns-in_err-interface
returns-in_err-interface c =
    let told = err_from_is_err_and c.from_residual-in_err-interface.result c.from_residual-in_err-interface.ensures.1 in
    rw (told.1, told.2)
    (rw (sym c.in_ok-front.ensures.value, ne_eqb c.in_ok-front.front.code 0 c.if-front-eq-END.false, sym c.in_err-interface.ensures) at (midway_next
    c.args.order c.args.options.now c.loop-rest.rest.now c.args.self c.loop-rest.interface c.loop-rest.invariant (omega arith)))

pub loop-rest-preserved : goal.loop-rest-preserved
loop-rest-preserved c = grind (arith, common_steps, midway_turn)

pub returns : goal.returns
returns c =
    midway_done c.args.order c.args.options.now c.loop-rest.rest.now c.args.self c.loop-rest.interface
    c.loop-rest.invariant (omega arith)
