use Rattle.afdx_frame.proofs.Names.{◌+◌, ◌≤◌, length, arith, rules, IsFrameOf}
use Rattle.afdx_frame.proofs.CuttingLemmas.{left_none, left_first}
use Rattle.afdx_frame.proofs.Says.{header_says}
use Rattle.afdx_frame.proofs.Twins.{step_fragments}
use Rattle.afdx_frame.proofs.cut.Rest.write_next.Goals as goal

pub returns-in_default-clause-frame : goal.returns-in_default-clause-frame
returns-in_default-clause-frame c = grind (arith, left_none)

pub returns-clause-frame : goal.returns-clause-frame
returns-clause-frame c = grind (arith, left_first)

pub returns-in_default-clause-fragments : goal.returns-in_default-clause-fragments
returns-in_default-clause-fragments c =
    step_fragments _ _ _ _ _ _ _ (returns-in_default-clause-frame c) (grind arith)

pub returns-clause-fragments : goal.returns-clause-fragments
returns-clause-fragments c =
    step_fragments _ _ _ _ _ _ _ (returns-clause-frame c)
    (grind arith)

pub returns-clause-header : goal.returns-clause-header
returns-clause-header c =
    let within : c.in-Some.piece.start + c.in-Some.piece.len ≤ 8 + length c.args.bytes.now = search (rules, arith) in
    let says : IsFrameOf c.args.template.now.port.vl.0 c.args.template.now.port.sub c.args.number c.args.net c.write_frame.new.out.items =
    rw c.write_frame.ensures.frame
    (header_says c.args.template.now.end_system c.args.template.now.port c.args.bytes.now c.self.inside.place c.in-Some.piece
    c.args.net c.args.number c.write_frame.ensures.port within) in
    grind arith
