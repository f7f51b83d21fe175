use Rattle.plan_analysis.proofs.Names.{arith, refl, common_steps, max_push, pieces_on, most_pieces}
use Rattle.plan_analysis.proofs.fragments.most_pieces.Goals as goal

pub loop-port-preserved : goal.loop-port-preserved
loop-port-preserved c =
    let link = c.args.link.now in
    grind (arith, common_steps, max_push (most_pieces link c.args.sub) (pieces_on link c.args.sub) refl (λ x xs. refl))
