use Rattle.plan_analysis.proofs.Names.{arith, refl, common_steps, max_push, greatest_on, max_on}
use Rattle.plan_analysis.proofs.memory.greatest_on.Goals as goal

pub loop-port-preserved : goal.loop-port-preserved
loop-port-preserved c =
    let link = c.args.link.now in
    grind (arith, common_steps, max_push (greatest_on link c.args.sub) (max_on link c.args.sub) refl (λ x xs. refl))
