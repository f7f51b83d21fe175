use Rattle.plan_analysis.proofs.Names.{arith, refl, common_steps, max_push, greatest_message, Flow}
use Rattle.plan_analysis.proofs.busy_time.greatest_message.Goals as goal

pub loop-flow-preserved : goal.loop-flow-preserved
loop-flow-preserved c =
    grind (arith, common_steps, max_push greatest_message (λ (f : Flow). f.fragments) refl (λ x xs. refl), c.requires)
