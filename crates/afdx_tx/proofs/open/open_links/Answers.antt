use Rattle.afdx_tx.proofs.Names.{◌<◌, List, [], length, get_or, arith, ap, ◌∙◌, get_or_default, LinkPlan, no_link_plan}
use Rattle.afdx_tx.proofs.OpenedPorts.{links_push}
use Rattle.afdx_tx.proofs.open.open_links.Goals as goal

pub loop-plan-preserved : goal.loop-plan-preserved
loop-plan-preserved c =
    let config = c.args.config.now in
    let k = c.loop-plan.plan-index in
    let within : c.loop-plan.plan-index < length c.args.config.now.links = grind arith in
    let plan = c.plan-item.is ∙ ap (λ (links : List LinkPlan). get_or links c.loop-plan.plan-index c.plan-item.result)
    c.links-plans.ensures.plan
    ∙ get_or_default c.args.config.now.links c.loop-plan.plan-index c.plan-item.result no_link_plan within in
    rw c.in_ok-push.ensures.items (links_push config [] c.loop-plan.links.items k c.in_ok-open_link.field-0
    c.loop-plan.invariant
    (grind arith))
