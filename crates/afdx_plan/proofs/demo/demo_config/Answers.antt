use Rattle.std.proofs.Common.{◌≡◌, List, [], ◌∷◌, rules}
use Rattle.afdx_plan.specs.declared.link_plan.LinkPlan.{LinkPlan}
use Rattle.afdx_plan.specs.declared.port_plan.PortPlan.{PortPlan}
use Rattle.afdx_plan.specs.Demo.{demo_link, demo_port}
use Rattle.afdx_plan.proofs.DemoPlan.{demo_valid}
use Rattle.afdx_plan.proofs.demo.demo_config.Goals as goal

pub new-requires : goal.new-requires
new-requires c =
    let links : ◌≡◌ {A = List LinkPlan} c.in_ok-links.links.items (demo_link ∷ []) = search rules in
    let ports : ◌≡◌ {A = List PortPlan} c.in_ok-ports.ports.items (demo_port ∷ []) = search rules in
    rw (links, ports) demo_valid
