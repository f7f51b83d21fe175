use Rattle.afdx_plan.proofs.PlanLemmas.{apart}
use Rattle.afdx_plan.proofs.laws.flows_apart.Goals as goal

pub returns : goal.returns
returns c = apart _ c.ports-ports.ensures.valid
