use Rattle.std.proofs.Common.{◌≡◌, length}
use Rattle.afdx_plan.specs.PlanFaults.{has_pair}
use Rattle.plan_table.specs.Rules.{clash}
use Rattle.plan_table.proofs.rules.some_clash.Given as goal

abbrev pub invariant-ports : goal.invariant-ports
invariant-ports l = has_pair (clash l.how) l.ports ≡ has_pair (clash l.how) l.left

abbrev pub decreases-ports : goal.decreases-ports
decreases-ports l = length l.left
