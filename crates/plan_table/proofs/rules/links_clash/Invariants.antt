use Rattle.std.proofs.Common.{◌≡◌, length}
use Rattle.afdx_plan.specs.PlanFaults.{has_pair}
use Rattle.plan_table.specs.Rules.{are_one_link}
use Rattle.plan_table.proofs.rules.links_clash.Given as goal

abbrev pub invariant-links : goal.invariant-links
invariant-links l = has_pair are_one_link l.links ≡ has_pair are_one_link l.left

abbrev pub decreases-links : goal.decreases-links
decreases-links l = length l.left
