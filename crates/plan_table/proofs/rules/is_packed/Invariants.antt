use Rattle.std.proofs.Common.{◌≡◌, ◌+◌, drop}
use Rattle.afdx_plan.specs.PlanFaults.{any_row}
use Rattle.plan_table.specs.Rules.{is_past}
use Rattle.plan_table.proofs.rules.is_packed.Given as goal

abbrev pub invariant-loop-k : goal.invariant-loop-k
invariant-loop-k l = any_row (is_past l.ports) 1 l.ports ≡ any_row (is_past l.ports) (l.k + 1) (drop l.k l.ports)
