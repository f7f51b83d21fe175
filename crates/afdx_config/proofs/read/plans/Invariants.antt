use Rattle.afdx_config.proofs.Names.{◌≡◌, map, take}
use Rattle.afdx_config.proofs.read.plans.Given as goal

abbrev pub invariant-loop-row : goal.invariant-loop-row
invariant-loop-row g l = l.plans.items ≡ map g.R.Row.plan_of (take l.row-index l.rows)
