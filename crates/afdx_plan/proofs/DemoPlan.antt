-- The demonstration plan is valid.
use Rattle.std.proofs.Common.{arith}
use Rattle.afdx_plan.specs.Config.{IsPlan}
use Rattle.afdx_plan.specs.Demo.{demo_plan, demo_port}
use Rattle.afdx_plan.specs.Plan.{IsPort}

-- the demonstration port is in its ranges
pub demo_port_is : IsPort demo_port
demo_port_is = grind arith

-- the demonstration plan is valid
pub demo_valid : IsPlan demo_plan
demo_valid = grind arith
