-- The result of importing an interface document.
use Rattle.std.specs.Prelude.{ℕ, List}
use Rattle.afdx_plan.specs.Config.{Plan}
use Rattle.afdx_config.specs.Faults.{IsPlanOf}

-- a text gives a plan without a fault
abbrev pub IsAccepted : List ℕ → Type 0
IsAccepted text = (plan : Plan) × IsPlanOf text plan
