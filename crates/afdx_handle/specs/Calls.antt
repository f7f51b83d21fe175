-- The answers of calls on an end system, by the content of the handle, and its content afterwards.
use Rattle.std.specs.Prelude.{ℕ, ◌≡◌, ◌≢◌, ◌↔◌, List, ◌∷◌, Option, IsSome, IsSomeAnd}
use Rattle.afdx_config.specs.Faults.{IsLeastFault}
use Rattle.afdx_frame.specs.declared.net.Net.{Net}
use Rattle.afdx_plan.specs.declared.fault.ConfigFault.{ConfigFault}
use Rattle.afdx_plan.specs.declared.fault.ConfigFault.TheVariants.{Memory}
use Rattle.afdx_plan.specs.PlanFaults.{fault_number}
use Rattle.plan_table.specs.Reading.{IsFaultOf, table_fault_number}
use Rattle.plan_table.specs.declared.fault.TableFault.{TableFault}
use Rattle.afdx_handle.specs.EndSystem.{EndView}
use Rattle.afdx_handle.specs.Held.{port_of, HoldsNothing, HoldsEnd, HoldsSame}
use Rattle.afdx_handle.specs.Numbers.{IsOneOf, net_of}
use Rattle.afdx_handle.specs.declared.answer.TheConstants.{DONE, NOT_HELD, WRONG_HANDLE}
use Rattle.afdx_handle.specs.declared.handle.Home.{Home}

-- a call that reads an end system, with these further answers: the handle holds the same afterwards
pub record ReadsEnd (old new : Option Home) (others : List ℕ) (answer : ℕ) : Type 0 where
  pub answers : IsOneOf answer (DONE ∷ NOT_HELD ∷ WRONG_HANDLE ∷ others)
  pub not_held : (answer ≡ NOT_HELD) ↔ HoldsNothing old
  pub wrong_handle : (answer ≡ WRONG_HANDLE) ↔ IsSome (port_of old)
  pub same : HoldsSame old new

-- a call that changes an end system, with these further answers: if it fails, the handle holds the same afterwards
pub record ChangesEnd (old new : Option Home) (others : List ℕ) (answer : ℕ) : Type 0 where
  pub answers : IsOneOf answer (DONE ∷ NOT_HELD ∷ WRONG_HANDLE ∷ others)
  pub not_held : (answer ≡ NOT_HELD) ↔ HoldsNothing old
  pub wrong_handle : (answer ≡ WRONG_HANDLE) ↔ IsSome (port_of old)
  pub refused : answer ≢ DONE → HoldsSame old new

-- the handle holds an end system, the number is a network's, and both have this property
abbrev pub HoldsNet : Option Home → ℕ → (Net → EndView → Type 0) → Type 0
HoldsNet held network Is = HoldsEnd held (λ end. IsSomeAnd (net_of network) (λ net. Is net end))

-- the number of the least fault of a plan's text, or of an allocation that failed
abbrev pub IsFaultNumber : List ℕ → ℕ → Type 0
IsFaultNumber text answer = (fault : ConfigFault) × (answer ≡ fault_number fault)
    × (fault ≢ Memory → IsLeastFault text fault)

-- the number of a table's fault, or of an allocation that failed
abbrev pub IsTableFaultNumber : List ℕ → ℕ → Type 0
IsTableFaultNumber table answer = (fault : TableFault) × (answer ≡ table_fault_number fault) × IsFaultOf table fault
