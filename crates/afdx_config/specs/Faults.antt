-- The faults of a plan.
use Rattle.std.specs.Prelude.{◌<◌, ◌||◌, ◌≡◌}
use Rattle.afdx_config.specs.Names.{Bool, ConfigFault, IsUtf8, List, Members, Plan, Some, Toml, cells_show, fault_number, list_any, parse_document, true, ℕ}
use Rattle.afdx_config.specs.Cells.{cells_of, plan_of}
use Rattle.afdx_config.specs.Findings.{has, value_findings}

-- some value of a document has a fault of 2 to 6
abbrev pub values_show : ConfigFault → Members → Bool
values_show fault document = list_any (has fault) (value_findings document)

-- a document has a fault of 2 to 6, or one of 7 to 14 in the values without fault
abbrev pub shows : ConfigFault → Members → Bool
shows fault document = values_show fault document || cells_show fault (cells_of document)

-- the document of a text
abbrev pub Reads : List ℕ → Members → Type 0
Reads text document = IsUtf8 text × (parse_document text ≡ Some document)

-- a text has a fault
abbrev pub HasFault : ConfigFault → List ℕ → Type 0
HasFault Toml text = (document : Members) → ¬ Reads text document
HasFault fault text = (document : Members) × Reads text document × (shows fault document ≡ true)

-- the fault of the least number that the text has
abbrev pub IsLeastFault : List ℕ → ConfigFault → Type 0
IsLeastFault text fault = HasFault fault text
    × ((other : ConfigFault) → fault_number other < fault_number fault → ¬ HasFault other text)

-- the text has no fault, and this is its plan
abbrev pub IsPlanOf : List ℕ → Plan → Type 0
IsPlanOf text plan = (document : Members)
    × Reads text document
    × (plan ≡ plan_of document)
    × ((fault : ConfigFault) → ¬ HasFault fault text)
