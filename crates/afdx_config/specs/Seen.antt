-- The specification values of documents, formats and findings in the code.
use Rattle.std.specs.Prelude.{◌++◌, ◌∷◌, ◌≡◌, ◌≤◌}
use Rattle.afdx_config.specs.Names.{All, AllByRecursion, Cells, ConfigFault, IsLink, IsPort, List, Members, None, Option, Plan, Some, [], codes, length, list_any, map, option_map, plan_of_parts, string_bytes, table_view, take, ⊤}
use Rattle.afdx_config.specs.Cells.{link_of, port_of}
use Rattle.afdx_config.specs.Findings.{PlanFinding, by_fault, is_newer, lines_limit, number_of, told_once}
use Rattle.afdx_config.specs.declared.rows.Rows.{Rows}
use Rattle.afdx_config.specs.declared.findings.PlanFinding.{PlanFinding as Written}
use Rattle.afdx_config.specs.declared.findings.Found.{Found}
use Rattle.afdx_config.specs.Format.{Field}
use Rattle.afdx_config.specs.Tables.{field_fault, section_at, rows_at, is_version_2}
use Rattle.afdx_config.specs.declared.format.Field.{Field as WrittenField}
use Rattle.afdx_config.specs.declared.document.Document.{Document}

-- the finding
abbrev pub finding_of : Written → PlanFinding
finding_of written = record {
  fault = written.fault;
  place = written.place;
  key = string_bytes written.key;
  other = written.other;
}

-- the fault of the first finding
abbrev pub fault_of : List PlanFinding → Option ConfigFault
fault_of [] = None
fault_of (x ∷ xs) = Some x.fault

-- the values
abbrev pub cells_in : Rows → Cells
cells_in rows = record {
  links = rows.links.items;
  ports = rows.ports.items;
  has_links = rows.has_links;
  has_ports = rows.has_ports;
}

-- the plan of the values
abbrev pub plan_in : Rows → Plan
plan_in rows = plan_of_parts rows.end_system (map link_of rows.links.items) (map port_of rows.ports.items)

-- the numbers and addresses are in their ranges
pub record AreInRange (rows : Rows) : Type 0 where
  pub links : All (λ row. IsLink (link_of row)) rows.links.items
  pub ports : All (λ row. IsPort (port_of row)) rows.ports.items

-- no fault has a greater number than one after it
abbrev pub IsOrdered : List PlanFinding → Type 0
IsOrdered [] = ⊤
IsOrdered (x ∷ xs) = AllByRecursion (λ y. number_of x ≤ number_of y) xs × IsOrdered xs

-- the first 1,000 of these findings by the numbers of their faults are kept, and all are counted
pub record Keeps (found : Found) (told : List PlanFinding) : Type 0 where
  pub first_are : map finding_of found.first.items ≡ take lines_limit (by_fault told)
  pub count_is : found.count ≡ length (by_fault told)

-- a finding was added to the kept ones
abbrev pub KeepsOne : Found → Found → PlanFinding → Type 0
KeepsOne old new x = (told : List PlanFinding) → Keeps old told → Keeps new (told ++ x ∷ [])

-- the findings that have a cause of their own are kept
pub record Holds (found : Found) (all : List PlanFinding) : Type 0 where
  pub keeps : Keeps found (told_once all)
  pub newer_is : found.has_newer ≡ list_any is_newer all

-- the findings `more` were added
abbrev pub Adds : Found → Found → List PlanFinding → Type 0
Adds old new more = (all : List PlanFinding) → Holds old all → Holds new (all ++ more)

-- the field of the specification
abbrev pub field_of : WrittenField → Field
field_of written = record {
  key = written.0.now;
  content = written.1;
}

-- the data of a document
abbrev pub data_of : Document → Members
data_of document = table_view document.top.now

-- the tables and the version are the document's
pub record IsDocument (document : Document) : Type 0 where
  pub end_is : option_map (λ t. table_view t.now) document.end ≡ section_at (codes "end_system") (data_of document)
  pub links_are : map (λ r. table_view r.now) document.links.items ≡ rows_at (codes "vl") (data_of document)
  pub ports_are : map (λ r. table_view r.now) document.ports.items ≡ rows_at (codes "port") (data_of document)
  pub version_is : document.is_2 ≡ is_version_2 (data_of document)

-- no key of this format has a fault in the table
abbrev pub IsSoundTable : List Field → Members → Type 0
IsSoundTable fields members = AllByRecursion (λ field. field_fault members field ≡ None) fields
