-- Laws of the findings of a document.
use Rattle.std.specs.Prelude.{◌&&◌, ◌-◌, ◌||◌, ◌∷◌, ◌≡◌}
use Rattle.afdx_config.specs.Names.{All, Bool, Cells, ConfigFault, List, Members, None, Option, PlanRule, Rule, Some, UnknownKey, [], breaks, bytes_eq, codes, false, is_misfit, is_past_limit, link_count, links_clash, list_any, nat_lt, not, option_map_or, plan_rules, plan_shows, port_count, port_misfits, ports_clash, slice_get, sub_is_packed, true, ℕ}
use Rattle.afdx_config.specs.Cells.{cells_of, plan_of}
use Rattle.afdx_config.specs.declared.findings.Place.{Place}
use Rattle.afdx_config.specs.declared.findings.Place.TheVariants.{Text, Top, EndSystem, Link, Port}
use Rattle.afdx_config.specs.Faults.{shows, values_show, Reads, IsLeastFault, IsPlanOf}
use Rattle.afdx_config.specs.Findings.{PlanFinding, findings, has}
use Rattle.afdx_config.specs.Tables.{member_keys, field_fault, is_fault, is_key_of, is_version_2, rows_at, section_at}
use Rattle.afdx_config.specs.Format.{Field, document_fields, end_fields, link_fields, port_fields}

-- a document has a fault exactly if some finding has it
abbrev pub FaultsAreFound : Type 0
FaultsAreFound = (document : Members) (fault : ConfigFault)
    → shows fault document ≡ list_any (has fault) (findings document)

-- the fault of the first finding is the one that `read_config` returns; without findings it returns the
-- document's plan
abbrev pub FirstIsAnswered : Type 0
FirstIsAnswered = (text : List ℕ) (document : Members) → Reads text document
    → (findings document ≡ [] → IsPlanOf text (plan_of document))
    × ((first : PlanFinding) (rest : List PlanFinding) → findings document ≡ first ∷ rest
    → IsLeastFault text first.fault)

-- if a document has no fault of 2 to 6, its faults are its plan's
abbrev pub RulesAgree : Type 0
RulesAgree = (document : Members) → ((value : ConfigFault) → values_show value document ≡ false)
    → (fault : ConfigFault) → shows fault document ≡ plan_shows fault (plan_of document)

-- the table at a place
abbrev pub members_at : Members → Place → Option Members
members_at document (Text line column) = None
members_at document Top = Some document
members_at document EndSystem = section_at (codes "end_system") document
members_at document (Link k) = slice_get (rows_at (codes "vl") document) (k - 1)
members_at document (Port k) = slice_get (rows_at (codes "port") document) (k - 1)

-- the keys of the format of the table at a place
abbrev pub fields_at : Members → Place → List Field
fields_at document (Text line column) = []
fields_at document Top = document_fields
fields_at document EndSystem = end_fields
fields_at document (Link k) = link_fields (is_version_2 document)
fields_at document (Port k) = port_fields (is_version_2 document)

-- the table at a place exists and passes a test
abbrev pub table_has : (Members → Bool) → Members → Place → Bool
table_has test document place = option_map_or test (members_at document place) false

-- the finding's key is in the table's format and has the fault
abbrev pub value_has : Members → PlanFinding → Bool
value_has document f = table_has (λ members. list_any
    (λ field. bytes_eq f.key field.key && is_fault f.fault (field_fault members field))
    (fields_at document f.place)) document f.place

-- the finding's key is in the table but not in its format
abbrev pub key_has : Members → PlanFinding → Bool
key_has document f = table_has (λ members.
    (is_fault f.fault (Some UnknownKey) && not (is_key_of (fields_at document f.place) f.key))
    && list_any (bytes_eq f.key) (member_keys members)) document f.place

-- row k, counted from 1, passes a test
abbrev pub row_has : {A : Type 0} → (A → Bool) → List A → ℕ → Bool
row_has test rows k = option_map_or test (slice_get rows (k - 1)) false

-- row k and an earlier one are related
abbrev pub rows_have : {A : Type 0} → (A → A → Bool) → List A → ℕ → Option ℕ → Bool
rows_have related rows k None = false
rows_have related rows k (Some j) = nat_lt j k && row_has (λ a. row_has (λ earlier. related earlier a) rows j) rows k

-- the links, the port or the count at a place break a rule
abbrev pub breaks_at : Rule → Cells → Place → Option ℕ → Bool
breaks_at (links_clash clash) cells (Link k) other = rows_have clash cells.links k other
breaks_at (ports_clash clash) cells (Port k) other = rows_have clash cells.ports k other
breaks_at (port_misfits misfit) cells (Port k) other = row_has (is_misfit misfit cells) cells.ports k
breaks_at link_count cells Top other = breaks cells link_count
breaks_at port_count cells Top other = breaks cells port_count
breaks_at sub_is_packed cells (Port k) other = row_has (is_past_limit cells.ports k) cells.ports k
breaks_at _ cells _ other = false

-- a finding is one of a rule, which is broken at its place
abbrev pub tells : Cells → PlanFinding → PlanRule → Bool
tells cells f r = (has r.fault f && bytes_eq f.key r.key) && breaks_at r.forbids cells f.place f.other

-- the table or value at a finding's place has its fault
abbrev pub has_place : Members → PlanFinding → Bool
has_place document f = (value_has document f || key_has document f)
    || list_any (tells (cells_of document) f) plan_rules

-- the place of each finding has its fault: the key is missing, its value has the wrong kind or is out of range, or the
-- key is unknown; both tables of a fault of two exist, and the table named second is the earlier one
abbrev pub PlacesHaveFaults : Type 0
PlacesHaveFaults = (document : Members) → All (λ f. has_place document f ≡ true) (findings document)
