-- All faults of a document, each with its place.
use Rattle.std.specs.Prelude.{if◌then◌else◌, ◌&&◌, ◌++◌, ◌+◌, ◌==◌, ◌||◌, ◌∷◌, ◌≡◌}
use Rattle.afdx_config.specs.Names.{Bool, Cells, ConfigFault, List, Members, Misfit, None, Option, PlanRule, PortRow, Rule, Some, UnknownKey, [], breaks, bytes_eq, codes, false, fault_number, flat_map, fold, is_misfit, is_past_limit, is_row_of, length, link_count, links_clash, nat_lt, option_map, option_map_or, plan_rules, port_count, port_misfits, ports_clash, position, sub_is_packed, take, true, ℕ}
use Rattle.afdx_config.specs.declared.findings.Place.{Place}
use Rattle.afdx_config.specs.declared.findings.Place.TheVariants.{Top, EndSystem, Link, Port}
use Rattle.afdx_config.specs.Format.{Field, document_fields, end_fields, link_fields, port_fields}
use Rattle.afdx_config.specs.Cells.{cells_of}
use Rattle.afdx_config.specs.Tables.{member_keys, field_fault, key_fault, rows_at, section_at, is_version_2}

-- a fault, its place, its key, and the other table of a fault of two
pub record PlanFinding : Type 0 where
  pub fault : ConfigFault
  pub place : Place
  pub key : List ℕ
  pub other : Option ℕ

-- a finding made of its parts
abbrev pub found : ConfigFault → Place → List ℕ → Option ℕ → PlanFinding
found which at name with_other = record { fault = which; place = at; key = name; other = with_other }

-- a finding has this fault
abbrev pub has : ConfigFault → PlanFinding → Bool
has fault finding = fault_number fault == fault_number finding.fault

-- one finding if the test holds, else none
abbrev pub one_if : Bool → PlanFinding → List PlanFinding
one_if true finding = finding ∷ []
one_if false finding = []

-- the finding of a key, if it has a fault
abbrev pub key_finding : Place → List ℕ → Option ConfigFault → List PlanFinding
key_finding place key None = []
key_finding place key (Some fault) = found fault place key None ∷ []

-- the findings of the keys of a table's format
abbrev pub field_findings : Place → List Field → Members → List PlanFinding
field_findings place fields members = flat_map (λ field. key_finding place field.key (field_fault members field)) fields

-- the findings of a table's own keys
abbrev pub key_findings : Place → List Field → Members → List PlanFinding
key_findings place fields members = flat_map (λ key. key_finding place key (key_fault fields key)) (member_keys members)

-- the findings of a table: first on the keys of its format, then on its own keys
unfoldable pub table_findings : Place → List Field → Members → List PlanFinding
table_findings place fields members = field_findings place fields members ++ key_findings place fields members

-- the findings of the rows of an array, counted from k
abbrev pub each_row : {A : Type 0} → (ℕ → A → List PlanFinding) → ℕ → List A → List PlanFinding
each_row each k [] = []
each_row each k (row ∷ rest) = each k row ++ each_row each (k + 1) rest

-- the place of row k of the array of this place
abbrev pub row_like : Place → ℕ → Place
row_like (Link j) k = Link k
row_like _ k = Port k

-- the findings of 2 to 6: on the top level, the end system, the links and the ports
unfoldable pub value_findings : Members → List PlanFinding
value_findings document = table_findings Top document_fields document
    ++ option_map_or (table_findings EndSystem end_fields) (section_at (codes "end_system") document) []
    ++ each_row
    (λ k row. table_findings (Link k) (link_fields (is_version_2 document)) row) 1
    (rows_at (codes "vl") document)
    ++ each_row
    (λ k row. table_findings (Port k) (port_fields (is_version_2 document)) row) 1
    (rows_at (codes "port") document)

-- an index is that of a row before row k
abbrev pub is_before : ℕ → Option ℕ → Bool
is_before k None = false
is_before k (Some i) = nat_lt (i + 1) k

-- the fault of table k and of the first one that it clashes with, which is at this index, if that one is earlier
abbrev pub pair_finding : ConfigFault → List ℕ → (ℕ → Place) → ℕ → Option ℕ → List PlanFinding
pair_finding fault key at k first =
    one_if (is_before k first) (found fault (at k) key (option_map (λ i. i + 1) first))

-- the findings of the rows that clash with an earlier one, each with the first such row
abbrev pub pair_findings : {A : Type 0} → ConfigFault → List ℕ → (ℕ → Place) → (A → A → Bool) → List A
    → List PlanFinding
pair_findings fault key at clash rows =
    each_row (λ k row. pair_finding fault key at k (position (λ earlier. clash earlier row) rows)) 1 rows

-- the finding of port k that names the number of its link, if it does not fit that link
abbrev pub misfit_finding : ConfigFault → List ℕ → Misfit → Cells → ℕ → PortRow → List PlanFinding
misfit_finding fault key misfit cells k port = one_if (is_misfit misfit cells port)
    (found fault (Port k) key (option_map (λ i. i + 1) (position (is_row_of port) cells.links)))

-- the finding of port k, if it is past the 64th on its sub-VL
abbrev pub crowd_finding : ConfigFault → List ℕ → List PortRow → ℕ → PortRow → List PlanFinding
crowd_finding fault key ports k port = one_if (is_past_limit ports k port) (found fault (Port k) key None)

-- the findings of links and ports that break a rule
abbrev pub rule_findings : ConfigFault → List ℕ → Rule → Cells → List PlanFinding
rule_findings fault key (links_clash clash) cells = pair_findings fault key Link clash cells.links
rule_findings fault key (ports_clash clash) cells = pair_findings fault key Port clash cells.ports
rule_findings fault key (port_misfits misfit) cells = each_row (misfit_finding fault key misfit cells) 1 cells.ports
rule_findings fault key link_count cells = one_if (breaks cells link_count) (found fault Top key None)
rule_findings fault key port_count cells = one_if (breaks cells port_count) (found fault Top key None)
rule_findings fault key sub_is_packed cells = each_row (crowd_finding fault key cells.ports) 1 cells.ports

-- the findings of 7 to 14
unfoldable pub plan_findings : Cells → List PlanFinding
plan_findings cells = flat_map (λ (r : PlanRule). rule_findings r.fault r.key r.forbids cells) plan_rules

-- the number of a finding's fault
abbrev pub number_of : PlanFinding → ℕ
number_of finding = fault_number finding.fault

-- a list with one more finding, put after the findings of faults with no greater number
abbrev pub put : List PlanFinding → PlanFinding → List PlanFinding
put [] x = x ∷ []
put (y ∷ ys) x = if nat_lt (number_of x) (number_of y) then x ∷ y ∷ ys else y ∷ put ys x

-- findings ordered by the numbers of their faults; findings of one fault keep their order
abbrev pub by_fault : List PlanFinding → List PlanFinding
by_fault all = fold put [] all

-- a key of a link or a port that only version 2 has
abbrev pub is_newer_key : Place → List ℕ → Bool
is_newer_key (Link k) key = bytes_eq key (codes "networks")
is_newer_key (Port k) key = bytes_eq key (codes "checksum")
is_newer_key _ key = false

-- an unknown key that only version 2 has
abbrev pub is_newer : PlanFinding → Bool
is_newer finding = has UnknownKey finding && is_newer_key finding.place finding.key

-- findings without any of a key that only version 2 has, except the first if none was told before
abbrev pub once_after : Bool → List PlanFinding → List PlanFinding
once_after told [] = []
once_after told (x ∷ xs) = if told && is_newer x then once_after told xs else x ∷ once_after (told || is_newer x) xs

-- Findings that each have a cause of their own: the first of a key that only version 2 has, and all others.
abbrev pub told_once : List PlanFinding → List PlanFinding
told_once all = once_after false all

-- all findings of a document, ordered by the number of the fault, then by the order of the tables
abbrev pub findings : Members → List PlanFinding
findings document = by_fault (told_once (value_findings document ++ plan_findings (cells_of document)))

-- the most findings that are kept, and have a line each
abbrev pub lines_limit : ℕ
lines_limit = 1000

-- the first of these findings, and the number of all
pub record Tells (all first : List PlanFinding) (count : ℕ) : Type 0 where
  pub first_are : first ≡ take lines_limit all
  pub count_is : count ≡ length all
