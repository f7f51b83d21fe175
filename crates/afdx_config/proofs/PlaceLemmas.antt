-- The place of each finding has its fault.
use Rattle.afdx_config.proofs.Names.{◌≡◌, ℕ, suc, ◌+◌, ◌-◌, List, [], ◌∷◌, get_or, Bool, nat_lt, false, true, ◌||◌, ◌&&◌, Option, Some, None, refl, ap, ◌∙◌, codes, arith, bytes_eq, slice_get, position, list_any, flat_map, AllByRecursion, option_map_or, or-true, All-from_recursion, position-Some, slice_get-get_or, bytes_eq-Decides, eq-eqb, Members, ConfigFault, Place, Top, option_map, is_row_of, PlanRule, Rule, links_clash, ports_clash, port_misfits, link_count, port_count, sub_is_packed, breaks, is_misfit, breaks_at, tells, plan_rules, rule, rule_findings, is_past_limit, EndSystem, Link, Port, PlanFinding, found, one_if, key_finding, each_row, member_keys, pair_finding, pair_findings, misfit_finding, crowd_finding, Cells, cells_of, findings, row_has, rows_have, value_has, key_has, has_place, PlacesHaveFaults, Field, document_fields, end_fields, link_fields, port_fields, field_fault, key_fault, is_fault, is_version_2, rows_at, section_at, members_at, fields_at, fault_number, nat_tests}
use Rattle.afdx_config.proofs.OnceLemmas.{r_once}
use Rattle.afdx_config.proofs.OrderLemmas.{r_append, r_fold, r_map}
use Rattle.afdx_config.specs.Findings.{plan_findings, table_findings, value_findings}

-- a property of a conditional finding
r_one : (P : PlanFinding → Type 0) (b : Bool) (x : PlanFinding) → (b ≡ true → P x) → AllByRecursion P (one_if b x)
r_one P b x step = grind (arith, nat_tests)

-- a text equals itself
bytes_same : (k : List ℕ) → bytes_eq k k ≡ true
bytes_same k = (bytes_eq-Decides k k).1 refl

-- a test that passes in the rest passes in the whole list
abbrev pub Sub : {A : Type 0} → List A → List A → Type 0
Sub {A} rest all = (q : A → Bool) → list_any q rest ≡ true → list_any q all ≡ true

sub_next : {A : Type 0} (x : A) (rest all : List A) → Sub (x ∷ rest) all → Sub rest all
sub_next x rest all sub q passes = sub q (rw passes (or-true (q x)))

-- a property of the elements of lists, each made of an element of a list
pub r_each : {A B : Type 0} (P : B → Type 0) (F : A → List B) (all rest : List A) → Sub rest all
    → ((x : A) → ((q : A → Bool) → q x ≡ true → list_any q all ≡ true) → AllByRecursion P (F x)) → AllByRecursion P (flat_map F rest)
r_each P F all [] sub step = tt
r_each P F all (x ∷ xs) sub step = r_append P (F x) (flat_map F xs) (step x (λ q passes. sub q (rw passes refl)))
    (r_each P F all xs (sub_next x xs all sub) step)

-- a property of the findings of each row
rows_have_it : {A : Type 0} (P : PlanFinding → Type 0) (each : ℕ → A → List PlanFinding) (k : ℕ) (rows : List A)
    → ((i : ℕ) (x : A) → slice_get rows i ≡ Some x → AllByRecursion P (each (i + k) x)) → AllByRecursion P (each_row each k rows)
rows_have_it P each k [] step = tt
rows_have_it P each k (x ∷ xs) step =
    let here : 0 + k ≡ k = omega arith in
    r_append P (each k x) (each_row each (k + 1) xs) (rw here at (step 0 x refl))
    (rows_have_it P each (k + 1) xs (λ i y is. let next : i + (k + 1) ≡ suc i + k = omega arith in rw next (step (suc i) y is)))

all_rows : {A : Type 0} (P : PlanFinding → Type 0) (each : ℕ → A → List PlanFinding) (all : List A)
    → ((k : ℕ) (x : A) → slice_get all (k - 1) ≡ Some x → AllByRecursion P (each k x)) → AllByRecursion P (each_row each 1 all)
all_rows P each all step = rows_have_it P each 1 all (λ i x is. step (i + 1) x (let back : i + 1 - 1 ≡ i = omega arith in rw back is))

-- a place has this table and this format
abbrev At : Members → Place → List Field → Members → Type 0
At doc place fields members = (members_at doc place ≡ Some members) × (fields_at doc place ≡ fields)

-- a property of the findings of each table
pub values_have : (P : PlanFinding → Type 0) (doc : Members)
    → ((place : Place) (fields : List Field) (members : Members) → At doc place fields members → AllByRecursion P (table_findings place fields members))
    → AllByRecursion P (value_findings doc)
unfolding value_findings
values_have P doc step =
    let rows : (like : ℕ → Place) (fields : List Field) (all : List Members)
    → ((k : ℕ) (m : Members) → slice_get all (k - 1) ≡ Some m → At doc (like k) fields m)
    → AllByRecursion P (each_row (λ k m. table_findings (like k) fields m) 1 all) = λ like fields all at.
    all_rows P (λ k m. table_findings (like k) fields m) all (λ k m is. step (like k) fields m (at k m is)) in
    r_append P _ _ (r_append P _ _ (r_append P _ _ (step Top document_fields doc (refl, refl))
    (end (section_at (codes "end_system") doc) refl))
    (rows Link (link_fields (is_version_2 doc)) (rows_at (codes "vl") doc) (λ k m is. (is, refl))))
    (rows Port (port_fields (is_version_2 doc)) (rows_at (codes "port") doc) (λ k m is. (is, refl)))
  where
    end : (o : Option Members) → section_at (codes "end_system") doc ≡ o → AllByRecursion P (option_map_or (table_findings EndSystem end_fields) o [])
    end None is = tt
    end (Some m) is = step EndSystem end_fields m (is, refl)

abbrev Fine : Members → PlanFinding → Type 0
Fine doc f = has_place doc f ≡ true

r_key : (P : PlanFinding → Type 0) (place : Place) (key : List ℕ) (o : Option ConfigFault)
    → ((g : ConfigFault) → o ≡ Some g → P (found g place key None)) → AllByRecursion P (key_finding place key o)
r_key P place key o step = grind (arith, nat_tests)

number_is : (g : ConfigFault) → is_fault g (Some g) ≡ true
number_is g = eq-eqb (fault_number g) (fault_number g) refl

table_fine : (doc : Members) (place : Place) (fields : List Field) (members : Members) → At doc place fields members
    → AllByRecursion (Fine doc) (table_findings place fields members)
unfolding table_findings
table_fine doc place fields members at = r_append (Fine doc) _ _
    (r_each (Fine doc) (λ field. key_finding place field.key (field_fault members field)) fields fields (λ q passes. passes)
    (λ field inside. r_key (Fine doc) place field.key (field_fault members field) (λ g is.
    let here = inside (λ other. bytes_eq field.key other.key && is_fault g (field_fault members other)) (rw (bytes_same field.key, is, number_is g) refl) in
    rw (at.0, at.1, here) refl)))
    (r_each (Fine doc) (λ key. key_finding place key (key_fault fields key)) (member_keys members) (member_keys members) (λ q passes. passes)
    (λ key inside. r_key (Fine doc) place key (key_fault fields key) (λ g is.
    let here = inside (bytes_eq key) (bytes_same key) in grind (arith, nat_tests, or-true))))

-- a finding of a rule whose place breaks it
abbrev Broken : Cells → PlanRule → PlanFinding → Type 0
Broken cells r f = tells cells f r ≡ true

broken_at : (cells : Cells) (r : PlanRule) (place : Place) (other : Option ℕ) → breaks_at r.forbids cells place other ≡ true
    → Broken cells r (found r.fault place r.key other)
broken_at cells r place other is = rw (eq-eqb (fault_number r.fault) (fault_number r.fault) refl, bytes_same r.key, is) refl

-- a row that passes
row_passes : {A : Type 0} (test : A → Bool) (rows : List A) (k : ℕ) (x : A) → slice_get rows (k - 1) ≡ Some x → test x ≡ true
    → row_has test rows k ≡ true
row_passes test rows k x is passes = rw is passes

-- two rows that are related
pair_fine : {A : Type 0} (cells : Cells) (r : PlanRule) (at : ℕ → Place) (related : A → A → Bool) (all : List A)
    → ((k j : ℕ) → rows_have related all k (Some j) ≡ true → breaks_at r.forbids cells (at k) (Some j) ≡ true)
    → AllByRecursion (Broken cells r) (pair_findings r.fault r.key at related all)
pair_fine {A = A} cells r at related all fine =
    all_rows (Broken cells r) (λ k x. pair_finding r.fault r.key at k (position (λ e. related e x) all)) all
    (λ k x is. here k x is (position (λ e. related e x) all) refl)
  where
    here : (k : ℕ) (x : A) → slice_get all (k - 1) ≡ Some x → (o : Option ℕ) → position (λ e. related e x) all ≡ o
        → AllByRecursion (Broken cells r) (pair_finding r.fault r.key at k o)
    here k x there None is = tt
    here k x there (Some i) is = r_one (Broken cells r) (nat_lt (i + 1) k) (found r.fault (at k) r.key (Some (i + 1))) (λ early.
        let passes = position-Some (λ e. related e x) all i x is in
        let index : i + 1 - 1 ≡ i = omega arith in
        let other : slice_get all (i + 1 - 1) ≡ Some (get_or all i x) =
        ap (slice_get all) index ∙ slice_get-get_or all i x passes.0 in
        broken_at cells r (at k) (Some (i + 1)) (fine k (i + 1) (rw (
          early,
          row_passes (λ a. row_has (λ e. related e a) all (i + 1)) all k x there
              (row_passes (λ e. related e x) all (i + 1) (get_or all i x) other passes.1),
        ) refl)))

rule_fine : (cells : Cells) (f : ConfigFault) (key : List ℕ) (by : Rule)
    → AllByRecursion (Broken cells (rule f key by)) (rule_findings f key by cells)
rule_fine cells f key (links_clash clash) = pair_fine cells (rule f key (links_clash clash)) Link clash cells.links (λ k j is. is)
rule_fine cells f key (ports_clash clash) = pair_fine cells (rule f key (ports_clash clash)) Port clash cells.ports (λ k j is. is)
rule_fine cells f key (port_misfits misfits) = all_rows (Broken cells (rule f key (port_misfits misfits))) (misfit_finding f key misfits cells) cells.ports
    (λ k p is. r_one _ (is_misfit misfits cells p) _ (λ bad.
    broken_at cells (rule f key (port_misfits misfits)) (Port k) (option_map (λ i. i + 1) (position (is_row_of p) cells.links))
    (row_passes (is_misfit misfits cells) cells.ports k p is bad)))
rule_fine cells f key link_count = r_one _ (breaks cells link_count) _ (λ bad. broken_at cells (rule f key link_count) Top None bad)
rule_fine cells f key port_count = r_one _ (breaks cells port_count) _ (λ bad. broken_at cells (rule f key port_count) Top None bad)
rule_fine cells f key sub_is_packed = all_rows (Broken cells (rule f key sub_is_packed)) (crowd_finding f key cells.ports) cells.ports
    (λ k p is. r_one _ (is_past_limit cells.ports k p) _ (λ bad.
    broken_at cells (rule f key sub_is_packed) (Port k) None (row_passes (is_past_limit cells.ports k) cells.ports k p is bad)))

-- the place of a finding of 7 to 14 has its fault
abbrev pub Has : Cells → PlanFinding → Type 0
Has cells f = list_any (tells cells f) plan_rules ≡ true

pub plan_fine : (cells : Cells) → AllByRecursion (Has cells) (plan_findings cells)
unfolding plan_findings
plan_fine cells = r_each (Has cells) (λ (r : PlanRule). rule_findings r.fault r.key r.forbids cells) plan_rules plan_rules (λ q passes. passes)
    (λ r inside. r_map (Broken cells r) (Has cells) _ (λ f is. inside (tells cells f) is) (rule_fine cells r.fault r.key r.forbids))

pub places_have_faults : PlacesHaveFaults
places_have_faults doc = All-from_recursion (λ f. has_place doc f ≡ true) (findings doc)
    (r_fold (Fine doc) [] _ tt (r_once (Fine doc) false _ (r_append (Fine doc) _ _ (values_have (Fine doc) doc (table_fine doc))
    (r_map (Has (cells_of doc)) (Fine doc) (plan_findings (cells_of doc))
    (λ f is. rw is (or-true (value_has doc f || key_has doc f))) (plan_fine (cells_of doc))))))
