-- A document has a fault exactly if some finding has it.
use Rattle.afdx_config.proofs.Names.{length-append, ◌≡◌, ℕ, ◌+◌, ◌<◌, ◌≤◌, List, [], ◌∷◌, ◌++◌, length, Bool, true, false, ◌||◌, ◌&&◌, append_assoc, lit≤, Option, Some, None, refl, ap, sym, ◌∙◌, arith, ◌==◌, nat_tests, or-false, and-true, and-false, and-or_distrib_left, list_any-append, position, position_from, list_any, then_some, position_from-zero, AllByRecursion, not, Data, Members, get_member, fault_number, has_pair, ConfigFault, Toml, UnknownKey, Place, Top, Link, Port, Field, flat_map, PlanRule, Rule, links_clash, ports_clash, port_misfits, link_count, port_count, sub_is_packed, breaks, is_misfit, plan_rules, rule_findings, shows, values_show, PlanFinding, found, has, is_before, one_if, key_finding, member_keys, each_row, pair_finding, pair_findings, is_past_limit, misfit_finding, crowd_finding, Cells, cells_show, any_row, field_fault, key_fault, is_key_of, IfSome, Content, Result, content_fault, FaultsAreFound, result_err, read, value_findings}
use Rattle.afdx_config.specs.Findings.{plan_findings, table_findings}
use Rattle.afdx_config.proofs.OnceLemmas.{any_once}
use Rattle.afdx_config.proofs.OrderLemmas.{any_by_fault, r_append, r_map}
use Rattle.afdx_config.proofs.PlaceLemmas.{r_each, values_have}

-- no element passes
pub any_no : {A : Type 0} (xs : List A) → list_any (λ x. false) xs ≡ false
any_no [] = refl
any_no (x ∷ xs) = any_no xs

-- a conditional finding
one : (f : ConfigFault) (b : Bool) (x : PlanFinding) → list_any (has f) (one_if b x) ≡ (has f x && b)
one f true x = or-false (has f x) ∙ sym (and-true (has f x))
one f false x = sym (and-false (has f x))

-- two faults have the same number
abbrev same : ConfigFault → ConfigFault → Bool
same f g = fault_number f == fault_number g

-- the findings of each row, which have the fault g
rows_shown : {A : Type 0} (f g : ConfigFault) (each : ℕ → A → List PlanFinding) (test : ℕ → A → Bool) (k : ℕ) (xs : List A)
    → ((j : ℕ) (x : A) → list_any (has f) (each j x) ≡ (same f g && test j x))
    → list_any (has f) (each_row each k xs) ≡ (same f g && any_row test k xs)
rows_shown f g each test k [] shown = sym (and-false (same f g))
rows_shown f g each test k (x ∷ xs) shown =
    grind (arith, nat_tests, list_any-append, and-or_distrib_left, rows_shown f g each test (k + 1) xs shown)

any_one : {A : Type 0} (p : A → Bool) (k : ℕ) (xs : List A) → any_row (λ j x. p x) k xs ≡ list_any p xs
any_one p k [] = refl
any_one p k (x ∷ xs) = ap (λ b. p x || b) (any_one p (k + 1) xs)

-- the first row that passes is before row k exactly if some row before it passes
late : {A : Type 0} (p : A → Bool) (n k : ℕ) (rows : List A) → k ≤ n + 1 → is_before k (position_from p n rows) ≡ false
late p n k [] small = refl
late p n k (x ∷ xs) small = grind (arith, nat_tests, late p (n + 1) k xs (omega arith))

early_from : {A : Type 0} (p : A → Bool) (n k : ℕ) (before rest : List A) → k ≡ n + length before + 1
    → is_before k (position_from p n (before ++ rest)) ≡ list_any p before
early_from p n k [] rest is = late p n k rest (omega arith)
early_from p n k (y ∷ ys) rest is = grind (arith, nat_tests, early_from p (n + 1) k ys rest (omega arith))

early : {A : Type 0} (p : A → Bool) (k : ℕ) (before rest : List A) → k ≡ length before + 1
    → is_before k (position p (before ++ rest)) ≡ list_any p before
early p k before rest is = ap (is_before k) (position_from-zero p (before ++ rest)) ∙ early_from p 0 k before rest (omega arith)

-- one row more before
more_before : {A : Type 0} (related : A → A → Bool) (before : List A) (x : A) (xs : List A)
    → list_any (λ y. list_any (λ e. related e y) (before ++ x ∷ [])) xs
    ≡ (list_any (λ y. list_any (λ e. related e y) before) xs || list_any (related x) xs)
more_before related before x [] = refl
more_before related before x (y ∷ ys) = grind (arith, nat_tests, list_any-append, (more_before related before x ys))

-- the tests of the rows that clash with an earlier one
any_pair : {A : Type 0} (related : A → A → Bool) (all before rest : List A) (k : ℕ) → all ≡ before ++ rest → k ≡ length before + 1
    → any_row (λ j x. is_before j (position (λ e. related e x) all)) k rest
    ≡ (list_any (λ x. list_any (λ e. related e x) before) rest || has_pair related rest)
any_pair related all before [] k is at = refl
any_pair related all before (x ∷ xs) k is at =
    let this : is_before k (position (λ e. related e x) all) ≡ list_any (λ e. related e x) before =
    ap (λ rows. is_before k (position (λ e. related e x) rows)) is ∙ early (λ e. related e x) k before (x ∷ xs) at in
    let rest = any_pair related all (before ++ x ∷ []) xs (k + 1) (is ∙ sym (append_assoc before (x ∷ []) xs))
    (rw (length-append before (x ∷ [])) (omega arith)) in
    rw (this, rest, more_before related before x xs)
    (grind arith)

pairs_shown : {A : Type 0} (f g : ConfigFault) (key : List ℕ) (at : ℕ → Place) (related : A → A → Bool) (rows : List A)
    → list_any (has f) (pair_findings g key at related rows) ≡ (same f g && has_pair related rows)
pairs_shown f g key at related rows =
    rows_shown f g (λ k x. pair_finding g key at k (position (λ e. related e x) rows)) (λ k x. is_before k (position (λ e. related e x) rows)) 1 rows
    (λ k x. one f (is_before k (position (λ e. related e x) rows)) _)
    ∙ ap (λ b. same f g && b) (any_pair related rows [] rows 1 refl refl ∙ ap (λ b. b || has_pair related rows) (any_no rows))

-- the findings of a rule
rule_shown : (f g : ConfigFault) (key : List ℕ) (rule : Rule) (cells : Cells)
    → list_any (has f) (rule_findings g key rule cells) ≡ (same f g && breaks cells rule)
rule_shown f g key (links_clash clash) cells = pairs_shown f g key Link clash cells.links
rule_shown f g key (ports_clash clash) cells = pairs_shown f g key Port clash cells.ports
rule_shown f g key (port_misfits misfit) cells = rows_shown f g (misfit_finding g key misfit cells) (λ k p. is_misfit misfit cells p) 1 cells.ports
    (λ k p. one f (is_misfit misfit cells p) _) ∙ ap (λ b. same f g && b) (any_one (is_misfit misfit cells) 1 cells.ports)
rule_shown f g key link_count cells = one f (breaks cells link_count) (found g Top key None)
rule_shown f g key port_count cells = one f (breaks cells port_count) (found g Top key None)
rule_shown f g key sub_is_packed cells = rows_shown f g (crowd_finding g key cells.ports) (is_past_limit cells.ports) 1 cells.ports
    (λ k p. one f (is_past_limit cells.ports k p) (found g (Port k) key None))

rules_shown : (f : ConfigFault) (cells : Cells) (some : List PlanRule)
    → list_any (has f) (flat_map (λ (r : PlanRule). rule_findings r.fault r.key r.forbids cells) some)
    ≡ list_any (λ (r : PlanRule). same f r.fault && breaks cells r.forbids) some
rules_shown f cells [] = refl
rules_shown f cells (r ∷ rest) = grind (arith, nat_tests, list_any-append, rule_shown, (rules_shown f cells rest))

-- the findings of 7 to 14
pub plan_shown : (f : ConfigFault) (cells : Cells) → list_any (has f) (plan_findings cells) ≡ cells_show f cells
unfolding plan_findings
plan_shown f cells = rules_shown f cells plan_rules

-- each fault of a document has a finding
pub faults_are_found : FaultsAreFound
faults_are_found doc f = grind (arith, nat_tests, any_by_fault, any_once, list_any-append, plan_shown, values_show)

-- a fault other than `Toml`
abbrev IsValue : ConfigFault → Type 0
IsValue f = 1 < fault_number f

-- values have only such faults
one_in : (b : Bool) (fault : ConfigFault) → IsValue fault → IfSome (then_some b fault) IsValue
one_in b fault is = grind (arith, nat_tests)

read_in : {X Y : Type 0} (missing : Result Y ConfigFault) (kind : Data → Option X) (convert : X → Option Y) (fault : ConfigFault) (o : Option Data)
    → IsValue fault → IfSome (result_err missing) IsValue → IfSome (result_err (read missing kind convert fault o)) IsValue
read_in missing kind convert fault None is lack = lack
read_in missing kind convert fault (Some v) is lack = grind (arith, nat_tests)

under_in : (content : Content) (o : Option Data) → IfSome (content_fault content o) IsValue
under_in content o = grind (arith, nat_tests, read_in)

key_in : (place : Place) (key : List ℕ) (o : Option ConfigFault) → IfSome o IsValue → AllByRecursion (λ x. IsValue x.fault) (key_finding place key o)
key_in place key o is = grind (arith, nat_tests)

table_in : (place : Place) (fields : List Field) (members : Members) → AllByRecursion (λ x. IsValue x.fault) (table_findings place fields members)
unfolding table_findings
table_in place fields members = r_append (λ x. IsValue x.fault) _ _
    (r_each _ (λ field. key_finding place field.key (field_fault members field)) fields fields (λ q passes. passes)
    (λ field _. key_in place field.key _ (under_in field.content (get_member field.key members))))
    (r_each _ (λ key. key_finding place key (key_fault fields key)) (member_keys members) (member_keys members) (λ q passes. passes)
    (λ key _. key_in place key _ (one_in (not (is_key_of fields key)) UnknownKey (lit≤ tt))))

values_in : (doc : Members) → AllByRecursion (λ x. IsValue x.fault) (value_findings doc)
values_in doc = values_have (λ x. IsValue x.fault) doc (λ place fields members at. table_in place fields members)

-- no finding has this fault
pub none_has : (f : ConfigFault) (xs : List PlanFinding) → AllByRecursion (λ x. same f x.fault ≡ false) xs → list_any (has f) xs ≡ false
none_has f [] all = refl
none_has f (x ∷ xs) all = rw all.0 (none_has f xs all.1)

pub no_toml : (doc : Members) → shows Toml doc ≡ false
no_toml doc = grind (arith, nat_tests, none_has, r_map, values_in)
