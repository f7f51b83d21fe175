-- A document whose values have no fault has the faults of its plan.
use Rattle.afdx_config.proofs.Names.{arith, nat_tests, true, ◌≡◌, ◌<◌, List, [], ◌∷◌, Bool, false, map, refl, ap, sym, ◌∙◌, AllByRecursion, list_any, ◌||◌, ◌&&◌, ◌==◌, is_none, Members, Plan, cells_of, cells_show, plan_of, PlanRule, breaks, link_whole, port_whole, whole, plan_rules, Top, Link, Port, document_fields, link_fields, port_fields, is_version_2, IsSoundTable, RulesAgree, PlanFinding, ConfigFault, eq-eqb, fault_number, findings, has, link_of, port_of, plan_shows, All-map, AreInRange, plan_in, Rows, IsPlan, IsLink, IsPort, Unbroken, valid}
use Rattle.afdx_config.specs.Cells.{link_row, port_row}
use Rattle.afdx_config.specs.Findings.{value_findings}
use Rattle.afdx_config.proofs.FirstLemmas.{no_value}
use Rattle.afdx_config.proofs.ShownLemmas.{faults_are_found}
use Rattle.afdx_config.proofs.SoundLemmas.{known, none, rows_sound, table_sound}

-- a table without faults has all its values
link_is : (is_2 : Bool) (m : Members) → IsSoundTable (link_fields is_2) m → link_row is_2 m ≡ link_whole (link_of (link_row is_2 m))
unfolding link_row
link_is true m sound = grind (arith, known)
link_is false m sound = grind (arith, known)

port_is : (is_2 : Bool) (m : Members) → IsSoundTable (port_fields is_2) m → port_row is_2 m ≡ port_whole (port_of (port_row is_2 m))
unfolding port_row
port_is true m sound = grind (arith, known)
port_is false m sound = grind (arith, known)

rows_are : {R P : Type 0} (f : Members → R) (g : R → P) (w : P → R) (Is : Members → Type 0) (rows : List Members)
    → ((m : Members) → Is m → f m ≡ w (g (f m))) → AllByRecursion Is rows → map f rows ≡ map w (map g (map f rows))
rows_are f g w Is [] each all = refl
rows_are f g w Is (x ∷ xs) each all = let one = each x all.0 in let more = rows_are f g w Is xs each all.1 in cc

cells_are : (doc : Members) → value_findings doc ≡ [] → cells_of doc ≡ whole (plan_of doc)
unfolding value_findings
cells_are doc is =
    let is_2 = is_version_2 doc in
    let (before_ports, ports) = none _ _ is in
    let (before_links, links) = none _ _ before_ports in
    let (_, (_, (has_links, (has_ports, _)))) = table_sound Top document_fields doc (none _ _ before_links).0 in
    let l = rows_are (link_row is_2) link_of link_whole (IsSoundTable (link_fields is_2)) _ (link_is is_2) (rows_sound Link (link_fields is_2) 1 _ links) in
    let p = rows_are (port_row is_2) port_of port_whole (IsSoundTable (port_fields is_2)) _ (port_is is_2) (rows_sound Port (port_fields is_2) 1 _ ports) in
    let no_l = ap is_none has_links in
    let no_p = ap is_none has_ports in cc

-- a list in which no fault is found is empty
empty : (xs : List PlanFinding) → ((fault : ConfigFault) → list_any (has fault) xs ≡ false) → xs ≡ []
empty [] lacks = refl
empty (x ∷ xs) lacks = let none = lacks x.fault in let number = eq-eqb (fault_number x.fault) (fault_number x.fault) refl in cc

pub rules_agree : RulesAgree
rules_agree doc free fault =
    ap (λ b. b || cells_show fault (cells_of doc)) (free fault) ∙ ap (cells_show fault) (cells_are doc (empty (value_findings doc) free))

-- if no fault is shown, no rule is broken
no_rule : (plan : Plan) (some : List PlanRule)
    → ((f : ConfigFault) → list_any (λ (r : PlanRule). fault_number f == fault_number r.fault
    && breaks (whole plan) r.forbids) some ≡ false) → Unbroken plan some
no_rule plan [] lacks = tt
no_rule plan (r ∷ rest) lacks = let here = lacks r.fault in
    (grind (arith, nat_tests), no_rule plan rest (λ f. let this = lacks f in grind (arith, nat_tests)))

-- the plan of a document without findings is valid if it is in its ranges
pub fine : (doc : Members) (rows : Rows) → plan_in rows ≡ plan_of doc → rows.end_system < 65536 → AreInRange rows → findings doc ≡ []
    → IsPlan (plan_in rows)
fine doc rows same end fits free = valid (plan_in rows) end (All-map IsLink link_of _ fits.links) (All-map IsPort port_of _ fits.ports)
    (no_rule (plan_in rows) plan_rules (λ f. ap (plan_shows f) same ∙ sym (rules_agree doc (λ g. ap (list_any (has g)) (no_value doc free)) f)
    ∙ faults_are_found doc f ∙ ap (list_any (has f)) free))
