-- The first finding has the fault of the least number, and so has the text.
use Rattle.afdx_config.proofs.Names.{Bool, ◌≡◌, ◌≢◌, ℕ, ◌<◌, List, [], ◌∷◌, ◌++◌, true, false, Some, None, refl, ap, subst, ◌∙◌, arith, eq-eqb, list_any, same_Some, Result, Ok, Err, IfOk, IfErr, Members, map, nat_tests, fault_number, cells_of, ConfigFault, Memory, Plan, plan_of, shows, Reads, HasFault, IsLeastFault, IsPlanOf, PlanFinding, finding_of, findings, has, FirstIsAnswered, by_fault, number_of, plan_findings, value_findings, Holds, IsOrdered, fault_of, Kept, told_once}
use Rattle.afdx_config.proofs.OnceLemmas.{no_once}
use Rattle.afdx_config.proofs.OrderLemmas.{are_ordered, no_finding, r_map}
use Rattle.afdx_config.proofs.ShownLemmas.{faults_are_found, no_toml, none_has}
use Rattle.afdx_config.proofs.SoundLemmas.{none}

-- a fault that a document lacks, its text lacks: a text is one document
hasnt : (f : ConfigFault) (text : List ℕ) (doc : Members) → Reads text doc → shows f doc ≡ false → ¬ HasFault f text
hasnt f text doc reads h = grind (arith, nat_tests, same_Some)

-- a fault of a document is one of its text
of_text : (f : ConfigFault) (text : List ℕ) (doc : Members) → Reads text doc → shows f doc ≡ true → HasFault f text
of_text f text doc reads h = grind (arith, nat_tests, no_toml)

-- no finding before the first has a lower number
lower : (f : ConfigFault) (x : PlanFinding) (rest : List PlanFinding) → fault_number f < number_of x → IsOrdered (x ∷ rest) → list_any (has f) (x ∷ rest) ≡ false
lower f x rest below ordered = grind (arith, nat_tests, none_has, r_map)

-- the fault of the first finding is the least one that is shown
least_of : (shown : ConfigFault → Bool) (all : List PlanFinding) (x : PlanFinding) (rest : List PlanFinding) → by_fault all ≡ x ∷ rest
    → ((f : ConfigFault) → shown f ≡ list_any (has f) (by_fault all))
    → (shown x.fault ≡ true) × ((f : ConfigFault) → fault_number f < number_of x → shown f ≡ false)
least_of shown all x rest is same =
    let number = eq-eqb (number_of x) (number_of x) refl in
    let here : list_any (has x.fault) (x ∷ rest) ≡ true = rw number refl in
    let ordered : IsOrdered (x ∷ rest) = subst IsOrdered is (are_ordered all) in (
      same x.fault ∙ ap (list_any (has x.fault)) is ∙ here,
      λ f below. same f ∙ ap (list_any (has f)) is ∙ lower f x rest below ordered,
    )

-- so is it of the text
least : (text : List ℕ) (doc : Members) (x : PlanFinding) (rest : List PlanFinding) → Reads text doc → findings doc ≡ x ∷ rest → IsLeastFault text x.fault
least text doc x rest reads is = let (here, less) = least_of (λ f. shows f doc) (told_once (value_findings doc ++ plan_findings (cells_of doc))) x rest is (faults_are_found doc) in
    (of_text x.fault text doc reads here, λ f below. hasnt f text doc reads (less f below))

-- a text whose document has no finding has no fault
fine : (text : List ℕ) (doc : Members) → Reads text doc → findings doc ≡ [] → (f : ConfigFault) → ¬ HasFault f text
fine text doc reads is f = hasnt f text doc reads (faults_are_found doc f ∙ ap (list_any (has f)) is)

pub first_is_answered : FirstIsAnswered
first_is_answered text doc reads = (λ is. (doc, reads, refl, fine text doc reads is), λ x rest is. least text doc x rest reads is)

-- a result for a document is one for its text
pub answer_ok : (text : List ℕ) (doc : Members) (r : Result Plan ConfigFault) → Reads text doc
    → IfOk r (λ c. findings doc ≡ []) → IfOk r (λ c. c ≡ plan_of doc) → IfOk r (IsPlanOf text)
answer_ok text doc r reads free is = grind (arith, nat_tests, fine)

pub answer_err : (text : List ℕ) (doc : Members) (r : Result Plan ConfigFault) → Reads text doc
    → IfErr r (λ e. e ≢ Memory → fault_of (findings doc) ≡ Some e) → IfErr r (λ e. e ≢ Memory → IsLeastFault text e)
answer_err text doc (Ok c) reads first = tt
answer_err text doc (Err e) reads first = λ other. here (findings doc) refl (first other)
  where
    here : (xs : List PlanFinding) → findings doc ≡ xs → fault_of xs ≡ Some e → IsLeastFault text e
    here [] is at = cc
    here (x ∷ rest) is at = rw (← same_Some x.fault e at) (least text doc x rest reads is)

-- the first of those that are kept
pub first_kept : (found : Kept) (all : List PlanFinding) → Holds found all → fault_of (map finding_of found.first.items) ≡ fault_of (by_fault (told_once all))
first_kept found all holds = let are = holds.keeps.first_are in grind (arith, nat_tests, fault_of)

pub no_first : (xs : List PlanFinding) → fault_of xs ≡ None → xs ≡ []
no_first xs is = grind (arith, nat_tests)

-- without findings, values have none
pub no_value : (doc : Members) → findings doc ≡ [] → value_findings doc ≡ []
no_value doc is = (none (value_findings doc) (plan_findings (cells_of doc)) (no_once _ (no_finding _ is))).0
