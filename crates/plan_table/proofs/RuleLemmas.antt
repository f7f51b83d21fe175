-- The rules of a plan, as tests of its links and ports.
use Rattle.std.proofs.Common.{◌≡◌, ℕ, ◌+◌, ◌-◌, ◌<◌, Bool, true, false, List, [], ◌∷◌, length, drop, get_or, take, Some, None, refl, ◌≤◌, arith, inl, inr, eq-eqb}
use Rattle.std.specs.Prelude.{◌||◌, ◌&&◌, ◌==◌, All, count_by, find, if◌then◌else◌, is_none, map, option_map}
use Rattle.std.specs.List.{list_any}
use Rattle.std.proofs.Math.Bool.{and-false}
use Rattle.std.proofs.lemmas.Option.{same_Some}
use Rattle.std.proofs.lemmas.Bool.{cases_Bool}
use Rattle.std.proofs.lemmas.Bool.Decides.{nat_tests}
use Rattle.std.proofs.lemmas.List.{drop_more, length-map, take-map}
use Rattle.afdx_plan.specs.Config.{IsPlan, Plan, plan_of_parts}
use Rattle.afdx_plan.specs.Plan.{IsLink, IsPort}
use Rattle.afdx_plan.specs.PlanFaults.{any_row, breaks, Cells, fault_number, has_pair, is_misfit, is_no_count, is_past_limit, is_row_of, link_whole, PlanRule, plan_rules, port_whole, same_flow, same_link, same_port, share_unicast, whole}
use Rattle.afdx_plan.proofs.PlanLemmas.{any_map, counted, named_all, pair_map, Unbroken, valid}
use Rattle.afdx_plan.specs.declared.fault.ConfigFault.{ConfigFault}
use Rattle.afdx_plan.specs.declared.fault.ConfigFault.TheVariants.{DuplicateVl, DuplicatePort, NoSuchVl, NoSuchSub, SamplingTooLong, SameFlow, SharedUnicast, Limit}
use Rattle.afdx_plan.specs.declared.link_plan.LinkPlan.{LinkPlan}
use Rattle.afdx_plan.specs.declared.port_plan.PortPlan.{PortPlan}
use Rattle.afdx_plan.specs.declared.rows.LinkRow.{LinkRow}
use Rattle.afdx_plan.specs.declared.rows.Misfit.{Misfit}
use Rattle.afdx_plan.specs.declared.rows.Misfit.TheVariants.{NoLink, NoSub, TooLong}
use Rattle.plan_table.specs.declared.rules.Clash.TheVariants.{Identifier, Flow, Address}
use Rattle.plan_table.specs.Rules.{are_one_link, clash, first_broken, is_past, IsLeastShown, misfit_in, shares_sub}

-- the first element of a mapped list that passes a test
find_map : {A B : Type 0} (p : B → Bool) (f : A → B) (xs : List A) → find p (map f xs) ≡ option_map f (find (λ x. p (f x)) xs)
find_map p f [] = refl
find_map p f (x ∷ xs) = grind (arith, find_map p f xs)

-- ports that don't fit their links
misfit_is : (links : List LinkPlan) (misfit : Misfit) (all ports : List PortPlan)
    → list_any (is_misfit misfit (whole (plan_of_parts 0 links all))) (map port_whole ports) ≡ list_any (misfit_in links misfit) ports
misfit_is links misfit all [] = refl
misfit_is links misfit all (port ∷ ports) = rw (
  any_map (λ (l : LinkRow). is_none l.id) link_whole links,
  named_all links,
  find_map (is_row_of (port_whole port)) link_whole links,
  misfit_is links misfit all ports,
) refl

-- ports past the 64th on their sub-VLs
packed_is : (all : List PortPlan) (k : ℕ) (ports : List PortPlan)
    → any_row (is_past_limit (map port_whole all)) k (map port_whole ports) ≡ any_row (is_past all) k ports
packed_is all k [] = refl
packed_is all k (port ∷ ports) =
    rw (take-map port_whole (k - 1) all, counted (take (k - 1) all) port, packed_is all (k + 1) ports) refl

-- the links, the ports or the ports of a sub-VL are too many or too few
abbrev pub exceeds : List LinkPlan → List PortPlan → Bool
exceeds links ports = is_no_count 64 (length links) || (is_no_count 256 (length ports) || any_row (is_past ports) 1 ports)

three : (a b c : Bool) → (if a then Some Limit else if b then Some Limit else if c then Some Limit else None)
    ≡ (if a || (b || c) then Some Limit else None)
three a b c = grind arith

-- the first rule that a plan breaks, by the tests of its links and ports
pub first_by_tests : (links : List LinkPlan) (ports : List PortPlan)
    → first_broken (whole (plan_of_parts 0 links ports)) plan_rules
    ≡ (if has_pair are_one_link links then Some DuplicateVl
    else if has_pair (clash Identifier) ports then Some DuplicatePort
    else if list_any (misfit_in links NoLink) ports then Some NoSuchVl
    else if list_any (misfit_in links NoSub) ports then Some NoSuchSub
    else if list_any (misfit_in links TooLong) ports then Some SamplingTooLong
    else if has_pair (clash Flow) ports then Some SameFlow
    else if has_pair (clash Address) ports then Some SharedUnicast
    else if exceeds links ports then Some Limit else None)
first_by_tests links ports =
    rw (
      ← pair_map same_link link_whole links,
      ← pair_map same_port port_whole ports,
      ← misfit_is links NoLink ports ports,
      ← misfit_is links NoSub ports ports,
      ← misfit_is links TooLong ports ports,
      ← pair_map same_flow port_whole ports,
      ← pair_map share_unicast port_whole ports,
      ← packed_is ports 1 ports,
      ← three,
      length-map,
      length-map,
    ) refl

-- a port is past the 64th on its sub-VL
pub past_here : (ports : List PortPlan) (k n : ℕ) (d : PortPlan) → k < length ports
    → n ≡ count_by (shares_sub (get_or ports k d)) (take k ports) → 64 ≤ n → any_row (is_past ports) (k + 1) (drop k ports) ≡ true
past_here ports k n d below count many =
    let back : k + 1 - 1 ≡ k = omega arith in
    let past : is_past ports (k + 1) (get_or ports k d) ≡ true = rw (back, ← count) (grind (arith, nat_tests)) in
    rw (drop_more ports k d below, past) refl

-- no rule of these is broken if none is the first that is
none_broken : (plan : Plan) (some : List PlanRule) → first_broken (whole plan) some ≡ None → Unbroken plan some
none_broken plan [] is = tt
none_broken plan (r ∷ some) is = grind (arith, none_broken plan some)

pub whole_is_valid : (plan : Plan) → plan.end_system < 65536 → All IsLink plan.links → All IsPort plan.ports
    → first_broken (whole plan) plan_rules ≡ None → IsPlan plan
whole_is_valid plan end links ports is = valid plan end links ports (none_broken plan plan_rules is)

-- some rule of these has this fault, and is broken
abbrev shows_in : Cells → ConfigFault → List PlanRule → Bool
shows_in cells fault some = list_any (λ (r : PlanRule). fault_number fault == fault_number r.fault && breaks cells r.forbids) some

-- rules in the order of the numbers of their faults, from a number on
abbrev IsFrom : ℕ → List PlanRule → Type 0
IsFrom n [] = Unit {0}
IsFrom n (r ∷ some) = (n ≤ fault_number r.fault) × IsFrom (fault_number r.fault) some

none_lower : (cells : Cells) (other : ConfigFault) (n : ℕ) (some : List PlanRule) → IsFrom n some → fault_number other < n
    → shows_in cells other some ≡ false
none_lower cells other n [] from below = refl
none_lower cells other n (r ∷ some) from below =
    grind (arith, nat_tests, none_lower cells other (fault_number r.fault) some)

least_in : (cells : Cells) (n : ℕ) (some : List PlanRule) (fault : ConfigFault) → IsFrom n some
    → first_broken cells some ≡ Some fault → (shows_in cells fault some ≡ true)
    × ((other : ConfigFault) → fault_number other < fault_number fault → shows_in cells other some ≡ false)
least_in cells n [] fault from is = cc
least_in cells n (r ∷ some) fault (least, from) is = elim (cases_Bool (breaks cells r.forbids)) [
  | inl broken ↦
      let same : r.fault ≡ fault = same_Some r.fault fault (rw broken at is) in
      let one : (fault_number r.fault == fault_number r.fault) ≡ true = eq-eqb _ _ refl in
      rw (← same) (
        rw (one, broken) refl,
        λ other below.
            none_lower cells other (fault_number r.fault) (r ∷ some) (omega arith, from) below,
      )
  | inr isnt ↦
      let rest = least_in cells (fault_number r.fault) some fault from (rw isnt at is) in
      (rw (isnt, and-false) rest.0, λ other below. rw (isnt, and-false) (rest.1 other below))
]

pub first_is_least : (plan : Plan) (fault : ConfigFault) → first_broken (whole plan) plan_rules ≡ Some fault
    → IsLeastShown fault plan
first_is_least plan fault is =
    least_in (whole plan) 7 plan_rules fault (omega arith, (omega arith, (omega arith, (omega arith, (omega arith, (omega arith, (omega arith, (omega arith, (omega arith, (omega arith, tt)))))))))) is
