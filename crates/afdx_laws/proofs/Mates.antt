-- The mates of a sub-VL: their flows, their periods and the round of their group.
use Rattle.afdx_laws.proofs.RunNames.{ℕ, zero, suc, ◌≡◌, ◌+◌, ◌*◌, ◌<◌, ◌≤◌, List, [], ◌∷◌, Bool, true, false, cond, nat_eq, not, ◌&&◌, ◌||◌, map, arith, refl, ap, sym, inl, inr, cases_eq, nat_tests, sum_by, sum_by-cons, users_among, bag_micros, LinkPlan, Plan, IsPlan, link_plan_at, length, Sender, filter, has_sub, has_port, have_periods, is_on, is_with, mates_have_periods, senders_on, AreMates, is_outside, are_mates, subst, round_of}
use Rattle.afdx_laws.proofs.Groups.{in_group, outside, sum_in, sum_in_both, sum_in_same}

-- a port is on one sub-VL
none_past : (subs : ℕ) (mates : ℕ → Bool) (b : Bool) (x w : ℕ) → subs ≤ x → sum_in subs mates (λ t. cond (b && nat_eq x t) w 0) ≡ 0
none_past zero mates b x w le = refl
none_past (suc n) mates b x w le = grind (arith, nat_tests, none_past n mates b x w)

one_place : (subs : ℕ) (mates : ℕ → Bool) (b : Bool) (x w : ℕ)
    → sum_in subs mates (λ t. cond (b && nat_eq x t) w 0) ≤ cond (b && mates x) w 0
one_place zero mates b x w = omega arith
one_place (suc n) mates b x w = elim (cases_eq x n) [
  | inl last ↦ grind (arith, nat_tests, none_past n mates b x w)
  | inr other ↦ grind (arith, nat_tests, one_place n mates b x w)
]

sum_in_zero : (subs : ℕ) (group : ℕ → Bool) → sum_in subs group (λ t. 0) ≡ 0
sum_in_zero zero group = refl
sum_in_zero (suc n) group = grind (arith, sum_in_zero n group)

module _ {F : Type 0} (flow : Sender → F) (count : F → ℕ) (link : LinkPlan) where
  abbrev of_sub : ℕ → List Sender → ℕ
  of_sub t senders = sum_by count (map flow (senders_on link t senders))

  abbrev of_mates : ℕ → List Sender → ℕ
  of_mates mates senders = sum_by count (map flow (filter (λ (s : Sender). is_with link mates s.port) senders))

  first_of_sub : (t : ℕ) (sender : Sender) (senders : List Sender)
      → of_sub t (sender ∷ senders) ≡ cond (is_on link t sender.port) (count (flow sender)) 0 + of_sub t senders
  first_of_sub t sender senders = by_test (is_on link t sender.port)
    where
      by_test : (b : Bool) → sum_by count (map flow (cond b (sender ∷ senders_on link t senders) (senders_on link t senders)))
          ≡ cond b (count (flow sender)) 0 + of_sub t senders
      by_test true = sum_by-cons count (flow sender) (map flow (senders_on link t senders))
      by_test false = omega arith

  first_of_mates : (mates : ℕ) (sender : Sender) (senders : List Sender)
      → of_mates mates (sender ∷ senders) ≡ cond (is_with link mates sender.port) (count (flow sender)) 0 + of_mates mates senders
  first_of_mates mates sender senders = by_test (is_with link mates sender.port)
    where
      by_test : (b : Bool) → sum_by count (map flow (cond b (sender ∷ filter (λ (s : Sender). is_with link mates s.port) senders)
          (filter (λ (s : Sender). is_with link mates s.port) senders))) ≡ cond b (count (flow sender)) 0 + of_mates mates senders
      by_test true = sum_by-cons count (flow sender) (map flow (filter (λ (s : Sender). is_with link mates s.port) senders))
      by_test false = omega arith

  -- what the flows of the mates hand over, by sub-VL
  pub by_mates : (subs mates : ℕ) (senders : List Sender) → sum_in subs (has_sub mates) (λ t. of_sub t senders) ≤ of_mates mates senders
  unfolding is_with
  by_mates subs mates [] = let none = sum_in_zero subs (has_sub mates) in omega arith
  by_mates subs mates (sender ∷ senders) =
      let own : ℕ = count (flow sender) in
      let each = sum_in_same subs (has_sub mates) (λ t. of_sub t (sender ∷ senders)) (λ t. cond (is_on link t sender.port) own 0 + of_sub t senders)
      (λ t lt its. first_of_sub t sender senders) in
      let both = sum_in_both subs (has_sub mates) (λ t. cond (is_on link t sender.port) own 0) (λ t. of_sub t senders) in
      let one = one_place subs (has_sub mates) (nat_eq sender.port.vl.0 link.id.0) sender.port.sub own in
      let whole = first_of_mates mates sender senders in
      let rest = by_mates subs mates senders in
      omega arith

-- the ports of each mate have periods
pub mate_has_periods : (link : LinkPlan) (mates t : ℕ) (senders : List Sender) → has_sub mates t ≡ true
    → mates_have_periods link mates senders ≡ true → have_periods link t senders ≡ true
unfolding is_with
mate_has_periods link mates t [] is all = refl
mate_has_periods link mates t (sender ∷ senders) is all = elim (cases_eq sender.port.sub t) [
  | inl same ↦
      let its : has_sub mates sender.port.sub ≡ true = subst (λ (n : ℕ). has_sub mates n ≡ true) (sym same) is in
      grind (arith, nat_tests, mate_has_periods link mates t senders is)
  | inr other ↦ grind (arith, nat_tests, mate_has_periods link mates t senders is)
]

-- a sub-VL is no mate of its own
pub not_mate : (plan : Plan) (k s mates : ℕ) (senders : List Sender) → IsPlan plan → k < length plan.links
    → s < (link_plan_at plan.links k).sub_vls → AreMates plan (link_plan_at plan.links k) s senders mates → has_sub mates s ≡ false
not_mate plan k s mates senders valid inside lt of =
    let few : (link_plan_at plan.links k).sub_vls ≤ 4 = grind arith in
    by_place s (omega arith) of.are
  where
    by_place : (s : ℕ) → s < 4 → are_mates (link_plan_at plan.links k) plan.ports s mates ≡ true → has_sub mates s ≡ false
    by_place zero lt are = grind (arith, nat_tests)
    by_place (suc zero) lt are = grind (arith, nat_tests)
    by_place (suc (suc zero)) lt are = grind (arith, nat_tests)
    by_place (suc (suc (suc zero))) lt are = grind (arith, nat_tests)
    by_place (suc (suc (suc (suc s)))) lt are = absurd (omega arith)

users_same : (n : ℕ) (one other : ℕ → Bool) → ((y : ℕ) → one y ≡ other y) → users_among n one ≡ users_among n other
users_same zero one other is = refl
users_same (suc n) one other is = grind (arith, is n, users_same n one other is)

outside_same : (a b c : Bool) → (a && not (b || c)) ≡ (a && not b && not c)
outside_same true true c = refl
outside_same true false c = refl
outside_same false b c = refl

-- the round of a group
pub round_is : (late : ℕ) (plan : Plan) (link : LinkPlan) (s mates : ℕ)
    → suc (users_among link.sub_vls (outside (has_port link plan.ports) (in_group s (has_sub mates)))) * (bag_micros link.bag + late)
    ≡ round_of late plan link s mates
round_is late plan link s mates =
    let same = users_same link.sub_vls (outside (has_port link plan.ports) (in_group s (has_sub mates))) (is_outside link plan.ports s mates)
    (λ y. outside_same (has_port link plan.ports y) (nat_eq y s) (has_sub mates y)) in
    let turns : suc (users_among link.sub_vls (outside (has_port link plan.ports) (in_group s (has_sub mates))))
    ≡ 1 + users_among link.sub_vls (is_outside link plan.ports s mates) = omega arith in
    ap (λ (n : ℕ). n * (bag_micros link.bag + late)) turns
