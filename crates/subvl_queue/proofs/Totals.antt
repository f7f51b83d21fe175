-- Sums over the views, and arithmetic of the words.
use Rattle.subvl_queue.proofs.Names.{◌*◌, ◌≡◌, ℕ, zero, suc, ◌+◌, ◌-◌, ◌^◌, ◌%◌, ◌<◌, ◌≤◌, List, [], ◌∷◌, ◌++◌, set, sym, refl, arith, mod-eq_of_lt, some, some-ne-none, get_elem?, View, Stage, Idle, Role, Sender, Receiver, Spent, total, hand_of, found_of, wait_of, budget_of, in_hand, in_room, waiting, asks_of, budget}

-- The total after one member changed.
pub total_set : {A : Type 0} (f : A → ℕ) (l : List A) (j : ℕ) (v w : A) → get_elem? l j ≡ some v → total f (set l j w) + f v ≡ total f l + f w
total_set f [] j v w e = absurd (some-ne-none v (sym e))
total_set f (x ∷ xs) zero v w e = grind arith
total_set f (x ∷ xs) (suc j) v w e = let r = total_set f xs j v w e in omega arith

pub total_end : {A : Type 0} (f : A → ℕ) (l : List A) (w : A) → total f (l ++ w ∷ []) + 0 ≡ total f l + f w
total_end f [] w = omega arith
total_end f (x ∷ xs) w = let r = total_end f xs w in omega arith

stage_small : (st : Stage) → (hand_of st ≤ 1) × (found_of st ≤ hand_of st)
stage_small st = grind arith

pub hand_budget : (asks made : ℕ) (st : Stage) (ro : Role) → (ro ≡ Receiver → hand_of st ≡ 0) → (ro ≡ Spent → hand_of st ≡ 0)
    → 2 ^ 40 * hand_of st ≤ budget_of asks made ro
hand_budget asks made st Sender a b = let h = stage_small st in omega arith
hand_budget asks made st Receiver a b = let h = a refl in omega arith
hand_budget asks made st Spent a b = let h = b refl in omega arith

module _ {T : Type 0} where
  -- Each seat with a slot request under way has a budget of its own.
  pub hands_times : (l : List (View T)) → total (λ v. 2 ^ 40 * in_hand v) l ≡ 2 ^ 40 * total in_hand l
  hands_times [] = omega arith
  hands_times (v ∷ vs) = let r = hands_times vs in omega arith

  -- The sums over the views before and after one view changes in its stage, slot requests, made
  -- senders and role.
  pub record Sums (l l' : List (View T)) (st : Stage) (a m : ℕ) (ro : Role) (st' : Stage) (a' m' : ℕ) (ro' : Role) : Type 0 where
    pub hands : total in_hand l' + hand_of st ≡ total in_hand l + hand_of st'
    pub rooms : total in_room l' + found_of st ≡ total in_room l + found_of st'
    pub waits : total waiting l' + wait_of st ≡ total waiting l + wait_of st'
    pub asks : total asks_of l' + a ≡ total asks_of l + a'
    pub budgets : total budget l' + budget_of a m ro ≡ total budget l + budget_of a' m' ro'

  pub sums : (l : List (View T)) (j : ℕ) (v w : View T) (st : Stage) (ro ro' : Role) → get_elem? l j ≡ some v → v.stage ≡ st
      → v.role ≡ ro → w.role ≡ ro' → Sums l (set l j w) st v.asks v.made ro w.stage w.asks w.made ro'
  sums l j v w st ro ro' at was is is' = grind (arith, total_set)

  pub sums_end : (l : List (View T)) (w : View T) → Sums l (l ++ w ∷ []) Idle 0 0 Spent w.stage w.asks w.made w.role
  sums_end l w = grind (arith, total_end)

  -- A sum is at most the sum of the members' bounds.
  pub total_le : (f g : View T → ℕ) (l : List (View T)) → ((j : ℕ) (v : View T) → get_elem? l j ≡ some v → f v ≤ g v) → total f l ≤ total g l
  total_le f g [] h = omega arith
  total_le f g (v ∷ vs) h = let r = total_le f g vs (λ j w e. h (suc j) w e) in let m = h 0 v refl in omega arith

pub one_less : (x : ℕ) → 0 < x → x < 18446744073709551616 → (x + (2 ^ 64 - 1)) % 2 ^ 64 ≡ x - 1
one_less x pos small = grind arith

pub one_more : (x : ℕ) → x + 1 < 18446744073709551616 → (x + 1) % 2 ^ 64 ≡ x + 1
one_more x small = mod-eq_of_lt (grind arith)
