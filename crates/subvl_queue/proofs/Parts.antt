-- The messages of one port in a list, and their places.
use Rattle.subvl_queue.proofs.Names.{◌≡◌, ◌≢◌, ℕ, zero, suc, ◌+◌, ◌-◌, ◌==◌, ◌<◌, ◌≤◌, if◌then◌else◌, List, [], ◌∷◌, ◌++◌, length, map, take, drop, get_or, Bool, true, false, eqb, cond, eq-eqb, sym, refl, ap, ◌∙◌, subst, arith, ne_eqb, lt_of_not-le, some, some-injective, some-ne-none, get_elem?, eqb-true, All-cons, All-nil, AreGood, IsMessage, own_of, places_of, IsItem, AreItems, part_of, owned, StandAt, TellsLeft}

cond_append : {A : Type 0} (b : Bool) (x : A) (l r : List A) → cond b (x ∷ (l ++ r)) (l ++ r) ≡ cond b (x ∷ l) l ++ r
cond_append b x l r = grind arith

map_cond : {A B : Type 0} (f : A → B) (b : Bool) (x : A) (l : List A) → map f (cond b (x ∷ l) l) ≡ cond b (f x ∷ map f l) (map f l)
map_cond f b x l = grind arith

module _ {T : Type 0} where
  pub owned_mine : (k n : ℕ) (l : List (ℕ × T)) (x : ℕ × T) → x.0 ≡ k → owned k n (l ++ x ∷ []) ≡ owned k n l ++ (n + length l, x.1) ∷ []
  owned_mine k n [] x e = grind arith
  owned_mine k n (y ∷ l) x e =
      let z : suc n + length l ≡ n + length (y ∷ l) = omega arith in
      ap (λ (zs : List (ℕ × T)). cond (eqb y.0 k) ((n, y.1) ∷ zs) zs)
      (owned_mine k (suc n) l x e ∙ ap (λ (m : ℕ). owned k (suc n) l ++ (m, x.1) ∷ []) z)
      ∙ cond_append (eqb y.0 k) (n, y.1) (owned k (suc n) l) ((n + length (y ∷ l), x.1) ∷ [])

  pub owned_other : (k n : ℕ) (l : List (ℕ × T)) (x : ℕ × T) → x.0 ≢ k → owned k n (l ++ x ∷ []) ≡ owned k n l
  owned_other k n [] x e = grind arith
  owned_other k n (y ∷ l) x e = ap (λ (zs : List (ℕ × T)). cond (eqb y.0 k) ((n, y.1) ∷ zs) zs) (owned_other k (suc n) l x e)

  -- If the port has no message, neither the first nor one of the rest is the port's.
  rest_none : (k n : ℕ) (x : ℕ × T) (l : List (ℕ × T)) → owned k n (x ∷ l) ≡ [] → (x.0 ≢ k) × (owned k (suc n) l ≡ [])
  rest_none k n x l e = grind (arith, ne_eqb)

  -- A message in the list is in the part of its port.
  pub owned_at : (k n : ℕ) (l : List (ℕ × T)) (i : ℕ) (x : ℕ × T) → get_elem? l i ≡ some x → x.0 ≡ k → owned k n l ≡ [] → ⊥
  owned_at k n [] i x at is none' = some-ne-none x (sym at)
  owned_at k n (y ∷ l) zero x at is none' = grind arith
  owned_at k n (y ∷ l) (suc i) x at is none' = owned_at k (suc n) l i x at is (rest_none k n y l none').1

  -- A message in the part of a port is in the list, at its place.
  pub owned_get : (k n : ℕ) (l : List (ℕ × T)) (q p : ℕ) (m : T) → get_elem? (owned k n l) q ≡ some (p, m)
      → (n ≤ p) × (get_elem? l (p - n) ≡ some (k, m))
  owned_get k n [] q p m e = absurd (some-ne-none (p, m) (sym e))
  owned_get k n (x ∷ l) q p m e = either (λ q e. owned_get k (suc n) l q p m e) (eqb x.0 k) (eqb-true x.0 k) e
    where
      later : ((q : ℕ) → get_elem? (owned k (suc n) l) q ≡ some (p, m) → (suc n ≤ p) × (get_elem? l (p - suc n) ≡ some (k, m))) → (q : ℕ) → get_elem? (owned k (suc n) l) q ≡ some (p, m) → (n ≤ p) × (get_elem? (x ∷ l) (p - n) ≡ some (k, m))
      later more q e = let r = more q e in
          let one : suc (p - suc n) ≡ p - n = let a = r.0 in omega arith in
          (let a = r.0 in omega arith, subst (λ (z : ℕ). get_elem? (x ∷ l) z ≡ some (k, m)) one r.1)

      here : ((q : ℕ) → get_elem? (owned k (suc n) l) q ≡ some (p, m) → (suc n ≤ p) × (get_elem? l (p - suc n) ≡ some (k, m)))
          → (q : ℕ) → x.0 ≡ k → get_elem? ((n, x.1) ∷ owned k (suc n) l) q ≡ some (p, m) → (n ≤ p) × (get_elem? (x ∷ l) (p - n) ≡ some (k, m))
      here more zero same e = let is = some-injective (n, x.1) (p, m) e in
          let at : zero ≡ p - n = let a : n ≡ p = ap (λ (z : ℕ × T). z.0) is in omega arith in (
            let a : n ≡ p = ap (λ (z : ℕ × T). z.0) is in omega arith,
            subst (λ (z : ℕ). get_elem? (x ∷ l) z ≡ some (k, m)) at (λ i. some (same i, (is i).1)),
          )
      here more (suc q) same e = later more q e

      either : ((q : ℕ) → get_elem? (owned k (suc n) l) q ≡ some (p, m) → (suc n ≤ p) × (get_elem? l (p - suc n) ≡ some (k, m)))
          → (b : Bool) → (b ≡ true → x.0 ≡ k) → get_elem? (cond b ((n, x.1) ∷ owned k (suc n) l) (owned k (suc n) l)) q ≡ some (p, m)
          → (n ≤ p) × (get_elem? (x ∷ l) (p - n) ≡ some (k, m))
      either more true same e = here more q (same refl) e
      either more false same e = later more q e

module _ {T : Type 0} where
  -- The index of a message in the part of its port is the number of the port's messages before it.
  pub owned_number : (k n : ℕ) (l : List (ℕ × T)) (q p : ℕ) (m : T) → get_elem? (owned k n l) q ≡ some (p, m)
      → length (owned k n (take (p - n) l)) ≡ q
  owned_number k n [] q p m e = absurd (some-ne-none (p, m) (sym e))
  owned_number k n (x ∷ l) q p m e = either (λ q e. owned_number k (suc n) l q p m e) (eqb x.0 k) refl q e
    where
      Later : ℕ → Type 0
      Later q = (suc (p - suc n) ≡ p - n) × (length (owned k (suc n) (take (p - suc n) l)) ≡ q)

      after : (q : ℕ) → get_elem? (owned k (suc n) l) q ≡ some (p, m) → length (owned k (suc n) (take (p - suc n) l)) ≡ q → Later q
      after q e is = let a = (owned_get k (suc n) l q p m e).0 in (omega arith, is)

      either : ((q : ℕ) → get_elem? (owned k (suc n) l) q ≡ some (p, m) → length (owned k (suc n) (take (p - suc n) l)) ≡ q)
          → (b : Bool) → eqb x.0 k ≡ b → (q : ℕ) → get_elem? (cond b ((n, x.1) ∷ owned k (suc n) l) (owned k (suc n) l)) q ≡ some (p, m)
          → length (owned k n (take (p - n) (x ∷ l))) ≡ q
      either more true is zero e = let a : n ≡ p = ap (λ (z : ℕ × T). z.0) (some-injective (n, x.1) (p, m) e) in
          let none' : 0 ≡ p - n = omega arith in subst (λ (z : ℕ). length (owned k n (take z (x ∷ l))) ≡ 0) none' refl
      either more true is (suc q) e = let r = after q e (more q e) in
          subst (λ (z : ℕ). length (owned k n (take z (x ∷ l))) ≡ suc q) r.0
          (subst (λ (b : Bool). length (cond b ((n, x.1) ∷ owned k (suc n) (take (p - suc n) l)) (owned k (suc n) (take (p - suc n) l))) ≡ suc q) (sym is) (ap suc r.1))
      either more false is q e = let r = after q e (more q e) in
          subst (λ (z : ℕ). length (owned k n (take z (x ∷ l))) ≡ q) r.0
          (subst (λ (b : Bool). length (cond b ((n, x.1) ∷ owned k (suc n) (take (p - suc n) l)) (owned k (suc n) (take (p - suc n) l))) ≡ q) (sym is) r.1)

  -- If all messages are one port's, its part is as long as the list.
  pub owned_all : (k n i : ℕ) (l : List (ℕ × T)) → ((j : ℕ) (x : ℕ × T) → get_elem? l j ≡ some x → x.0 ≡ k) → i ≤ length l → length (owned k n (take i l)) ≡ i
  owned_all k n zero l all le = refl
  owned_all k n (suc i) [] all le = absurd (omega arith)
  owned_all k n (suc i) (x ∷ l) all le = let r = owned_all k (suc n) i l (λ j y e. all (suc j) y e) (omega arith) in
      let mine : eqb x.0 k ≡ true = eq-eqb x.0 k (all 0 x refl) in
      subst (λ (b : Bool). length (cond b ((n, x.1) ∷ owned k (suc n) (take i l)) (owned k (suc n) (take i l))) ≡ suc i) (sym mine) (ap suc r)

pub take_next : {A : Type 0} (l : List A) (i : ℕ) (a : A) → get_elem? l i ≡ some a → take i l ++ a ∷ [] ≡ take (suc i) l
take_next [] i a e = absurd (some-ne-none a (sym e))
take_next (x ∷ xs) zero a e = λ k. sym (some-injective x a e) k ∷ []
take_next (x ∷ xs) (suc i) a e = ap (λ l. x ∷ l) (take_next xs i a e)

-- The part of a port, by the messages' bytes.
pub part_is : (k n : ℕ) (l : List (ℕ × List ℕ)) → own_of (owned k n l) ≡ part_of k l
part_is k n [] = refl
part_is k n (x ∷ l) =
    map_cond (λ (y : ℕ × List ℕ). y.1) (eqb x.0 k) (n, x.1) (owned k (suc n) l)
    ∙ ap (λ (p : List (List ℕ)). cond (eqb x.0 k) (x.1 ∷ p) p) (part_is k (suc n) l)

-- the places of a port's messages in a list whose first place is n
abbrev places_from : (n port : ℕ) → List (ℕ × List ℕ) → List ℕ
places_from n port [] = []
places_from n port (item ∷ items) =
    if item.0 == port then n ∷ places_from (suc n) port items else places_from (suc n) port items

pub places_are : (k n : ℕ) (l : List (ℕ × List ℕ)) → places_of (owned k n l) ≡ places_from n k l
places_are k n [] = refl
places_are k n (x ∷ l) =
    map_cond (λ (y : ℕ × List ℕ). y.0) (eqb x.0 k) (n, x.1) (owned k (suc n) l)
    ∙ ap (λ (p : List ℕ). cond (eqb x.0 k) (n ∷ p) p) (places_are k (suc n) l)

record StandFrom (n : ℕ) (list : List (ℕ × List ℕ)) (port : ℕ) (own : List (List ℕ)) (places : List ℕ) : Type 0 where
  count : length places ≡ length own
  within : (i : ℕ) → i < length own → (n ≤ get_or places i 0) × (get_or places i 0 < n + length list)
  rise : (i j : ℕ) → i < j → j < length own → get_or places i 0 < get_or places j 0
  at : (i : ℕ) → i < length own → get_or list (get_or places i 0 - n) (0, []) ≡ (port, get_or own i [])

stand_from : (n port : ℕ) (list : List (ℕ × List ℕ)) → StandFrom n list port (part_of port list) (places_from n port list)
stand_from n port [] = grind arith
stand_from n port (item ∷ items) = either (item.0 == port) (eqb-true item.0 port) (stand_from (suc n) port items)
  where
    either : (b : Bool) → (b ≡ true → item.0 ≡ port) → StandFrom (suc n) items port (part_of port items) (places_from (suc n) port items)
        → StandFrom n (item ∷ items) port (if b then item.1 ∷ part_of port items else part_of port items)
        (if b then n ∷ places_from (suc n) port items else places_from (suc n) port items)
    either b same h = grind arith

-- A sender's own list is in the log at its places.
pub stand_at : (list : List (ℕ × List ℕ)) (port : ℕ) (own : List (List ℕ)) (places : List ℕ) → part_of port list ≡ own
    → places_from 0 port list ≡ places → StandAt list port own places
stand_at list port own places is at = subst (λ (y : List (List ℕ) × List ℕ). StandAt list port y.0 y.1) (λ k. (is k, at k))
    (let h = stand_from 0 port list in grind arith)

-- If no other port has a message, all messages are of these ports.
pub are_items : (ports n : ℕ) (l : List (ℕ × List ℕ)) → ((k : ℕ) → ports ≤ k → owned k n l ≡ []) → AreGood IsMessage l → AreItems ports l
are_items ports n [] h good = All-nil (IsItem ports)
are_items ports n (x ∷ l) h good =
    let first : IsItem ports x =
    record { port = lt_of_not-le (λ le. (rest_none x.0 n x l (h x.0 le)).0 refl); message = good 0 x refl } in
    All-cons (IsItem ports) x l first (are_items ports (suc n) l (λ k le. (rest_none k n x l (h k le)).1) (λ p y e. good (suc p) y e))

same_next : (n m : ℕ) → (n == m) ≡ (suc n == suc m)
same_next n m = grind (arith, ne_eqb)

-- The total says whether a message is left.
pub tells : (n total : ℕ) (l : List (ℕ × List ℕ)) → n ≤ total → total ≡ length l → AreGood IsMessage l → TellsLeft (n == total) (drop n l)
tells zero total [] le is good = grind arith
tells zero total (x ∷ l) le is good = let first = good 0 x refl in grind arith
tells (suc n) total [] le is good = absurd (omega arith)
tells (suc n) zero (x ∷ l) le is good = absurd (omega arith)
tells (suc n) (suc total) (x ∷ l) le is good = subst (λ (b : Bool). TellsLeft b (drop n l)) (same_next n total)
    (tells n total l (omega arith) (omega arith) (λ p y e. good (suc p) y e))
