-- Frames that are near by the clock are near by their count.
use Rattle.afdx_laws.proofs.Names.{◌≡◌, ℕ, zero, suc, ◌+◌, ◌-◌, ◌*◌, ◌≤◌, ◌<◌, inl, inr, List, [], ◌∷◌, ◌++◌, length, refl, ap, ◌∙◌, arith, cases_lt, le-div, append_assoc, length-append, Net, A, B, other, carried, SkewIsNear, IsDelivered, released_at, arrival_of, both_copies, ComesInTime}
use Rattle.afdx_laws.proofs.WorkedMessage.{few_are_near}

-- the arrival of a network's frame number `k`
record Found {F : Type 0} (net : Net) (k : ℕ) (xs : List (Net × F)) : Type 0 where
  before : List (Net × F)
  frame : F
  after : List (Net × F)
  is : xs ≡ before ++ (net, frame) ∷ after
  count : length (carried net before) ≡ k

behind : {F : Type 0} (net : Net) (k j : ℕ) (e : Net × F) (xs : List (Net × F)) (r : Found net k xs)
    → length (carried net (e ∷ r.before)) ≡ j → Found net j (e ∷ xs)
behind net k j e xs r count_is = record {
  before = e ∷ r.before;
  frame = r.frame;
  after = r.after;
  is = ap (λ ys. e ∷ ys) r.is;
  count = count_is;
}

found : {F : Type 0} (net : Net) (k : ℕ) (xs : List (Net × F)) → k < length (carried net xs) → Found net k xs
found net k [] inside = absurd (omega arith)
found A zero ((A, f) ∷ xs) inside = record { before = []; frame = f; after = xs; is = refl; count = refl }
found B zero ((B, f) ∷ xs) inside = record { before = []; frame = f; after = xs; is = refl; count = refl }
found A (suc k) ((A, f) ∷ xs) inside = let r = found A k xs (omega arith) in
    behind A k (suc k) (A, f) xs r (ap suc r.count)
found B (suc k) ((B, f) ∷ xs) inside = let r = found B k xs (omega arith) in
    behind B k (suc k) (B, f) xs r (ap suc r.count)
found A k ((B, f) ∷ xs) inside = let r = found A k xs inside in behind A k k (B, f) xs r r.count
found B k ((A, f) ∷ xs) inside = let r = found B k xs inside in behind B k k (A, f) xs r r.count

later : (at : ℕ → ℕ) → ((k : ℕ) → at k ≤ at (k + 1)) → (j n : ℕ) → at j ≤ at (j + n)
later at step j zero = grind arith
later at step j (suc n) = grind (arith, later at step j n, step (j + n))

spread : (gap : ℕ) (released : ℕ → ℕ) → ((i : ℕ) → released i + gap ≤ released (i + 1))
    → (i n : ℕ) → released i + n * gap ≤ released (i + n)
spread gap released step i zero = grind arith
spread gap released step i (suc n) = grind (arith, spread gap released step i n, step (i + n))

pub skew_is_near_holds : SkewIsNear
skew_is_near_holds gap delay released at arrivals some apart forward delivered before after net frame is =
    let i : ℕ = length (carried net before) in
    let b : ℕ = length (carried (other net) before) in
    elim (cases_lt i b) [
      | inr less ↦ omega arith
      | inl ahead ↦
          let r = found (other net) (b - 1) before (omega arith) in
          let split : arrivals ≡ r.before ++ (other net, r.frame) ∷ (r.after ++ (net, frame) ∷ after) = grind (arith, append_assoc) in
          let len = ap length r.is ∙ length-append r.before ((other net, r.frame) ∷ r.after) in
          let time = later at forward (length r.before) (length before - length r.before) in
          let gaps = spread gap released apart i (b - 1 - i) in
          grind (arith, le-div)
    ]

both_delivered : IsDelivered 400 released_at arrival_of both_copies
both_delivered [] after net frame is = grind arith
both_delivered (x ∷ []) after net frame is = grind arith
both_delivered (x ∷ y ∷ before) after net frame is = grind (arith, ap length is, length-append)

pub comes_in_time : ComesInTime
comes_in_time = record {
  apart = omega arith;
  forward = omega arith;
  delivered = both_delivered;
  near = few_are_near 1 both_copies (omega arith);
  exact = λ near. let behind = near ((A, 7 ∷ []) ∷ []) [] B (7 ∷ []) refl in omega arith;
}
