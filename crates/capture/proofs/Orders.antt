-- The frames of two networks in order, one after the other, which is that of their times.
use Rattle.capture.proofs.Names.{A, B, Bool, Captured, Entry, IsInTime, List, None, RiseFrom, Some, first_moment, arith, captured_moments, false, if◌then◌else◌, in_order, map, moments, nat_lt, next_net, on, refl, true, [], ℕ, ◌∷◌, ◌≡◌, ◌≤◌}
use borrow.Author.Tests.{ltb-true, ltb-false}

-- a frame that comes next is the first
pub order_a : (xs bs rest : List Entry) (e : Entry) → next_net (first_moment xs) (first_moment bs) ≡ Some A → xs ≡ e ∷ rest
    → in_order xs bs ≡ on A e ∷ in_order rest bs
unfolding in_order
order_a xs bs rest e net is = grind arith

pub order_b : (xs bs rest : List Entry) (e : Entry) → next_net (first_moment xs) (first_moment bs) ≡ Some B → bs ≡ e ∷ rest
    → in_order xs bs ≡ on B e ∷ in_order xs rest
unfolding in_order
order_b xs bs rest e net is = grind arith

-- if none comes next, all are given
pub order_none : (xs bs : List Entry) → next_net (first_moment xs) (first_moment bs) ≡ None → in_order xs bs ≡ []
unfolding in_order
order_none xs bs net = grind arith

-- a frame isn't later than the first of others
abbrev pub IsBefore : Entry → List Entry → Type 0
IsBefore e [] = Unit {0}
IsBefore e (x ∷ xs) = e.at ≤ x.at

-- the frames of two networks, one after the other
pub data Merges : List Entry → List Entry → List Captured → Type 0 where
  none : Merges [] [] []
  next_a : {e : Entry} {a b : List Entry} {cs : List Captured} → IsBefore e b → Merges a b cs
      → Merges (e ∷ a) b (on A e ∷ cs)
  next_b : {e : Entry} {a b : List Entry} {cs : List Captured} → IsBefore e a → Merges a b cs
      → Merges a (e ∷ b) (on B e ∷ cs)

merges_b : (bs : List Entry) → Merges [] bs (map (on B) bs)
merges_b [] = none
merges_b (b ∷ bs) = next_b tt (merges_b bs)

merges_a : (a : Entry) (xs : List Entry) → ((bs : List Entry) → Merges xs bs (in_order xs bs)) → (bs : List Entry)
    → Merges (a ∷ xs) bs (in_order (a ∷ xs) bs)
unfolding in_order
merges_a a xs more [] = next_a tt (more [])
merges_a a xs more (b ∷ bs) = by (nat_lt b.at a.at) refl (merges_a a xs more bs)
  where
    by : (t : Bool) → nat_lt b.at a.at ≡ t → Merges (a ∷ xs) bs (in_order (a ∷ xs) bs)
        → Merges (a ∷ xs) (b ∷ bs) (if t then on B b ∷ in_order (a ∷ xs) bs else on A a ∷ in_order xs (b ∷ bs))
    by true is rest = next_b (omega (arith, ltb-true b.at a.at is)) rest
    by false is rest = next_a (ltb-false b.at a.at is) (more (b ∷ bs))

pub order_merges : (a b : List Entry) → Merges a b (in_order a b)
unfolding in_order
order_merges [] b = merges_b b
order_merges (x ∷ xs) b = merges_a x xs (λ bs. order_merges xs bs) b

-- what rises rises from a frame that isn't later than the first
rise_on : (e : Entry) (es : List Entry) (from : ℕ) → IsBefore e es → RiseFrom from (moments es)
    → RiseFrom e.at (moments es)
rise_on e from before h = grind arith

merges_rise : {a b : List Entry} {cs : List Captured} → Merges a b cs → (from : ℕ) → RiseFrom from (moments a)
    → RiseFrom from (moments b) → RiseFrom from (captured_moments cs)
merges_rise none from h k = tt
merges_rise (next_a {e} {a} {b} before m) from h k = (h.0, merges_rise m e.at h.1 (rise_on e b from before k))
merges_rise (next_b {e} {a} before m) from h k = (k.0, merges_rise m e.at (rise_on e a from before h) k.1)

pub in_time : IsInTime
in_time a b h k = merges_rise (order_merges a b) 0 h k
