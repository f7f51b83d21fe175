-- The first element that passes a test, and the first place at which bytes differ.
use Rattle.judge.proofs.Names.{◌≡◌, ℕ, ◌+◌, [], ◌∷◌, first_other, arith, nat_tests, bytes_eq, bytes_eq-Decides, ◌≤◌, Bool, true, false, List, length, get_or, Some, None, refl, cond, find, position, nat_lt, position_or_len, find_at, position-Some, slice_get_read, slice_get_past}
use borrow.Author.Tests.{ltb-false}

-- its place
pub place_is : {X : Type 0} (p : X → Bool) (xs : List X) (i : ℕ) → position p xs ≡ Some i
    → position_or_len p xs ≡ i
place_is {X} p xs i at = by (nat_lt (position_or_len p xs) (length xs)) at
  where
    by : (t : Bool) → cond t (Some (position_or_len p xs)) None ≡ Some i → position_or_len p xs ≡ i
    by true is = cc
    by false is = cc

-- it is the one at its place
pub first_is : {X : Type 0} (p : X → Bool) (xs : List X) (i : ℕ) (x : X) → position p xs ≡ Some i
    → x ≡ get_or xs i x → find p xs ≡ Some x
first_is p xs i x at is =
    rw (find_at p xs, place_is p xs i at) (slice_get_read xs (length xs) i x refl (position-Some p xs i x at).0 is)

-- there is none
pub none_is : {X : Type 0} (p : X → Bool) (xs : List X) → position p xs ≡ None → find p xs ≡ None
none_is {X} p xs at = rw (find_at p xs) (slice_get_past xs (position_or_len p xs) (past (nat_lt (position_or_len p xs) (length xs)) refl at))
  where
    past : (t : Bool) → nat_lt (position_or_len p xs) (length xs) ≡ t
        → cond t (Some (position_or_len p xs)) None ≡ None → length xs ≤ position_or_len p xs
    past true test is = cc
    past false test is = ltb-false (position_or_len p xs) (length xs) test

-- equal bytes differ nowhere
pub same_bytes : (i : ℕ) (xs ys : List ℕ) → bytes_eq xs ys ≡ true → first_other i xs ys ≡ None
same_bytes i xs ys same = rw (← (bytes_eq-Decides xs ys).0 same) (none_in i xs)
  where
    none_in : (i : ℕ) (xs : List ℕ) → first_other i xs xs ≡ None
    none_in i [] = refl
    none_in i (x ∷ xs) = grind (arith, nat_tests, none_in (i + 1) xs)
