-- The bytes before a line feed in a buffer.
use Rattle.script_text.proofs.Names.{◌≡◌, ℕ, ◌+◌, ◌-◌, ◌≤◌, ◌<◌, ◌==◌, Bool, true, false, List, [], ◌∷◌, ◌++◌, zero, suc, length, take, drop, get_or, refl, ap, arith, append_assoc, if◌then◌else◌, length-take, length-append, drop-drop, Option, Some, None, false_from_ne_true, take_all, drop-take, drop-append_seam, slice_range, Consumes, prepend_known, before_feed, IsPlain, TakesPlain}

-- `place` bytes, none of them a line feed, before a line feed or the end
pub before_at : (text : List ℕ) (place : ℕ) → ((k : ℕ) → k < place → ¬ ((get_or text k 0 == 10) ≡ true))
    → (place < length text → (get_or text place 0 == 10) ≡ true) → take place text ≡ before_feed text
before_at [] place none feed = grind (arith, take_all)
before_at (x ∷ xs) zero none feed = grind arith
before_at (x ∷ xs) (suc place) none feed =
    let other : (x == 10) ≡ false = false_from_ne_true (x == 10) (none 0 (omega arith)) in
    rw other (ap (λ r. x ∷ r) (before_at xs place (λ k lt. none (suc k) (omega arith)) (λ lt. feed (omega arith))))

-- a text is the bytes before its line feed, which have none, and others
record IsBefore (text front : List ℕ) : Type 0 where
  others : List ℕ
  is : text ≡ front ++ others
  plain : IsPlain front

before_is : (text : List ℕ) → IsBefore text (before_feed text)
before_is [] = grind arith
before_is (x ∷ xs) = by (x == 10) refl (before_is xs)
  where
    by : (b : Bool) → (x == 10) ≡ b → IsBefore xs (before_feed xs)
        → IsBefore (x ∷ xs) (if b then [] else x ∷ before_feed xs)
    by true e h = (grind arith)
    by false e h = (grind arith)

-- the same of a range of a buffer
before_range : (buffer : List ℕ) (start end : ℕ) (plain : List ℕ)
    → plain ≡ before_feed (slice_range buffer start end)
    → slice_range buffer start end ≡ plain ++ slice_range buffer (start + length plain) end
before_range buffer start end plain is =
    grind (
      arith,
      before_is (slice_range buffer start end),
      length-take (end - start) (drop start buffer),
      drop-take (length plain) (end - (start + length plain)) (drop start buffer),
      drop-drop (length plain) start buffer,
      length-append,
      drop-append_seam,
    )

-- they are taken from a reader's bytes, whose front is a range of a buffer
before_taken : (buffer : List ℕ) (start end : ℕ) (plain : List ℕ) (known : Option (List ℕ))
    → plain ≡ before_feed (slice_range buffer start end)
    → Consumes (prepend_known (slice_range buffer start end) known)
    (prepend_known (slice_range buffer (start + length plain) end) known) plain
before_taken buffer start end plain None is = tt
before_taken buffer start end plain (Some rest) is =
    grind (arith, before_range buffer start end plain is, append_assoc plain (slice_range buffer (start + length plain) end) rest)

-- and a line grows by them
pub before_takes : (buffer : List ℕ) (start end : ℕ) (plain line grown : List ℕ) (known old : Option (List ℕ))
    → plain ≡ before_feed (slice_range buffer start end)
    → prepend_known (slice_range buffer start end) known ≡ old → grown ≡ line ++ plain
    → TakesPlain old (prepend_known (slice_range buffer (start + length plain) end) known) line grown
before_takes buffer start end plain line grown known old is view grows =
    grind (arith, before_is (slice_range buffer start end), before_taken buffer start end plain known is)

-- there is room for them
pub before_within : (buffer : List ℕ) (start end : ℕ) (plain : List ℕ) → start ≤ end
    → plain ≡ before_feed (slice_range buffer start end) → start + length plain ≤ end
before_within buffer start end plain le is =
    grind (arith, before_is (slice_range buffer start end), length-take (end - start) (drop start buffer), length-append)
