-- A step reads no byte past its unit, so it is the same whatever follows the bytes that it was given.
use Rattle.capture.proofs.Names.{GREATEST_UNIT, block_size, record_size, nat_tests, Big, Block, Blocks, Err, Format, Header, List, Little, More, Moved, Ok, Order, Progress, Record, Records, Result, Section, NoStep, Unknown, arith, big_from-append, content_of, drop, drop-append-le, header_unit, length, length-append, length-drop, little_from-append, moved, next, number_at, or_stop, refl, section_unit, size_of, take, take-append-le, unit_of, with_bytes, ℕ, ◌++◌, ◌+◌, ◌>>=◌, ◌≡◌, ◌≤◌, CaptureUnit}

-- a number that is within the bytes
pub number_at-append : (order : Order) (n i : ℕ) (bytes more : List ℕ) → i + n ≤ length bytes
    → number_at order n i (bytes ++ more) ≡ number_at order n i bytes
number_at-append Little n i bytes more within =
    let inside : n ≤ length (drop i bytes) = omega (arith, length-drop i bytes) in
    rw (drop-append-le i bytes more (omega arith)) (little_from-append n (drop i bytes) more inside)
number_at-append Big n i bytes more within =
    let inside : n ≤ length (drop i bytes) = omega (arith, length-drop i bytes) in
    rw (drop-append-le i bytes more (omega arith)) (big_from-append n (drop i bytes) more inside)

word-append : (order : Order) (i : ℕ) (bytes more : List ℕ) → i ≤ 8 → 12 ≤ length bytes
    → number_at order 4 i (bytes ++ more) ≡ number_at order 4 i bytes
word-append order i bytes more few enough = number_at-append order 4 i bytes more (omega arith)

-- the kind of a unit, and its length
unit_of-append : (format : Format) (bytes more : List ℕ) → 12 ≤ length bytes
    → unit_of format (bytes ++ more) ≡ unit_of format bytes
unfolding unit_of section_unit header_unit
unit_of-append (Records order clock) bytes more enough = refl
unit_of-append (Blocks order) bytes more enough = rw (
  word-append Little 0 bytes more (omega arith) enough,
  word-append Little 8 bytes more (omega arith) enough,
  word-append Big 8 bytes more (omega arith) enough,
) refl
unit_of-append Unknown bytes more enough = rw (
  word-append Little 0 bytes more (omega arith) enough,
  word-append Little 8 bytes more (omega arith) enough,
  word-append Big 8 bytes more (omega arith) enough,
  word-append Big 0 bytes more (omega arith) enough,
) refl

size_of-append : (unit : CaptureUnit) (bytes more : List ℕ) → 12 ≤ length bytes
    → size_of unit (bytes ++ more) ≡ size_of unit bytes
unfolding size_of
size_of-append unit bytes more enough = grind (arith, number_at-append)

-- the length of a unit
pub size_range : (unit : CaptureUnit) (bytes : List ℕ) (size : ℕ) → size_of unit bytes ≡ Ok size → (12 ≤ size) × (size ≤ GREATEST_UNIT)
unfolding size_of block_size record_size
size_range (Section order) bytes size is = grind arith
size_range (Block order) bytes size is = grind arith
size_range (Header order clock) bytes size is = grind arith
size_range (Record order clock) bytes size is = grind arith

-- enough bytes stay enough
with_bytes-append : {X : Type 0} (len : ℕ) (bytes more : List ℕ) (inside inside' : Result X NoStep)
    → (with_bytes len bytes inside ≡ Err More → ⊥) → (len ≤ length bytes → (inside ≡ Err More → ⊥) → inside' ≡ inside)
    → with_bytes len (bytes ++ more) inside' ≡ with_bytes len bytes inside
with_bytes-append len bytes more inside inside' other same = grind (arith, nat_tests, length-append)

-- what follows a step that may stop
then-same : {X Y : Type 0} (first : Result X NoStep) (f g : X → Result Y NoStep) → (first >>= f ≡ Err More → ⊥)
    → ((x : X) → (f x ≡ Err More → ⊥) → g x ≡ f x) → first >>= g ≡ first >>= f
then-same (Ok x) f g other same = same x other
then-same (Err stop) f g other same = refl

-- a step from its unit's length on, and from its unit on
abbrev pub from_size : Progress → List ℕ → CaptureUnit → ℕ → Result Moved NoStep
from_size p bytes unit size =
    with_bytes size bytes (or_stop (content_of p unit (take size bytes)) >>= (λ does. Ok (moved size does)))

abbrev pub from_unit : Progress → List ℕ → CaptureUnit → Result Moved NoStep
from_unit p bytes unit = or_stop (size_of unit bytes) >>= from_size p bytes unit

-- the step is the same
pub steps_alike : (p : Progress) (bytes more : List ℕ) → (next p bytes ≡ Err More → ⊥)
    → next p (bytes ++ more) ≡ next p bytes
unfolding next
steps_alike p bytes more other =
    let all : List ℕ = bytes ++ more in
    with_bytes-append 12 bytes more (or_stop (unit_of p.format bytes) >>= from_unit p bytes)
    (or_stop (unit_of p.format all) >>= from_unit p all) other (λ enough other_unit.
    rw (unit_of-append p.format bytes more enough)
    (then-same (or_stop (unit_of p.format bytes)) (from_unit p bytes) (from_unit p all) other_unit (λ unit other_size.
    rw (size_of-append unit bytes more enough)
    (then-same (or_stop (size_of unit bytes)) (from_size p bytes unit) (from_size p all unit) other_size (λ size other_does.
    with_bytes-append size bytes more (or_stop (content_of p unit (take size bytes)) >>= (λ does. Ok (moved size does)))
    (or_stop (content_of p unit (take size all)) >>= (λ does. Ok (moved size does))) other_does
    (λ within last. rw (take-append-le size bytes more within) refl))))))
