-- The exchange of a frame's bytes, byte by byte.
use Rattle.std.proofs.Common.{arith, ◌≡◌, ◌≢◌, ℕ, ◌≤◌, ◌<◌, List, length, length-set, refl, sym, ap, ◌∙◌, Bool, true, false}
use Rattle.std.specs.Prelude.{nat_eq, nat_lt, slice_index, slice_set, if◌then◌else◌}
use Rattle.std.proofs.lemmas.List.{ext_get_or, get_or-set_other}
use Rattle.std.proofs.lemmas.Grind.{get_or-set_at}
use Rattle.judge.specs.declared.addressing.Addressing.{Addressing}
use Rattle.judge.specs.Addresses.{exchanged, interface_as, interface_from, byte_as, frame_as, constant_field, b_left, OneToOne, InterfaceTold, OwnAsProfile}

-- an exchange is undone by itself
back : (one other byte : ℕ) → exchanged one other (exchanged one other byte) ≡ byte
back one other byte = grind arith

pub interface_told : InterfaceTold
interface_told own byte =
    ap (exchanged own.a 32) (back (b_left own) 64 (exchanged own.a 32 byte)) ∙ back own.a 32 byte

-- a byte is written as a function of it, and another one is read
with_at : (ℕ → ℕ → ℕ) → ℕ → List ℕ → List ℕ
with_at g i f = slice_set f i (g i (slice_index f i))

size_at : (g : ℕ → ℕ → ℕ) (i : ℕ) (f : List ℕ) → length (with_at g i f) ≡ length f
unfolding with_at
size_at g i f = length-set f i (g i (slice_index f i))

same : (g : ℕ → ℕ → ℕ) (i k : ℕ) (f : List ℕ) → k ≡ i → i < length f
    → slice_index (with_at g i f) k ≡ g i (slice_index f i)
unfolding with_at
same g i k f at in_f = get_or-set_at f i k (g i (slice_index f i)) 0 at in_f

other : (g : ℕ → ℕ → ℕ) (i k : ℕ) (f : List ℕ) → k ≢ i → slice_index (with_at g i f) k ≡ slice_index f k
unfolding with_at
other g i k f apart = get_or-set_other f i k (g i (slice_index f i)) 0 apart

abbrev fields : (ℕ → ℕ → ℕ) → List ℕ → List ℕ
fields g f = with_at g 3 (with_at g 2 (with_at g 1 (with_at g 0 f)))

first : (g : ℕ → ℕ → ℕ) (f : List ℕ) (k : ℕ) → 12 ≤ length f → k < 4 → slice_index (fields g f) k ≡ g k (slice_index f k)
first g f k whole in_field = grind (arith, same, other, size_at)

later : (g : ℕ → ℕ → ℕ) (f : List ℕ) (k : ℕ) → 4 ≤ k → slice_index (fields g f) k ≡ slice_index f k
later g f k past = grind (arith, other)

fields_size : (g : ℕ → ℕ → ℕ) (f : List ℕ) → length (fields g f) ≡ length f
fields_size g f = grind (arith, size_at)

last : (g : ℕ → ℕ → ℕ) (f : List ℕ) (k : ℕ) → 12 ≤ length f → k ≡ 11
    → slice_index (with_at g 11 (fields g f)) k ≡ g 11 (slice_index f 11)
last g f k whole at =
    same g 11 k (fields g f) at (rw (fields_size g f) whole) ∙ ap (g 11) (later g f 11 (omega arith))

not_short : (n : ℕ) → 12 ≤ n → nat_lt n 12 ≡ false
not_short n is = grind arith

is_11 : (k : ℕ) → nat_eq k 11 ≡ true → k ≡ 11
is_11 k is = grind arith

not_11 : (k : ℕ) → nat_eq k 11 ≡ false → k ≢ 11
not_11 k is = grind arith

below : (k most : ℕ) → nat_lt k most ≡ true → k < most
below k most is = grind arith

above : (k most : ℕ) → nat_lt k most ≡ false → most ≤ k
above k most is = grind arith

in_field : (own : Addressing) (k byte : ℕ) → k < 4
    → byte_as own k byte ≡ exchanged (slice_index own.constant k) (slice_index constant_field k) byte
in_field own k byte is = grind arith

stays : (own : Addressing) (k byte : ℕ) → 4 ≤ k → k ≢ 11 → byte_as own k byte ≡ byte
stays own k byte past apart = grind arith

bytes_of : (own : Addressing) (f : List ℕ) (k : ℕ) → 12 ≤ length f
    → slice_index (frame_as own f) k ≡ byte_as own k (slice_index f k)
unfolding frame_as with_at
bytes_of own f k whole = rw (not_short (length f) whole) (by (nat_eq k 11) refl (nat_lt k 4) refl)
  where
    by : (t : Bool) → nat_eq k 11 ≡ t → (u : Bool) → nat_lt k 4 ≡ u
        → slice_index (with_at (byte_as own) 11 (fields (byte_as own) f)) k ≡ byte_as own k (slice_index f k)
    by true at u is =
        last (byte_as own) f k whole (is_11 k at) ∙ ap (λ j. byte_as own j (slice_index f j)) (sym (is_11 k at))
    by false at true is =
        other (byte_as own) 11 k (fields (byte_as own) f) (not_11 k at) ∙ first (byte_as own) f k whole (below k 4 is)
    by false at false is =
        other (byte_as own) 11 k (fields (byte_as own) f) (not_11 k at) ∙ later (byte_as own) f k (above k 4 is)
        ∙ sym (stays own k (slice_index f k) (above k 4 is) (not_11 k at))

size_of : (own : Addressing) (f : List ℕ) → length (frame_as own f) ≡ length f
unfolding frame_as
size_of own f = grind (arith, length-set)

-- the byte at a place of the constant field, at the interface byte, or elsewhere
abbrev chosen : Bool → Bool → Addressing → ℕ → (ℕ → ℕ) → ℕ → ℕ
chosen t u own k interface byte =
    if t then exchanged (slice_index own.constant k) (slice_index constant_field k) byte
    else (if u then interface byte else byte)

abbrev byte_from : Addressing → ℕ → ℕ → ℕ
byte_from own k byte = chosen (nat_lt k 4) (nat_eq k 11) own k (interface_from own) byte

undone : (own : Addressing) (k byte : ℕ) → byte_from own k (byte_as own k byte) ≡ byte
undone own k byte = by (nat_lt k 4) (nat_eq k 11)
  where
    by : (t u : Bool) → chosen t u own k (interface_from own) (chosen t u own k (interface_as own) byte) ≡ byte
    by true u = back (slice_index own.constant k) (slice_index constant_field k) byte
    by false true = interface_told own byte
    by false false = refl

same_byte : (own : Addressing) (k x y : ℕ) → byte_as own k x ≡ byte_as own k y → x ≡ y
same_byte own k x y is = sym (undone own k x) ∙ ap (byte_from own k) is ∙ undone own k y

to_own : (own ours byte : ℕ) → exchanged own ours byte ≡ ours → byte ≡ own
to_own own ours byte is = grind arith

to_ours : (own ours byte : ℕ) → byte ≡ own → exchanged own ours byte ≡ ours
to_ours own ours byte is = grind arith

to_a : (own : Addressing) (byte : ℕ) → own.a ≢ own.b → interface_as own byte ≡ 32 → byte ≡ own.a
to_a own byte apart is = grind arith

from_a : (own : Addressing) (byte : ℕ) → own.a ≢ own.b → byte ≡ own.a → interface_as own byte ≡ 32
from_a own byte apart is = grind arith

to_b : (own : Addressing) (byte : ℕ) → own.a ≢ own.b → interface_as own byte ≡ 64 → byte ≡ own.b
to_b own byte apart is = grind arith

from_b : (own : Addressing) (byte : ℕ) → own.a ≢ own.b → byte ≡ own.b → interface_as own byte ≡ 64
from_b own byte apart is = grind arith

short : (own : Addressing) (f : List ℕ) → nat_lt (length f) 12 ≡ true → frame_as own f ≡ f
unfolding frame_as
short own f is = rw is refl

pub one_to_one : OneToOne
one_to_one own f g is = by (nat_lt (length f) 12) refl
  where
    sizes : length f ≡ length g
    sizes = sym (size_of own f) ∙ ap length is ∙ size_of own g

    by : (t : Bool) → nat_lt (length f) 12 ≡ t → f ≡ g
    by true test = sym (short own f test) ∙ is ∙ short own g (rw (sym sizes) test)
    by false test = ext_get_or 0 f g sizes (λ k in_f. same_byte own k (slice_index f k) (slice_index g k)
        (sym (bytes_of own f k (above (length f) 12 test)) ∙ ap (λ h. slice_index h k) is
        ∙ bytes_of own g k (above (length g) 12 (rw (sym sizes) test))))

field_of : (own : Addressing) (f : List ℕ) (k : ℕ) → 12 ≤ length f → k < 4
    → slice_index (frame_as own f) k
    ≡ exchanged (slice_index own.constant k) (slice_index constant_field k) (slice_index f k)
field_of own f k whole is = bytes_of own f k whole ∙ in_field own k (slice_index f k) is

pub own_as_profile : OwnAsProfile
own_as_profile own f apart whole = record {
  size = size_of own f;
  constant = λ k is. (
    (λ kept. to_own (slice_index own.constant k) (slice_index constant_field k) (slice_index f k)
        (sym (field_of own f k whole is) ∙ kept)),
    (λ kept. field_of own f k whole is
        ∙ to_ours (slice_index own.constant k) (slice_index constant_field k) (slice_index f k) kept),
  );
  a = (
    (λ kept. to_a own (slice_index f 11) apart (sym (bytes_of own f 11 whole) ∙ kept)),
    (λ kept. bytes_of own f 11 whole ∙ from_a own (slice_index f 11) apart kept),
  );
  b = (
    (λ kept. to_b own (slice_index f 11) apart (sym (bytes_of own f 11 whole) ∙ kept)),
    (λ kept. bytes_of own f 11 whole ∙ from_b own (slice_index f 11) apart kept),
  );
  others = λ k past not_last. bytes_of own f k whole ∙ stays own k (slice_index f k) past not_last;
}
