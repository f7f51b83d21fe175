-- The options of an interface, one after the other.
use Rattle.capture.proofs.Names.{Fault, Interface, List, Ok, OptionFront, Order, Result, arith, drop, fill, first_option, if◌then◌else◌, length, length-drop, nat_eq, ne_eqb, refl, slice_range, suc, sym, with_option, with_options, zero, [], ℕ, ◌+◌, ◌-◌, ◌<◌, ◌>>=◌, ◌∙◌, ◌∷◌, ◌≡◌, ◌≤◌}

-- what is left after an option
abbrev pub after_option : OptionFront → List ℕ → List ℕ
after_option front bytes = drop (4 + (front.len + fill front.len)) bytes

-- what options do from the front of the first one on
abbrev pub from_front : Order → ℕ → List ℕ → Interface → OptionFront → Result Interface Fault
from_front order most rest i front =
    if nat_eq front.code 0 then Ok i
    else with_option order front.code (slice_range rest 4 (4 + front.len)) i
    >>= with_options order most (after_option front rest)

first_is : (order : Order) (most : ℕ) (rest : List ℕ) (i : Interface) → length rest ≤ most → 0 < length rest
    → with_options order most rest i ≡ first_option order rest >>= from_front order (most - 1) rest i
unfolding with_options
first_is order most [] i enough some = absurd (omega arith)
first_is order zero (byte ∷ rest) i enough some = absurd (omega arith)
first_is order (suc most) (byte ∷ rest) i enough some = let less : suc most - 1 ≡ most = omega arith in rw less refl

-- options are left, and they do to this interface what all do to the first one
pub record IsMidway (order : Order) (all : List ℕ) (first : Interface) (rest : List ℕ) (i : Interface) : Type 0 where
  pub most : ℕ
  pub enough : length rest ≤ most
  pub same : with_options order most rest i ≡ with_options order (length all) all first

pub midway_done : (order : Order) (all rest : List ℕ) (first i : Interface) → IsMidway order all first rest i
    → length rest ≡ 0 → Ok i ≡ with_options order (length all) all first
unfolding with_options
midway_done order all [] first i midway none = grind arith
midway_done order all (byte ∷ rest) first i midway none = absurd (omega arith)

-- the same from the front of the next option on, and after it
pub midway_next : (order : Order) (all rest : List ℕ) (first i : Interface) (midway : IsMidway order all first rest i)
    → 0 < length rest
    → first_option order rest >>= from_front order (midway.most - 1) rest i ≡ with_options order (length all) all first
midway_next order all rest first i midway some = sym (first_is order midway.most rest i midway.enough some) ∙ midway.same

pub midway_turn : (order : Order) (all rest : List ℕ) (first i j : Interface) (front : OptionFront)
    → IsMidway order all first rest i → 0 < length rest → first_option order rest ≡ Ok front → (front.code ≡ 0 → ⊥)
    → with_option order front.code (slice_range rest 4 (4 + front.len)) i ≡ Ok j
    → IsMidway order all first (after_option front rest) j
midway_turn order all rest first i j front midway some is more value = record {
  most = midway.most - 1;
  enough = omega (arith, midway.enough, length-drop {A = ℕ} (4 + (front.len + fill front.len)) rest);
  same = rw (is, ne_eqb front.code 0 more, value) at (midway_next order all rest first i midway some);
}
