-- The options of a block, up to the one that tells a count, and the losses that it changes.
use Rattle.capture.proofs.Names.{Err, Fault, List, None, Ok, OptionFront, Order, Some, ap, arith, count_in, count_under, drop, eq-eqb, fill, first_option, from_front, length, length-drop, nat_tests, ne_eqb, number_at, options_in, refl, slice_range, suc, sym, zero, Valued, [], ℕ, ◌+◌, ◌-◌, ◌<◌, ◌∷◌, ◌∙◌, ◌≡◌, ◌≤◌, Interface, Losses, get_or, slice_get_past, slice_get_read, slice_set, with_losses, counted, lost_of, lost_on, sum_by-drop_more, drop_all, ◌^◌}

-- an option that doesn't tell the count
skipped : (order : Order) (code : ℕ) (o : Valued) (others : List Valued) → (o.code ≡ code → length o.value ≡ 8 → ⊥)
    → count_under order code (o ∷ others) ≡ count_under order code others
skipped order code o others other = grind (arith, nat_tests)

-- options are left, which tell the count that all tell
pub record IsLeft (order : Order) (code : ℕ) (all rest : List ℕ) : Type 0 where
  pub most : ℕ
  pub enough : length rest ≤ most
  pub same : count_under order code (options_in order most rest) ≡ count_in order code all

first_is : (order : Order) (most : ℕ) (rest : List ℕ) → length rest ≤ most → 0 < length rest
    → options_in order most rest ≡ from_front rest (options_in order (most - 1)) (first_option order rest)
unfolding options_in
first_is order zero rest enough some = absurd (omega arith)
first_is order (suc most) rest enough some = let less : suc most - 1 ≡ most = omega arith in rw less refl

-- the count from the front of the next option on
left_front : (order : Order) (code : ℕ) (all rest : List ℕ) (left : IsLeft order code all rest) → 0 < length rest
    → count_under order code (from_front rest (options_in order (left.most - 1)) (first_option order rest))
    ≡ count_in order code all
left_front order code all rest left some =
    sym (ap (count_under order code) (first_is order left.most rest left.enough some)) ∙ left.same

-- the options end with one that runs past the bytes, or with option 0
pub left_past : (order : Order) (code : ℕ) (all rest : List ℕ) (fault : Fault) → IsLeft order code all rest
    → 0 < length rest → first_option order rest ≡ Err fault → None ≡ count_in order code all
left_past order code all rest fault left some is = rw is at (left_front order code all rest left some)

pub left_end : (order : Order) (code : ℕ) (all rest : List ℕ) (front : OptionFront) → IsLeft order code all rest
    → 0 < length rest → first_option order rest ≡ Ok front → front.code ≡ 0 → None ≡ count_in order code all
left_end order code all rest front left some is ends =
    rw (is, eq-eqb front.code 0 ends) at (left_front order code all rest left some)

-- the next option tells the count, or it doesn't
pub left_count : (order : Order) (code : ℕ) (all rest : List ℕ) (front : OptionFront) → IsLeft order code all rest
    → 0 < length rest → first_option order rest ≡ Ok front → (front.code ≡ 0 → ⊥) → front.code ≡ code
    → length (slice_range rest 4 (4 + front.len)) ≡ 8
    → Some (number_at order 8 0 (slice_range rest 4 (4 + front.len))) ≡ count_in order code all
left_count order code all rest front left some is more same len =
    let long = eq-eqb (length (slice_range rest 4 (4 + front.len))) 8 len in
    rw (is, ne_eqb front.code 0 more, eq-eqb front.code code same, long)
    at (left_front order code all rest left some)

pub left_turn : (order : Order) (code : ℕ) (all rest : List ℕ) (front : OptionFront) → IsLeft order code all rest
    → 0 < length rest → first_option order rest ≡ Ok front → (front.code ≡ 0 → ⊥)
    → (front.code ≡ code → length (slice_range rest 4 (4 + front.len)) ≡ 8 → ⊥)
    → IsLeft order code all (drop (4 + (front.len + fill front.len)) rest)
left_turn order code all rest front left some is more other = record {
  most = left.most - 1;
  enough = omega (arith, left.enough, length-drop {A = ℕ} (4 + (front.len + fill front.len)) rest);
  same =
      sym (skipped order code (record { code = front.code; value = slice_range rest 4 (4 + front.len) })
      (options_in order (left.most - 1) (drop (4 + (front.len + fill front.len)) rest)) other)
      ∙ (rw (is, ne_eqb front.code 0 more) at (left_front order code all rest left some));
}

-- nothing is left
pub left_none : (order : Order) (code : ℕ) (all rest : List ℕ) → IsLeft order code all rest → length rest ≡ 0
    → None ≡ count_in order code all
unfolding options_in first_option
left_none order code all [] left none = by left.most left.same
  where
    by : (most : ℕ) → count_under order code (options_in order most []) ≡ count_in order code all
        → None ≡ count_in order code all
    by zero same = same
    by (suc most) same = same
left_none order code all (byte ∷ rest) left none = absurd (omega arith)

-- interfaces after the losses of one of them changed
pub losses_at : (interfaces : List Interface) (number : ℕ) (change : Losses → Losses) (i : Interface)
    → number < length interfaces → i ≡ get_or interfaces number i
    → with_losses number change interfaces ≡ slice_set interfaces number (record i { losses = change i.losses })
losses_at interfaces number change i inside is =
    rw (slice_get_read interfaces (length interfaces) number i refl inside is) refl

pub losses_past : (interfaces : List Interface) (number : ℕ) (change : Losses → Losses) → length interfaces ≤ number
    → with_losses number change interfaces ≡ interfaces
losses_past interfaces number change past = rw (slice_get_past interfaces number past) refl

-- the losses of one more interface
pub lost_more : (lost index : ℕ) (interfaces : List Interface) (i : Interface) → index < length interfaces
    → get_or interfaces index i ≡ i
    → counted (counted lost (lost_of i.losses)) (lost_on (drop (index + 1) interfaces))
    ≡ counted lost (lost_on (drop index interfaces))
lost_more lost index interfaces i inside is =
    rw (sum_by-drop_more (λ (j : Interface). lost_of j.losses) interfaces index i inside, is) (omega arith)

-- no more interfaces
pub lost_done : (lost index : ℕ) (interfaces : List Interface) → length interfaces ≤ index → lost < 2 ^ 64
    → counted lost (lost_on (drop index interfaces)) ≡ lost
lost_done lost index interfaces past most = rw (drop_all index interfaces past) (omega arith)
