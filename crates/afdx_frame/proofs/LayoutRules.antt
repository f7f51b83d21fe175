-- A frame breaks no rule of the layout exactly if it is one of the profile.
use Rattle.afdx_frame.proofs.Names.{Bool, Breach, HasAddresses, HasInternetHeader, HasLinkHeader, HasZeroPadding, IsFrame, Layout, List, None, Option, arith, fails_before_first, false, first_nonzero, fragment_field, get_or, has_total, has_units, has_fragment, HasFragmentation, internet_broken, layout_broken, length, link_broken, max, more_fragments, nat_tests, not, option_or, end_broken, padding_of, position_or_len_is, total_length, true, kept_then, ℕ, ◌%◌, ◌+◌, ◌-◌, ◌<◌, ◌==◌, ◌↔◌, ◌≡◌, ◌≤◌}
use Rattle.afdx_frame.proofs.Datagram.{zeros_part, zeros_there}

pub none_both : {A : Type 0} (a b : Option A) → option_or a b ≡ None → (a ≡ None) × (b ≡ None)
none_both a b e = grind (arith, nat_tests)

kept_of : (kept : Bool) (rule : Layout) (byte : ℕ) (later : Option Breach) → kept_then kept rule byte later ≡ None
    → (kept ≡ true) × (later ≡ None)
kept_of kept rule byte later e = grind arith

link_from : (f : List ℕ) → link_broken f ≡ None → (60 ≤ length f) × (length f ≤ 1514) × HasLinkHeader f
unfolding link_broken
link_from f e = grind (arith, nat_tests, kept_of)

link_to : (f : List ℕ) → 60 ≤ length f → length f ≤ 1514 → HasLinkHeader f → link_broken f ≡ None
unfolding link_broken
link_to f least most is = grind (arith, nat_tests)

total_from : (f : List ℕ) → has_total f ≡ true → (21 ≤ total_length f) × (length f ≡ max 60 (15 + total_length f))
total_from f e = grind (arith, nat_tests)

units_from : (f : List ℕ) → has_units f ≡ true → more_fragments ≤ fragment_field f % 16384 → (total_length f - 20) % 8 ≡ 0
units_from f e = grind (arith, nat_tests)

fragmentation_from : (arinc : Bool) (f : List ℕ) → has_fragment arinc f ≡ true → HasFragmentation f
fragmentation_from arinc f e = grind (arith, nat_tests)

pub fragmentation_kept : (arinc : Bool) (f : List ℕ) → internet_broken arinc f ≡ None → HasFragmentation f
unfolding internet_broken
fragmentation_kept arinc f e = grind (arith, nat_tests, kept_of, fragmentation_from)

internet_from : (f : List ℕ) → internet_broken false f ≡ None → HasInternetHeader f × (length f ≡ max 60 (15 + total_length f))
unfolding internet_broken
internet_from f e = grind (arith, nat_tests, total_from, units_from, kept_of)

internet_to : (f : List ℕ) → HasInternetHeader f → length f ≡ max 60 (15 + total_length f) → internet_broken false f ≡ None
unfolding internet_broken
internet_to f is fits = grind (arith, nat_tests)

zero_from : (bytes : List ℕ) → first_nonzero bytes ≡ None → (j : ℕ) → j < length bytes → get_or bytes j 0 ≡ 0
zero_from bytes e j below = grind (arith, nat_tests, fails_before_first)

zero_to : (bytes : List ℕ) → ((j : ℕ) → j < length bytes → get_or bytes j 0 ≡ 0) → first_nonzero bytes ≡ None
zero_to bytes zeros = rw (position_or_len_is (λ (byte : ℕ). not (byte == 0)) bytes (length bytes) 0 (omega arith)
    (λ k h. grind (arith, zeros k h)) (λ h. absurd (omega arith))) (grind (arith, nat_tests))

zero_padding : (f : List ℕ) → 14 + total_length f < length f → (first_nonzero (padding_of f) ≡ None) ↔ HasZeroPadding f
zero_padding f within = (
  λ e k from below. zeros_there f (14 + total_length f) (length f - 1) (omega arith) (zero_from (padding_of f) e) k from
      (omega arith),
  λ zeros. zero_to (padding_of f) (zeros_part f (14 + total_length f) (length f - 1) (omega arith)
      (λ k from below. zeros k from (omega arith))),
)

end_from : (f : List ℕ) → end_broken false f ≡ None → HasAddresses f × (first_nonzero (padding_of f) ≡ None)
unfolding end_broken
end_from f e = grind (arith, nat_tests, kept_of)

end_to : (f : List ℕ) → HasAddresses f → first_nonzero (padding_of f) ≡ None → end_broken false f ≡ None
unfolding end_broken
end_to f is e = grind (arith, nat_tests)

pub layout_is_profile : (f : List ℕ) → (layout_broken false f ≡ None) ↔ IsFrame f
unfolding layout_broken
layout_is_profile f = (
  λ e.
      let link = none_both _ _ e in
      let internet = none_both _ _ link.1 in
      let first = link_from f link.0 in
      let header = internet_from f internet.0 in
      let last = end_from f internet.1 in
      record {
        size = (first.0, first.1);
        link = first.2;
        internet = header.0;
        fits = header.1;
        addresses = last.0;
        padding = (zero_padding f (omega arith)).0 last.1;
      },
  λ is.
      let link = link_to f is.size.0 is.size.1 is.link in
      let internet = internet_to f is.internet is.fits in
      let last = end_to f is.addresses ((zero_padding f (omega arith)).1 is.padding) in
      cc,
)
