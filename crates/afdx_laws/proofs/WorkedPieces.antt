-- The worked reassembly and its buffers, by computation.
use Rattle.afdx_laws.proofs.Names.{ℕ, false, [], ◌∷◌, refl, arith, ◌≡◌, inl, inr, sym, true, All, Some, cases_eq, Buffer, empty, HasByte, buffers_after, HoldsOne, HasUpTo, checksum, cutting, addresses, header_front, internet_header, link_header, udp_header, datagram, unnumbered, two_datagrams, piece, FirstIsGiven, NeedsOrder, two_begun, NeedsInTurn, HoldsAFrame}
use Rattle.afdx_laws.proofs.ListLemmas.{fails_by}

two_some : All HasByte two_datagrams
two_some = grind arith

pub first_is_given : FirstIsGiven
unfolding cutting
first_is_given = record { some = two_some; first = (piece 4 1 false 29 4 ∷ [], refl); given = refl; all = grind arith }

pub needs_order : NeedsOrder
unfolding cutting
needs_order = grind arith

has_byte : (b : Buffer) (x : ℕ) → b.byte_at 0 ≡ Some x → b ≡ empty → ⊥
has_byte b x has is = grind arith

two_hold : HoldsOne 0 20 (buffers_after (λ key. empty) two_begun) → ⊥
two_hold one = elim (cases_eq one.key 0) [
  | inl first ↦ has_byte (buffers_after (λ key. empty) two_begun 4) 21 refl
      (one.others 4 refl (grind arith))
  | inr other ↦ has_byte (buffers_after (λ key. empty) two_begun 0) 1 refl (one.others 0 refl (λ is. other (sym is)))
]

two_sizes : All (HasUpTo 20) two_datagrams
two_sizes = grind arith

pub needs_in_turn : NeedsInTurn
unfolding cutting
needs_in_turn = record {
  some = two_some;
  size = two_sizes;
  begun = fails_by (grind arith) two_hold;
  first = (piece 0 2 false 17 4 ∷ piece 4 0 true 21 8 ∷ piece 4 1 false 29 4 ∷ [], refl);
  small = grind arith;
}

pub holds_a_frame : HoldsAFrame
unfolding checksum addresses header_front internet_header link_header udp_header datagram unnumbered
holds_a_frame = grind arith
