-- The worked transmissions of a plan, by computation: of one message, also complete and on one network, and of two.
use Rattle.afdx_laws.proofs.Names.{◌≡◌, ℕ, [], ◌∷◌, refl, sym, ◌∙◌, arith, ◌≤◌, List, map, All, IsPlan, Networks, Both, OnlyA, demo_valid, A, B, Sent, Accepted, IsLegal, IsQueued, messages_of, AreCarriedOf, frames_of, IsOn, IsHandedOver, plain_receiver, checksum, cutting, fragments_at, addresses, header_front, internet_header, link_header, udp_header, datagram, unnumbered, demo_plan, demo_port, demo_link, one_byte_accepted, one_byte, one_entry, two_arrivals, OneIsLegal, LegalDespiteOneLoss, one_own, other_own, OwnComes, OneIsWhole, NeedsAll, demo_on, ComesFromOne, AreTwinsOfOne, two_accepted, swapped_accepted, two_entries, PairHanded, AreSwapped, both_arrive, PairArrives, NeedsLegal, both_from_b, NeedsClose, PassesAGapApart}
use Rattle.afdx_laws.proofs.LegalLinks.{legal_arrive_holds, legal_despite_loss_holds, own_lists_arrive_holds}
use Rattle.afdx_laws.proofs.ListLemmas.{below_one, nil_isnt_cons, fails_by, needs_each}
use Rattle.afdx_laws.proofs.WorkedMessage.{few_are_near, not_first, too_few, close_by_test}

byte_queued : (carriers : Networks) (byte : ℕ) → IsQueued (demo_on carriers) 0 0 (record { port = demo_port; bytes = byte ∷ [] })
byte_queued carriers byte = grind arith

one_handed : IsHandedOver demo_plan one_byte_accepted (one_entry A) (one_entry B) 0 0
unfolding checksum addresses header_front internet_header link_header udp_header datagram unnumbered cutting fragments_at
one_handed = grind (arith, byte_queued Both 1, demo_valid)

pub one_is_legal : OneIsLegal
unfolding checksum addresses header_front internet_header link_header udp_header datagram unnumbered
one_is_legal = record {
  handed = one_handed;
  carry = record { on_a = ([], refl); on_b = ([], refl); near = few_are_near 1 two_arrivals (omega arith) };
  message = refl;
  way = grind arith;
  passes = refl;
}

pub legal_despite_one_loss : LegalDespiteOneLoss
unfolding checksum addresses header_front internet_header link_header udp_header datagram unnumbered
legal_despite_one_loss = grind (arith, one_handed)

pub one_is_whole : OneIsWhole
unfolding checksum addresses header_front internet_header link_header udp_header datagram unnumbered cutting fragments_at
one_is_whole = record {
  valid = demo_valid;
  handed = record {
    accepted = one_byte_accepted;
    legal = one_handed.legal;
    allowed = grind arith;
    are_own = below_one _ refl;
    log = one_entry A;
    streams = below_one _ refl;
    done = below_one _ (below_one _ refl);
  };
  fit = omega arith;
  carry = one_is_legal.carry;
  all = omega arith;
  whole = record {
    sent = one_byte ∷ [];
    are = one_is_legal.message;
    ports = grind arith;
  };
}

one_on : IsOn demo_plan 0 0 0
one_on = grind arith

other_lost : OwnComes other_own two_arrivals → ⊥
other_lost lists = lost lists.sent (sym one_is_legal.message ∙ lists.are) (lists.ports 0 one_on)
  where
    lost : (sent : List Sent) → (1 ∷ []) ∷ [] ≡ map (λ (s : Sent). s.bytes) sent → messages_of demo_port sent ≡ (2 ∷ []) ∷ [] → ⊥
    lost [] is own = nil_isnt_cons (sym is)
    lost (s ∷ []) is own = grind arith
    lost (s ∷ t ∷ later) is own = grind arith

none_lost : OwnComes one_own [] → ⊥
none_lost lists = lost lists.sent lists.are (lists.ports 0 one_on)
  where
    lost : (sent : List Sent) → [] ≡ map (λ (s : Sent). s.bytes) sent → messages_of demo_port sent ≡ (1 ∷ []) ∷ [] → ⊥
    lost [] is own = nil_isnt_cons own
    lost (s ∷ later) is own = nil_isnt_cons is

pub needs_all : NeedsAll
unfolding checksum addresses header_front internet_header link_header udp_header datagram unnumbered
needs_all = record {
  other = fails_by (λ handed. own_lists_arrive_holds demo_plan other_own (one_entry A) (one_entry B) demo_valid handed
      0 0 (omega arith) (omega arith) 1 plain_receiver two_arrivals one_is_whole.fit one_is_whole.carry
      one_is_whole.all) other_lost;
  lost_carry = record {
    on_a = grind arith;
    on_b = grind arith;
    near = few_are_near 1 [] (omega arith);
  };
  lost = grind (arith, none_lost);
}

-- the plan is valid, whichever networks its link is on, and with other frames
pub demo_with_valid : (carriers : Networks) (most : ℕ) → 64 ≤ most → most ≤ 1518
    → IsPlan (record demo_plan { links = record demo_link { networks = carriers; lmax = most } ∷ [] })
demo_with_valid carriers most least greatest = grind arith

pub comes_from_one : ComesFromOne
unfolding checksum addresses header_front internet_header link_header udp_header datagram unnumbered cutting fragments_at
comes_from_one = grind (arith, byte_queued OnlyA 1, demo_with_valid, nil_isnt_cons)

pub are_twins_of_one : AreTwinsOfOne
unfolding checksum addresses header_front internet_header link_header udp_header datagram unnumbered
are_twins_of_one = grind (arith, one_handed)

swapped_allowed : All (IsQueued demo_plan 0 0) (swapped_accepted 0 0)
swapped_allowed = grind arith

handed_pair : (accepted : Accepted) → All (IsQueued demo_plan 0 0) (accepted 0 0)
    → IsLegal demo_plan accepted (two_entries A) (two_entries B) → PairHanded accepted
handed_pair accepted allowed legal = grind arith

two_handed : PairHanded two_accepted
unfolding checksum addresses header_front internet_header link_header udp_header datagram unnumbered cutting fragments_at
two_handed = grind arith

pair_carried : AreCarriedOf 3 (frames_of 1 (two_entries A)) (frames_of 1 (two_entries B)) both_arrive
unfolding checksum addresses header_front internet_header link_header udp_header datagram unnumbered
pair_carried = record { on_a = ([], refl); on_b = grind arith; near = few_are_near 3 both_arrive (omega arith) }

-- messages in another order don't arrive
swapped_lost : PairArrives swapped_accepted plain_receiver both_arrive → ⊥
unfolding checksum addresses header_front internet_header link_header udp_header datagram unnumbered
swapped_lost = grind arith

are_swapped : AreSwapped
are_swapped = record {
  allowed = swapped_allowed;
  legal = λ legal. swapped_lost (legal_arrive_holds demo_plan swapped_accepted _ _ 0 0 3 plain_receiver both_arrive
      (handed_pair swapped_accepted swapped_allowed legal) (omega arith) pair_carried);
}

pub needs_legal : NeedsLegal
unfolding checksum addresses header_front internet_header link_header udp_header datagram unnumbered cutting fragments_at
needs_legal = record {
  swapped = are_swapped;
  each = needs_each
      (λ accepted tolerance arrivals. legal_arrive_holds demo_plan accepted _ _ 0 0 3 tolerance arrivals)
      two_handed (omega arith) pair_carried swapped_lost (too_few 2 refl (omega arith) (omega arith) (omega arith)) (not_first refl refl);
}

pub needs_close : NeedsClose
unfolding checksum addresses header_front internet_header link_header udp_header datagram unnumbered cutting fragments_at
needs_close = record {
  swapped = are_swapped;
  each = needs_each
      (λ accepted check came. legal_despite_loss_holds demo_plan accepted _ _ 0 0 check B came)
      two_handed (omega arith) (close_by_test both_from_b B 2 refl refl) (not_first refl refl) (too_few 2 refl (omega arith) (omega arith) (omega arith))
      (not_first refl refl);
}

pub passes_a_gap_apart : PassesAGapApart
unfolding checksum addresses header_front internet_header link_header udp_header datagram unnumbered
passes_a_gap_apart = grind (arith, two_handed)
