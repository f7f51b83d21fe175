-- The worked delivery, the worked runs of a receiver and the worked losses, by computation.
use Rattle.afdx_laws.proofs.Names.{◌≡◌, ◌≤◌, ◌<◌, List, [], ◌∷◌, length, map, take, ◌+◌, ℕ, false, nat_eq, refl, arith, max, Bool, true, not, ◌&&◌, ◌||◌, nat_lt, nat_le, cond, and_parts, slice_index, length-append, length-take, length-map, Net, A, B, Sent, fragments, sub_in, twin_of, those_with, carried, other, IsNear, IsStream, AreCarried, AreWithin, StartsFirst, AreClose, same_net, IsSending, AreFirst, AreHanded, one_accepted, both_frames, four_arrivals, OneMessageArrives, NeedsHanding, bare_frame, bare_stream, same_twice, far_behind, wide_receiver, AcceptsEachOnce, NeedsNumbers, NeedsALag, NeedsAStream, second_lost, MasksOneLoss, NeedsTheFirst, BeginsOnBoth, ComesDespiteLoss, NeedsAWholeNetwork, NeedsOneWhole, checksum, cutting, addresses, header_front, internet_header, link_header, udp_header, datagram, unnumbered, fragments_at}
use Rattle.afdx_laws.proofs.ListLemmas.{other_length, fails_by, needs_each}
use Rattle.afdx_laws.proofs.Receiving.{exactly_once_holds}
use Rattle.afdx_laws.proofs.Arriving.{messages_arrive_holds, despite_loss_holds}
use Rattle.afdx_laws.proofs.HandedOver.{handed_arrive_holds, handed_despite_loss_holds}

pub both_handed : AreHanded 1 25 0 one_accepted (both_frames A) (both_frames B)
unfolding checksum addresses header_front internet_header link_header udp_header datagram unnumbered cutting fragments_at
both_handed = grind arith

are_sent : IsSending 1 25 0 one_accepted A (both_frames A)
are_sent = grind (arith, both_handed)

carried_le : {F : Type 0} (net : Net) (xs : List (Net × F)) → length (carried net xs) ≤ length xs
carried_le net [] = omega arith
carried_le net ((from, frame) ∷ xs) = grind (arith, carried_le net xs)

pub few_are_near : {F : Type 0} (lag : ℕ) (arrivals : List (Net × F)) → length arrivals ≤ lag + 1 → IsNear lag arrivals
few_are_near lag arrivals few_came before after net frame is = grind (arith, length-append, carried_le)

pub one_message_arrives : OneMessageArrives
unfolding checksum addresses header_front internet_header link_header udp_header datagram unnumbered
one_message_arrives = grind arith

abbrev pub first_of : (List ℕ → ℕ) → List (List ℕ) → ℕ
first_of read [] = 0
first_of read (x ∷ later) = read x

abbrev pub first_byte : List ℕ → ℕ
first_byte message = slice_index message 0

-- messages that begin with another byte than those sent aren't the first of them
pub not_first : {room : ℕ} {accepted : List Sent} {m : List ℕ} {later frames messages : List (List ℕ)}
    → messages ≡ m ∷ later → nat_eq (first_byte m) (first_of first_byte (map (λ (s : Sent). s.bytes) accepted)) ≡ false
    → AreFirst 1 room 0 accepted frames messages → ⊥
not_first {accepted = accepted} are other first = grind arith

-- nor are fewer than those whose frames all came
pub too_few : {room : ℕ} {accepted : List Sent} {frames messages given : List (List ℕ)} (n : ℕ)
    → messages ≡ given → length given < n → n ≤ length accepted
    → length (fragments 1 room A (take n accepted)) ≤ length (those_with sub_in 0 frames) → AreFirst 1 room 0 accepted frames messages → ⊥
too_few {accepted = accepted} n are short within enough first = grind (arith, length-take, length-map)

-- the worked message has two frames, and both are among the stream's first two
whole_lost : {messages : List (List ℕ)} → messages ≡ [] → AreFirst 1 25 0 one_accepted (take 2 (both_frames A)) messages → ⊥
unfolding checksum addresses header_front internet_header link_header udp_header datagram unnumbered cutting fragments_at
whole_lost none = grind arith

pub needs_handing : NeedsHanding
unfolding checksum addresses header_front internet_header link_header udp_header datagram unnumbered
needs_handing = needs_each
    (λ accepted tolerance arrivals.
    handed_arrive_holds 1 25 0 3 tolerance accepted (both_frames A) (both_frames B) arrivals)
    both_handed (omega arith)
    (record { on_a = ([], refl); on_b = ([], refl); near = few_are_near 3 four_arrivals (omega arith) })
    (not_first one_message_arrives.message refl) (whole_lost refl) (whole_lost refl)

pub four_carried : AreCarried 3 (both_frames A) four_arrivals
unfolding checksum addresses header_front internet_header link_header udp_header datagram unnumbered
four_carried = record { on_a = ([], refl); on_b = ([], refl); near = few_are_near 3 four_arrivals (omega arith) }

pub needs_a_stream : NeedsAStream
unfolding checksum addresses header_front internet_header link_header udp_header datagram unnumbered
needs_a_stream = needs_each
    (λ accepted tolerance arrivals. messages_arrive_holds 1 25 0 3 tolerance accepted A (both_frames A) arrivals)
    are_sent (omega arith) four_carried
    (grind arith) (whole_lost refl) (whole_lost refl)

pub accepts_each_once : AcceptsEachOnce
unfolding checksum addresses header_front internet_header link_header udp_header datagram unnumbered
accepts_each_once = grind (arith, four_carried)

pub needs_numbers : NeedsNumbers
needs_numbers = record {
  carry = record {
    on_a = ([], refl);
    on_b = grind arith;
    near = few_are_near 3 same_twice (omega arith);
  };
  stream = grind arith;
}

bare_three : IsStream (bare_stream (0 ∷ 1 ∷ 2 ∷ []))
bare_three = grind arith

pub needs_a_lag : NeedsALag
needs_a_lag = record {
  stream = bare_three;
  fit = omega arith;
  far = fails_by
      (exactly_once_holds 1 wide_receiver (bare_stream (0 ∷ 1 ∷ 2 ∷ [])) far_behind (omega arith) bare_three)
      (other_length refl);
  unfit = grind arith;
  carry = record { on_a = ([], refl); on_b = (twin_of B (bare_frame 2) ∷ [], refl); near = few_are_near 4 far_behind (omega arith) };
}

-- `AreWithin` as a test
abbrev lies_within : Net → ℕ → ℕ → ℕ → List (Net × ℕ) → Bool
lies_within whole n farthest carries [] = true
lies_within whole n farthest carries (e ∷ es) =
    (nat_lt e.1 n && nat_le farthest (e.1 + 254) && nat_le e.1 (carries + 254)
    && (not (same_net whole e.0) || nat_eq e.1 carries))
    && lies_within whole n (max farthest (e.1 + 1)) (cond (same_net whole e.0) (carries + 1) carries) es

within_by_test : (came : List (Net × ℕ)) (whole : Net) (n farthest carries : ℕ)
    → lies_within whole n farthest carries came ≡ true → AreWithin whole n farthest carries came
within_by_test [] whole n farthest carries test = tt
within_by_test (e ∷ es) whole n farthest carries test =
    let parts = and_parts (nat_lt e.1 n && nat_le farthest (e.1 + 254) && nat_le e.1 (carries + 254)
    && (not (same_net whole e.0) || nat_eq e.1 carries)) _ test in
    grind (arith, within_by_test es whole n (max farthest (e.1 + 1)) (cond (same_net whole e.0) (carries + 1) carries) parts.1)

pub close_by_test : (came : List (Net × ℕ)) (whole : Net) (n : ℕ)
    → lies_within whole n 0 0 came ≡ true → StartsFirst came → AreClose whole n 0 0 came
close_by_test came whole n test starts = grind (arith, within_by_test)

second_is_close : AreClose B 2 0 0 second_lost
second_is_close = grind arith

pub masks_one_loss : MasksOneLoss
unfolding checksum addresses header_front internet_header link_header udp_header datagram unnumbered
masks_one_loss = grind arith

pub needs_the_first : NeedsTheFirst
unfolding checksum addresses header_front internet_header link_header udp_header datagram unnumbered
needs_the_first = grind arith

pub begins_on_both : BeginsOnBoth
unfolding checksum addresses header_front internet_header link_header udp_header datagram unnumbered
begins_on_both = grind (arith, masks_one_loss)

pub comes_despite_loss : ComesDespiteLoss
unfolding checksum addresses header_front internet_header link_header udp_header datagram unnumbered
comes_despite_loss = refl

pub needs_a_whole_network : NeedsAWholeNetwork
unfolding checksum addresses header_front internet_header link_header udp_header datagram unnumbered
needs_a_whole_network = needs_each
    (λ accepted check came. despite_loss_holds 1 25 0 check B accepted A (both_frames A) came)
    are_sent (omega arith) second_is_close
    (grind arith) (whole_lost refl) (whole_lost refl)

pub needs_one_whole : NeedsOneWhole
unfolding checksum addresses header_front internet_header link_header udp_header datagram unnumbered
needs_one_whole = needs_each
    (λ accepted check came. handed_despite_loss_holds 1 25 0 check B accepted (both_frames A) (both_frames B) came)
    both_handed (omega arith) second_is_close
    (grind arith) (whole_lost refl) (whole_lost refl)
