-- The worked recordings of the law of wanted twins, by computation and by the law.
use Rattle.afdx_laws.proofs.JudgeNames.{A, All-from_recursion, B, OnNet, addresses, admitted, after_packet, apart, arith, check_sequence, checked, checksum, datagram, demo_plan, demo_valid, end_broken, false, fields_of, findings, found_at_end, found_missing, found_of_arrival, found_on_link, found_with_end, found_with_packet, fragment_deviation, frame_in, head_now, header_front, inl, inr, internet_broken, internet_header, late, layout_broken, left_waiting, length_deviation, line_after, line_with, link_after, link_broken, link_header, message_deviation, one_frame, packet, pairing_with, place_of, refl, same_net, second_frame, strict, third_frame, IsInOrder, time_of, twin_deviation, twin_other, udp_header, unchecked, unnumbered, verdict, with_arrival, with_byte, with_verdict, [], ◌≡◌, ◌≤◌, begun_later, middle, three_on_both, turned, FindsTwins, NeedsTheTime, IsCommon, IsOnBoth}
use Rattle.afdx_laws.proofs.Following.{twins_wanted_holds}
use Rattle.afdx_laws.proofs.Wanted.{IsIn, contains_in}
use Rattle.afdx_laws.proofs.WorkedFindings.{IsBare}

nothing_in_three : findings demo_plan strict three_on_both ≡ []
unfolding admitted after_packet found_of_arrival found_on_link found_with_end found_with_packet link_after
    with_arrival with_verdict fields_of fragment_deviation head_now length_deviation message_deviation
    end_broken internet_broken layout_broken link_broken line_after line_with verdict frame_in
    place_of checked unchecked check_sequence with_byte found_at_end found_missing left_waiting pairing_with
    twin_deviation twin_other checksum addresses datagram header_front internet_header link_header udp_header
    unnumbered
nothing_in_three = refl

nothing_later : findings demo_plan late begun_later ≡ []
unfolding admitted after_packet found_of_arrival found_on_link found_with_end found_with_packet link_after
    with_arrival with_verdict fields_of fragment_deviation head_now length_deviation message_deviation
    end_broken internet_broken layout_broken link_broken line_after line_with verdict frame_in
    place_of checked unchecked check_sequence with_byte found_at_end found_missing left_waiting pairing_with
    twin_deviation twin_other checksum addresses datagram header_front internet_header link_header udp_header
    unnumbered
nothing_later = refl

three_in_order : IsInOrder 0 three_on_both
three_in_order = (omega arith, (omega arith, (omega arith, (omega arith, (omega arith, (omega arith, tt))))))

nothing_turned : findings demo_plan late turned ≡ []
unfolding admitted after_packet found_of_arrival found_on_link found_with_end found_with_packet link_after
    with_arrival with_verdict fields_of fragment_deviation head_now length_deviation message_deviation
    end_broken internet_broken layout_broken link_broken line_after line_with verdict frame_in
    place_of checked unchecked check_sequence with_byte found_at_end found_missing left_waiting pairing_with
    twin_deviation twin_other checksum addresses datagram header_front internet_header link_header udp_header
    unnumbered
nothing_turned = refl

middle_on : IsOnBoth demo_plan middle.packet.bytes
unfolding checksum addresses datagram header_front internet_header link_header udp_header unnumbered
middle_on = record { k = 0; within = omega arith; link = refl; both = refl }

middle_common : IsCommon strict three_on_both middle
middle_common = record {
  before = packet B 0 (one_frame B);
  has_before = record { member = (1, omega arith, refl); net = refl };
  earlier = omega arith;
  after = packet B 2000000 (third_frame B);
  has_after = record { member = (5, omega arith, refl); net = refl };
  later = omega arith;
}

-- no packet is a twin of the first one
none_near : (q : OnNet) → same_net q.net A ≡ false → apart (time_of q.packet) 0 ≤ 0 → IsIn q begun_later → ⊥
none_near q net near (inl same) = cc (rw (← same) at net)
none_near q net near (inr (inl same)) = cc (rw (← same) at net)
none_near q net near (inr (inr (inl same))) = let close = rw (← same) at near in absurd (omega arith)
none_near q net near (inr (inr (inr none))) = none

pub finds_twins : FindsTwins
finds_twins = record {
  order = three_in_order;
  nothing = nothing_in_three;
  common = middle_common;
  twin = twins_wanted_holds demo_plan strict three_on_both middle demo_valid refl
      (All-from_recursion IsBare three_on_both (refl, (refl, (refl, (refl, (refl, (refl, tt))))))) three_in_order nothing_in_three
      (2, omega arith, refl) middle_on middle_common;
}

turned_near : (q : OnNet) → same_net q.net A ≡ false → apart (time_of q.packet) 1000000 ≤ 0 → IsIn q turned → ⊥
turned_near q net near (inl same) = cc (rw (← same) at net)
turned_near q net near (inr (inl same)) = cc (rw (← same) at net)
turned_near q net near (inr (inr (inl same))) = let close = rw (← same) at near in absurd (omega arith)
turned_near q net near (inr (inr (inr (inl same)))) = let close = rw (← same) at near in absurd (omega arith)
turned_near q net near (inr (inr (inr (inr none)))) = none

pub needs_the_time : NeedsTheTime
needs_the_time = record {
  later_order = (omega arith, (omega arith, (omega arith, tt)));
  later_nothing = nothing_later;
  later = record {
    premise = λ is. absurd (let up = is.earlier in omega arith);
    conclusion = λ is. none_near is.twin is.has.net is.near (contains_in is.twin begun_later is.has.member);
  };
  turned_nothing = nothing_turned;
  turned_common = record {
    before = packet B 0 (second_frame B);
    has_before = record { member = (2, omega arith, refl); net = refl };
    earlier = omega arith;
    after = packet B 2000000 (third_frame B);
    has_after = record { member = (3, omega arith, refl); net = refl };
    later = omega arith;
  };
  order = record {
    premise = λ is. absurd (let down = is.1.1.0 in omega arith);
    conclusion = λ is. turned_near is.twin is.has.net is.near (contains_in is.twin turned is.has.member);
  };
}
