-- The worked recordings, by computation.
use Rattle.afdx_laws.proofs.JudgeNames.{has_check, A, All, All-filter, All-from_recursion, All-tail, AllZip, B, Bool, Entry, Finding, List, Missing, Net, None, OnNet, Options, end_broken, addresses, admitted, after_packet, arith, check_sequence, checked, checksum, datagram, demo_plan, demo_valid, entry, fails_by, false, fields_of, found_at_end, found_missing, found_of_arrival, found_on_link, found_with_end, found_with_packet, fragment_deviation, frame_in, head_now, header_front, internet_broken, internet_header, layout_broken, left_waiting, length_deviation, line_after, line_with, link_after, link_broken, link_header, link_in, link_stream, list_all, map, message_deviation, more_in, nat_eq, nat_lt, nat_tests, needs_legal, one_frame, pair_at, pairing_with, place_of, refl, second_frame, slice_index, sub_in, sub_stream, suc, true, twin_deviation, twin_other, two_accepted, two_entries, udp_header, unchecked, unnumbered, verdict, with_arrival, with_byte, with_verdict, word_at, zero, ℕ, [], ◌*◌, ◌+◌, ◌<◌, ◌∷◌, ◌≡◌, ◌≤◌, AreFit, IsRecord, IsRecording, IsRunOf, IsSent, IsWhole, EndsWhole, IsOctets, IsReleased, IsSentTo, IsStrict, half_gap, packets_of, sent_to, FindsNoneOfAll, FindsNothing, MissesNothing, NeedsItsPremises, both_at, apart_by_100, behind, from, late, loose, packet, seconds_at, strict, with_check, with_skew}
use Rattle.afdx_laws.proofs.Begin.{no_false_alarm_holds}

pair_sent : IsSent demo_plan two_accepted (two_entries A) (two_entries B)
unfolding checksum addresses datagram header_front internet_header link_header udp_header unnumbered
pair_sent = record {
  valid = demo_valid;
  legal = needs_legal.each.first.legal;
  allowed = grind arith;
  turns = grind arith;
}

fit : (late fcs : Bool) (origin : ℕ) → AreFit demo_plan (record strict { late = late; fcs = fcs }) (from origin)
fit late fcs origin = grind (arith, nat_tests)

near_fit : AreFit demo_plan half_gap (from 0)
near_fit = grind (arith, nat_tests)

-- a packet is a record
recorded : (origin t at : ℕ) (options : Options) (net : Net) (frame : List ℕ) → options.fcs ≡ false → origin + 1000 * t ≤ at
    → at ≤ origin + 1000 * (t + options.jitter) → IsRecord origin options (entry t frame) (packet net at frame).packet
recorded origin t at options net frame plain least most =
    record { at = at; told = refl; least = least; most = most; whole = refl; bytes = rw plain refl }

-- the two frames of a network, recorded at these times
pair_zip : (origin now first second : ℕ) (options : Options) (net : Net) → options.fcs ≡ false
    → (origin ≤ first) × (first ≤ origin + 1000 * options.jitter) × (origin + 1000 * now ≤ second)
    × (second ≤ origin + 1000 * (now + options.jitter))
    → AllZip (IsRecord origin options) (pair_at now net)
    ((packet net first (one_frame net)).packet ∷ (packet net second (second_frame net)).packet ∷ [])
pair_zip origin now first second options net plain times = grind (arith, nat_tests, recorded, one_frame)

pair_run : (origin now first second : ℕ) (options : Options) (net : Net) → options.fcs ≡ false
    → (origin ≤ first) × (first ≤ origin + 1000 * options.jitter) × (origin + 1000 * now ≤ second)
    × (second ≤ origin + 1000 * (now + options.jitter))
    → IsRunOf origin options (pair_at now net) ((packet net first (one_frame net)).packet ∷ (packet net second (second_frame net)).packet ∷ [])
pair_run origin now first second options net plain times = record {
  before = [];
  recorded = pair_at now net;
  after = [];
  whole = refl;
  first = λ early. refl;
  each = pair_zip origin now first second options net plain times;
}

second_run : (net : Net) → IsRunOf 7 late (two_entries net) ((packet net 1000007 (second_frame net)).packet ∷ [])
second_run net = record {
  before = entry 0 (one_frame net) ∷ [];
  recorded = entry 1000 (second_frame net) ∷ [];
  after = [];
  whole = refl;
  first = λ early. absurd (cc (early));
  each = (recorded 7 1000 1000007 late net (second_frame net) refl (omega arith) (omega arith), tt);
}

whole : IsWhole demo_plan (from 7) strict (two_entries A) (two_entries B) (both_at 7 1000007)
unfolding checksum addresses datagram header_front internet_header link_header udp_header unnumbered
whole = grind (arith, nat_tests, pair_zip)

lag_whole : IsWhole demo_plan behind (with_skew 100) (two_entries A) (two_entries B) apart_by_100
unfolding checksum addresses datagram header_front internet_header link_header udp_header unnumbered
lag_whole = grind (arith, nat_tests, pair_zip)

loosely : IsRecording (from 0) loose (two_entries A) (two_entries B) (both_at 2000000 1000000)
loosely = grind (arith, nat_tests, pair_run)

all_bytes : (bytes : List ℕ) → list_all (λ byte. nat_lt byte 256) bytes ≡ true → (i : ℕ) → slice_index bytes i < 256
all_bytes [] all i = omega arith
all_bytes (byte ∷ bytes) all zero = grind (arith, nat_tests)
all_bytes (byte ∷ bytes) all (suc i) = all_bytes bytes (grind (arith, nat_tests)) i

octets : (net : Net) (at : ℕ) (frame : List ℕ) → list_all (λ byte. nat_lt byte 256) frame ≡ true → word_at frame 24 < 65535
    → IsOctets (packet net at frame).packet
octets net at frame bytes sum = record { octets = all_bytes frame bytes; sum = λ is. absurd (omega arith) }

none_more : (es : List Entry) → All (λ (e : Entry). more_in e.frame ≡ false) es → EndsWhole (map (λ (e : Entry). e.frame) es)
none_more [] none = tt
none_more (e ∷ []) none = none 0 e (omega arith)
none_more (e ∷ (d ∷ es)) none = none_more (d ∷ es) (All-tail (λ (e : Entry). more_in e.frame ≡ false) e (d ∷ es) none)

ends : (net : Net) → All (λ (e : Entry). more_in e.frame ≡ false) (sent_to net (both_at 7 1000007))
unfolding checksum addresses datagram header_front internet_header link_header udp_header unnumbered
ends net = grind (arith, nat_tests)

abbrev IsOf : OnNet → Type 0
IsOf p = IsOctets p.packet

abbrev pub IsBare : OnNet → Type 0
IsBare p = has_check strict p.packet ≡ false

abbrev IsShort : Entry → Type 0
IsShort e = more_in e.frame ≡ false

strict_is : IsStrict demo_plan strict (both_at 7 1000007)
unfolding checksum addresses datagram header_front internet_header link_header udp_header unnumbered
strict_is = record {
  valid = demo_valid;
  profile = refl;
  early = refl;
  fcs = All-from_recursion IsBare (both_at 7 1000007) (refl, (refl, (refl, (refl, tt))));
  few = omega arith;
  octets = All-from_recursion IsOf (both_at 7 1000007) (
    octets B 7 (one_frame B) refl (omega arith),
    (
      octets A 7 (one_frame A) refl (omega arith),
      (octets A 1000007 (second_frame A) refl (omega arith), (octets B 1000007 (second_frame B) refl (omega arith), tt)),
    ),
  );
  whole = λ net vl sub. none_more (sub_stream sub (link_stream vl (sent_to net (both_at 7 1000007))))
      (All-filter (λ (e : Entry). nat_eq (sub_in e.frame) sub) IsShort _ (All-filter (λ (e : Entry). nat_eq (link_in e.frame) vl) IsShort _ (ends net)));
}

-- the second frame isn't sent first
not_first : (handed : List Entry) → AllZip (IsReleased 0) handed (packets_of A (seconds_at 1000000)) → IsSentTo demo_plan A handed → ⊥
unfolding checksum addresses datagram header_front internet_header link_header udp_header unnumbered
not_first [] zip sent = absurd zip
not_first (e ∷ (d ∷ es)) zip sent = absurd zip.1
not_first (e ∷ []) zip sent = let first = rw zip.0.frame at (sent.legal.numbered 0 (omega arith)) in absurd (omega (arith, first.0))

some : Finding
some = record { kind = Missing; packet = 0; net = A; at = 0; link = None; seen = 0; wanted = 0 }

pub worked : FindsNothing × NeedsItsPremises × FindsNoneOfAll × MissesNothing
unfolding admitted after_packet found_of_arrival found_on_link found_with_end found_with_packet link_after
    with_arrival with_verdict fields_of fragment_deviation head_now length_deviation message_deviation
    end_broken internet_broken layout_broken link_broken line_after line_with verdict frame_in
    place_of checked unchecked check_sequence with_byte found_at_end found_missing left_waiting pairing_with
    twin_deviation twin_other checksum addresses datagram header_front internet_header link_header udp_header
    unnumbered
worked = (
  record {
    sent = pair_sent;
    fit = fit false false 7;
    recorded = record { of_a = pair_run 7 1000 7 1000007 strict A refl (grind arith); of_b = pair_run 7 1000 7 1000007 strict B refl (grind arith) };
    nothing = refl;
    late_fit = fit true false 7;
    late_recorded = record { of_a = second_run A; of_b = second_run B };
    late_nothing = refl;
    common_nothing = refl;
  },
  record {
    sent = fails_by (λ sent. no_false_alarm_holds demo_plan two_accepted _ _ strict (from 0) (both_at 0 999000) sent (fit false false 0) (record {
      of_a = pair_run 0 999 0 999000 strict A refl (grind arith);
      of_b = pair_run 0 999 0 999000 strict B refl (grind arith);
    })) (λ all. absurd (cc (all 0 some (omega arith))));
    early = fails_by (λ is. no_false_alarm_holds demo_plan two_accepted _ _ strict (from 0) (both_at 0 999999) pair_sent (fit false false 0) is)
        (λ all. absurd (cc (all 0 some (omega arith))));
    exchanged = loosely;
    exchanged_nothing = refl;
    jitter = fails_by (λ is. no_false_alarm_holds demo_plan two_accepted _ _ half_gap (from 0) (both_at 600000 1000000) pair_sent near_fit is)
        (λ all. absurd (cc (all 0 some (omega arith))));
    fcs = fails_by (λ is. no_false_alarm_holds demo_plan two_accepted _ _ with_check (from 0) (both_at 0 1000000) pair_sent (fit false true 0) is)
        (λ all. absurd (cc (all 0 some (omega arith))));
    first = fails_by (λ is. no_false_alarm_holds demo_plan two_accepted _ _ strict (from 0) (seconds_at 1000000) pair_sent (fit false false 0) is)
        (λ all. absurd (cc (all 0 some (omega arith))));
  },
  record {
    whole = whole;
    lag_whole = lag_whole;
    lag_near = omega arith;
    lag_nothing = refl;
    lag = record { premise = λ up. absurd (omega arith); conclusion = λ none. absurd (cc (none)) };
    order = record {
      premise = λ is. absurd (let down = is.in_order.1.1.1.0 in omega arith);
      conclusion = λ none. absurd (cc (none));
    };
    skew = record { premise = λ up. absurd (omega arith); conclusion = λ none. absurd (cc (none)) };
  },
  record {
    strict_is = strict_is;
    near_nothing = refl;
    near = λ is. absurd (let apart = (is.legal.spaced 0 (omega arith)).1.0 in omega arith);
    late_nothing = refl;
    late_missed = record {
      premise = λ is. absurd (cc (is.early));
      conclusion = λ is. not_first is.handed is.released is.sent;
    };
  },
)
