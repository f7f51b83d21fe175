-- The worked runs of the law of a message in a group, by computation.
use Rattle.afdx_laws.proofs.RunNames.{is_with, A, All-cons, All-nil, AreMates, ArePolls, Arrival, Drains, HasTraffic, IfSome, IsGroupPoll, IsGroupRun, IsPlan, IsPrefixOf, IsWaitInGroup, Served, subst, sym, KeepPeriod, KeepPeriods, Lines, List, NeedsItsMates, PairReleased, Released, Sender, Some, TakesItsGroupWait, accepted_at, accepted_by, apart_arrivals, addresses, arith, blanked, cases_lt, crossed_line, cutting, datagram, entry, filter, fragments_at, fragments_of, has_sub, header_front, inl, inr, internet_header, is_from, is_in, length, lines_by, link_header, log, no_line, pair_accepted, pair_arrivals, pair_line, pair_link, pair_plan, pair_senders, refl, seen_of, short_frame, short_port, short_sent, stream_at, suc, times_in, true, udp_header, unnumbered, zero, ℕ, ◌*◌, ◌+◌, ◌/◌, ◌<◌, ◌≡◌, ◌≤◌, [], ◌∷◌}
use Rattle.afdx_frame.specs.Checksum.{checksum}
use Rattle.afdx_laws.proofs.TrafficRows.{near_fails}
use Rattle.afdx_laws.proofs.TrafficRun.{group_in_run_holds}
use Rattle.afdx_laws.proofs.WorkedRuns.{not_released, releases_of}

-- the polls: the same two first frames in both runs
abbrev one_line : Lines
one_line = lines_by ((1000, short_frame 0 0 0) ∷ [])

abbrev two_lines : Lines
two_lines = lines_by ((1000, short_frame 0 0 0) ∷ (2000, short_frame 1 0 1) ∷ [])

sends_first : (more : ℕ) → Drains 1000 1 pair_link (pair_accepted (suc more) 0) no_line one_line (Released 0 0)
unfolding log checksum addresses header_front internet_header link_header udp_header datagram unnumbered cutting fragments_at
sends_first more = releases_of 1000 0 0 0 pair_link (pair_accepted (suc more) 0) no_line one_line (short_frame 0 0 0 A) refl refl (omega arith) refl
    (λ k lt. absurd (omega arith)) (grind arith) refl refl refl refl refl refl refl (grind arith)

sends_second : (more : ℕ) → Drains 2000 1 pair_link (pair_accepted (suc more) 0) one_line two_lines (Released 1 1)
unfolding log checksum addresses header_front internet_header link_header udp_header datagram unnumbered cutting fragments_at
sends_second more = releases_of 2000 1 1 0 pair_link (pair_accepted (suc more) 0) one_line two_lines (short_frame 1 0 1 A) refl refl (omega arith) refl
    (λ k lt. absurd (omega arith)) (record { left = blanked (short_frame 1 0 0 A) ∷ blanked (short_frame 1 1 0 A) ∷ []; some = λ e. cc; ahead = refl })
    refl refl refl refl refl refl refl (grind arith)

sends_third : Drains 3000 1 pair_link (pair_accepted 1 0) two_lines pair_line (Released 1 2)
unfolding log checksum addresses header_front internet_header link_header udp_header datagram unnumbered cutting fragments_at
sends_third = releases_of 3000 2 1 1 pair_link (pair_accepted 1 0) two_lines pair_line (short_frame 1 1 2 A) refl refl (omega arith) refl
    (λ k lt. grind arith) (record { left = blanked (short_frame 1 1 0 A) ∷ []; some = λ e. cc; ahead = refl })
    refl refl refl refl refl refl refl (grind arith)

crosses : Drains 3000 1 pair_link (pair_accepted 2 0) two_lines crossed_line (Released 0 2)
unfolding log checksum addresses header_front internet_header link_header udp_header datagram unnumbered cutting fragments_at
crosses = releases_of 3000 2 0 0 pair_link (pair_accepted 2 0) two_lines crossed_line (short_frame 0 1 2 A) refl refl (omega arith) refl
    (λ k lt. absurd (omega arith)) (record { left = blanked (short_frame 0 1 0 A) ∷ []; some = λ e. cc; ahead = refl })
    refl refl refl refl refl refl refl (grind arith)

only_zero : (s : ℕ) → s < 2 → has_sub 1 s ≡ true → s ≡ 0
only_zero zero lt is = refl
only_zero (suc zero) lt is = grind arith
only_zero (suc (suc s)) lt is = absurd (omega arith)

-- a poll of the drain that has sent no more of sub-VL 0 than it had accepted
a_poll : (many now : ℕ) (lines after : Lines) (did : Served) → Drains now 1 pair_link (pair_accepted many 0) lines after did
    → length (seen_of 0 (stream_at pair_plan 0 after)) ≤ accepted_by pair_plan 0 [] (pair_arrivals many 0) (now + 1)
    → IsGroupPoll pair_plan (pair_accepted many) 0 (is_in 1 1) (has_sub 1) (λ t. accepted_by pair_plan 0 [] (pair_arrivals many t)) now lines after
a_poll many now lines after did turn few = record {
  poll = inr (after, did, turn, refl);
  sooner = λ s lt its. subst (λ (t : ℕ). length (seen_of t (stream_at pair_plan 0 after)) ≤ accepted_by pair_plan 0 [] (pair_arrivals many t) (now + 1))
      (sym (only_zero s lt its)) few;
}

pair_polls : ArePolls (IsGroupPoll pair_plan (pair_accepted 1) 0 (is_in 1 1) (has_sub 1) (λ t. accepted_by pair_plan 0 [] (pair_arrivals 1 t)))
    (1000 ∷ 2000 ∷ 3000 ∷ []) no_line pair_line
unfolding log checksum addresses header_front internet_header link_header udp_header datagram unnumbered cutting fragments_at
pair_polls = (
  one_line,
  a_poll 1 1000 no_line one_line (Released 0 0) (sends_first 0) (omega arith),
  (
    two_lines,
    a_poll 1 2000 one_line two_lines (Released 1 1) (sends_second 0) (omega arith),
    (pair_line, a_poll 1 3000 two_lines pair_line (Released 1 2) sends_third (omega arith), refl),
  ),
)

crossed_polls : ArePolls (IsGroupPoll pair_plan (pair_accepted 2) 0 (is_in 1 1) (has_sub 1) (λ t. accepted_by pair_plan 0 [] (pair_arrivals 2 t)))
    (1000 ∷ 2000 ∷ 3000 ∷ []) no_line crossed_line
unfolding log checksum addresses header_front internet_header link_header udp_header datagram unnumbered cutting fragments_at
crossed_polls = (
  one_line,
  a_poll 2 1000 no_line one_line (Released 0 0) (sends_first 1) (omega arith),
  (
    two_lines,
    a_poll 2 2000 one_line two_lines (Released 1 1) (sends_second 1) (omega arith),
    (crossed_line, a_poll 2 3000 two_lines crossed_line (Released 0 2) crosses (omega arith), refl),
  ),
)

abbrev Keeps : List Arrival → Sender → Type 0
Keeps arrivals s = IfSome s.period (λ p. KeepPeriod p s.jitter (times_in (filter (is_from s.port) arrivals)))

abbrev zero_sender : Sender
zero_sender = record { port = short_port 0; period = Some 4000; jitter = 0 }

abbrev own_sender : Sender
own_sender = record { port = short_port 1; period = Some 4000; jitter = 3999 }

none_of : (period jitter : ℕ) → KeepPeriod period jitter []
none_of period jitter = record { dues = []; due = tt; apart = tt }

zero_keeps : KeepPeriods pair_senders 0 (pair_arrivals 1 0)
zero_keeps = record {
  ordered = grind arith;
  periods = All-cons (Keeps (pair_arrivals 1 0)) zero_sender (own_sender ∷ []) (record { dues = 0 ∷ []; due = grind arith; apart = grind arith })
      (All-cons (Keeps (pair_arrivals 1 0)) own_sender [] (none_of 4000 3999) (All-nil _));
}

apart_keeps : KeepPeriods pair_senders 0 (apart_arrivals 0)
apart_keeps = record {
  ordered = grind arith;
  periods = All-cons (Keeps (apart_arrivals 0)) zero_sender (own_sender ∷ []) (record { dues = 0 ∷ 4000 ∷ []; due = grind arith; apart = grind arith })
      (All-cons (Keeps (apart_arrivals 0)) own_sender [] (none_of 4000 3999) (All-nil _));
}

own_keeps : (many : ℕ) → KeepPeriods pair_senders 0 (pair_arrivals many 1)
own_keeps many = record {
  ordered = grind arith;
  periods = All-cons (Keeps (pair_arrivals many 1)) zero_sender (own_sender ∷ []) (none_of 4000 0)
      (All-cons (Keeps (pair_arrivals many 1)) own_sender [] (record { dues = 0 ∷ 4000 ∷ []; due = grind arith; apart = grind arith }) (All-nil _));
}

pair_run : IsGroupRun pair_plan pair_senders (pair_accepted 1) 0 1 1 0 (λ t. []) (pair_arrivals 1) (λ t. []) (1000 ∷ 2000 ∷ 3000 ∷ []) no_line pair_line
unfolding log cutting fragments_at
pair_run = record {
  link = omega arith;
  sub = omega arith;
  allowed = grind arith;
  starts = tt;
  each = by_sub;
  polls = pair_polls;
  is_up = refl;
}
  where
    by_sub : (t : ℕ) → t < 2 → is_in 1 1 t ≡ true
        → HasTraffic pair_plan pair_senders (pair_accepted 1) 0 t 0 [] (pair_arrivals 1 t) [] (stream_at pair_plan 0 no_line)
    by_sub zero lt its = record { are = refl; quiet = refl; keeps = zero_keeps }
    by_sub (suc zero) lt its = record { are = refl; quiet = refl; keeps = own_keeps 1 }
    by_sub (suc (suc t)) lt its = absurd (omega arith)

abbrev own_waits : ℕ → ℕ → Type 0
own_waits round wait = IsWaitInGroup round (record { fragments = 1; period = 4000; jitter = 3999 } ∷ [])
    (record { fragments = 1; period = 4000; jitter = 0 } ∷ []) wait

pair_wait : own_waits 1000 2999
pair_wait = record {
  busy = 3000;
  is_busy = record { some = omega arith; is = refl; least = λ t some is. grind arith };
  soon = omega arith;
  met = (1, omega arith, record { some = omega arith; end = 3000; enough = omega arith; least = λ t enough. grind arith; is = refl });
  most = λ t le. elim (cases_lt 0 t) [
    | inl past ↦ (3000, grind arith, omega arith)
    | inr here ↦ (2000, grind arith, omega arith)
  ];
  short = omega arith;
}

lone_wait : IsWaitInGroup 2000 (record { fragments = 1; period = 4000; jitter = 3999 } ∷ []) [] 3999
lone_wait = record {
  busy = 4000;
  is_busy = record { some = omega arith; is = refl; least = λ t some is. grind arith };
  soon = omega arith;
  met = (1, omega arith, record { some = omega arith; end = 4000; enough = omega arith; least = λ t enough. grind arith; is = refl });
  most = λ t le. (2000 * (1 + (t + 3999) / 4000), grind arith, grind arith);
  short = omega arith;
}

are_pair : (mates : ℕ) → mates < 2 → AreMates pair_plan pair_link 1 pair_senders mates
unfolding is_with
are_pair zero lt = record { few = omega arith; are = refl; periods = refl }
are_pair (suc zero) lt = record { few = omega arith; are = refl; periods = refl }
are_pair (suc (suc mates)) lt = absurd (omega arith)

pair_begins : IsPrefixOf (seen_of 1 (stream_at pair_plan 0 pair_line)) (fragments_of pair_plan 0 (pair_accepted 1 0 1))
unfolding log checksum addresses header_front internet_header link_header udp_header datagram unnumbered cutting fragments_at
pair_begins = ([], refl)

pair_valid : IsPlan pair_plan
pair_valid = grind arith

pair_sooner : PairReleased pair_line 2999 → ⊥
unfolding log checksum addresses header_front internet_header link_header udp_header datagram unnumbered cutting fragments_at
pair_sooner = not_released pair_plan 0 1 2999 (short_sent 1 ∷ short_sent 1 ∷ []) [] (entry 1000 (short_frame 0 0 0 A) ∷ entry 2000 (short_frame 1 0 1 A) ∷ [])
    (entry 3000 (short_frame 1 1 2 A) ∷ []) (stream_at pair_plan 0 pair_line) refl (grind arith) (omega arith)

pub takes_its_group_wait : TakesItsGroupWait
unfolding is_with
takes_its_group_wait = record {
  valid = pair_valid;
  senders = grind arith;
  periods = refl;
  wait = (are_pair 1 (omega arith), pair_wait);
  alone = (are_pair 0 (omega arith), lone_wait);
  run = pair_run;
  begins = pair_begins;
  timely = grind arith;
  released = group_in_run_holds pair_plan pair_senders (pair_accepted 1) (1000 ∷ 2000 ∷ 3000 ∷ []) no_line pair_line 0 1 1 0 0 2999 (λ t. []) (pair_arrivals 1)
      (λ t. []) (accepted_at 0 (short_sent 1) ∷ []) (accepted_at 1 (short_sent 1)) [] pair_valid (grind arith) refl (are_pair 1 (omega arith), pair_wait) pair_run
      refl pair_begins (grind arith);
  sooner = pair_sooner;
}

sent_early : ArePolls (IsGroupPoll pair_plan (pair_accepted 2) 0 (is_in 1 1) (has_sub 1) (λ t. accepted_by pair_plan 0 [] (apart_arrivals t)))
    (1000 ∷ 2000 ∷ 3000 ∷ []) no_line crossed_line → ⊥
unfolding log checksum addresses header_front internet_header link_header udp_header datagram unnumbered cutting fragments_at
sent_early polls =
    let last = polls.2.2 in
    let few = last.1.sooner 0 (omega arith) refl in
    let all : length (seen_of 0 (stream_at pair_plan 0 crossed_line)) ≤ 1 =
    subst (λ (lines : Lines). length (seen_of 0 (stream_at pair_plan 0 lines)) ≤ 1) (sym last.2) few in
    absurd (omega arith)

pub needs_its_mates : NeedsItsMates
unfolding log checksum addresses header_front internet_header link_header udp_header datagram unnumbered cutting fragments_at
needs_its_mates = record {
  are = refl;
  unkept = λ keeps. near_fails 4000 0 0 0 (omega arith) (keeps.periods 0 zero_sender (omega arith));
  keeps = own_keeps 2;
  polls = crossed_polls;
  begins = (blanked (short_frame 1 1 0 A) ∷ [], refl);
  missed = not_released pair_plan 0 1 3000 (short_sent 1 ∷ short_sent 1 ∷ []) [] (entry 1000 (short_frame 0 0 0 A) ∷ entry 2000 (short_frame 1 0 1 A)
      ∷ entry 3000 (short_frame 0 1 2 A) ∷ []) [] (stream_at pair_plan 0 crossed_line) refl (grind arith) (omega arith);
  apart = apart_keeps;
  early = sent_early;
}
