-- The worked runs of the law of a message whose sub-VL's ports keep periods, by computation.
use Rattle.afdx_laws.proofs.RunNames.{is_with, All-cons, All-nil, AreDue, KeepPeriod, IsGoodPeriod, IfSome, Some, None, Sender, Arrival, filter, is_from, times_in, ◌<◌, ◌+◌, Drains, short_frame, entry, ◌≤◌, AreFindingAll, accepted_by, accepted_at, sender_of, short_port, three_senders, third_arrival, MeetsWithJitter, SecondReleased, late_senders, both_line, ℕ, zero, suc, ◌≡◌, ◌≢◌, ◌∙◌, sym, List, [], ◌∷◌, ◌++◌, length, refl, ap, arith, inl, inr, A, blanked, cutting, fragments_at, addresses, header_front, internet_header, link_header, udp_header, datagram, unnumbered, log, IsPrefixOf, PortPlan, Passes, Released, below_one, cons_parts, held_at, stream_at, FindsIt, fragments_of, seen_of, port_plan_at, AreSendersOf, AreMates, IsLoneWait, IsWaitInGroup, link_plan_at, ◌*◌, ◌/◌, ReceiverView, after_take, GivesFrame, IsSameSub, gave_same, moves_of, same_sub_here, same_sub_on, AreReleasedBy, AreApart, KeepPeriods, NeedsTraffic, TakesItsWait, byte_arrivals, byte_sender, byte_senders, other_sent, other_senders, byte_line, byte_plan, bytes_accepted, no_line, other_frame, short_sent, tight_link, fresh, three_plan, line_after}
use Rattle.afdx_plan.specs.Demo.{demo_port}
use Rattle.afdx_frame.specs.Checksum.{checksum}
use Rattle.afdx_laws.proofs.EmitterRuns.{finding, polls_by, waits_its_turn}
use Rattle.afdx_laws.proofs.NeededRuns.{begins, held, in_time, misses_late, misses_second, needs_its_premises, one_is, other_bytes, sends}
use Rattle.afdx_laws.proofs.WorkedRuns.{not_released, releases}
use Rattle.afdx_laws.proofs.TrafficRun.{are_none, traffic_in_run_holds}
use Rattle.afdx_laws.proofs.Ran.{seen_append}

-- one fragment each 9,000 microseconds, with a round of 9,000
three_wait : IsWaitInGroup 9000 (record { fragments = 1; period = 9000; jitter = 0 } ∷ []) [] 9000
three_wait = record {
  busy = 9000;
  is_busy = record { some = omega arith; is = refl; least = λ t some is. grind arith };
  soon = omega arith;
  met = (0, omega arith, record { some = omega arith; end = 9000; enough = omega arith; least = λ t enough. grind arith; is = refl });
  most = λ t le. (9000 * (1 + (t + 0) / 9000), grind arith, grind arith);
  short = omega arith;
}

abbrev first : Sender
first = record { port = demo_port; period = None; jitter = 0 }

abbrev last : Sender
last = record { port = short_port 2; period = None; jitter = 0 }

third_keep : KeepPeriods three_senders 3000 third_arrival
third_keep =
    let own : KeepPeriod 9000 0 (3000 ∷ []) = record { dues = 3000 ∷ []; due = grind arith; apart = grind arith } in
    record {
      ordered = grind arith;
      periods = All-cons Keeps first (sender_of 9000 ∷ last ∷ []) tt (All-cons Keeps (sender_of 9000) (last ∷ []) own
          (All-cons Keeps last [] tt (All-nil Keeps)));
    }
  where
    Keeps : Sender → Type 0
    Keeps s = IfSome s.period (λ p. KeepPeriod p s.jitter (times_in (filter (is_from s.port) third_arrival)))

seen_is : seen_of 1 (stream_at three_plan 0 (line_after 2)) ≡ fragments_of three_plan 0 (short_sent 1 ∷ [])
unfolding log checksum addresses header_front internet_header link_header udp_header datagram unnumbered cutting fragments_at
seen_is = refl

pub takes_its_wait : TakesItsWait
unfolding is_with cutting fragments_at
takes_its_wait = record {
  senders = record { ports = refl; periods = grind arith };
  wait = (refl, (are_none three_plan (link_plan_at three_plan.links 0) 1 three_senders, three_wait));
  run = waits_its_turn;
  quiet = seen_is;
  keep = third_keep;
  finding = finding;
}

-- one fragment each 1,000 microseconds, with a round of 1,000
pub byte_wait : IsWaitInGroup 1000 (record { fragments = 1; period = 1000; jitter = 0 } ∷ []) [] 1000
byte_wait = record {
  busy = 1000;
  is_busy = record { some = omega arith; is = refl; least = λ t some is. grind arith };
  soon = omega arith;
  met = (0, omega arith, record { some = omega arith; end = 1000; enough = omega arith; least = λ t enough. grind arith; is = refl });
  most = λ t le. (1000 * (1 + (t + 0) / 1000), grind arith, grind arith);
  short = omega arith;
}

pub byte_none : (senders : List Sender) → AreMates byte_plan (link_plan_at byte_plan.links 0) 0 senders 0
byte_none senders = are_none byte_plan (link_plan_at byte_plan.links 0) 0 senders

wait_is : IsLoneWait 0 byte_plan byte_senders 0 0 1000
unfolding is_with
wait_is = (refl, (byte_none byte_senders, byte_wait))

longer : IsLoneWait 0 byte_plan byte_senders 0 0 999 → ⊥
unfolding is_with
longer of =
    let least = of.1.1.most 0 (omega arith) in
    let enough = least.1 in
    let soon = least.2 in
    absurd (grind arith)

ours : AreSendersOf byte_plan byte_senders
ours = grind arith

foreign_is : AreSendersOf byte_plan other_senders → ⊥
foreign_is of =
    let id_of : List PortPlan → ℕ = λ ports. (port_plan_at ports 0).id.0 in
    let same : ◌≡◌ {A = ℕ} 11 10 = ap id_of of.ports in
    absurd (omega arith)

foreign_wait : IsLoneWait 0 byte_plan other_senders 0 0 1000
unfolding is_with
foreign_wait = (refl, (byte_none other_senders, byte_wait))

-- one port keeps its period
pub keeps_one : (sender : Sender) (start period : ℕ) (arrivals : List Arrival) → sender.period ≡ Some period
    → AreApart 0 (start ∷ times_in arrivals) → KeepPeriod period sender.jitter (times_in (filter (is_from sender.port) arrivals))
    → KeepPeriods (sender ∷ []) start arrivals
keeps_one sender start period arrivals is ordered keep = record {
  ordered = ordered;
  periods = All-cons (λ (s : Sender). IfSome s.period (λ p. KeepPeriod p s.jitter (times_in (filter (is_from s.port) arrivals)))) sender []
      (rw is keep) (All-nil _);
}

-- two messages of a port are no nearer than its period less its jitter
pub near_fails : (period jitter first second : ℕ) → second + jitter < first + period → KeepPeriod period jitter (first ∷ second ∷ []) → ⊥
near_fails period jitter first second near keep = by_dues keep.dues keep.due keep.apart
  where
    by_dues : (dues : List ℕ) → AreDue jitter (first ∷ second ∷ []) dues → AreApart period dues → ⊥
    by_dues [] due apart = due
    by_dues (d ∷ []) due apart = due.2
    by_dues (d ∷ e ∷ dues) due apart =
        let far = apart.0 0 e (omega arith) in
        let one = due.0 in
        let rest = due.2 in
        let two = rest.1 in
        absurd (omega arith)

foreign_keep : KeepPeriods other_senders 0 (byte_arrivals (0 ∷ 0 ∷ []))
foreign_keep = keeps_one _ 0 1000 (byte_arrivals (0 ∷ 0 ∷ [])) refl (grind arith) (record { dues = []; due = tt; apart = tt })

at_once : KeepPeriods byte_senders 0 (byte_arrivals (0 ∷ 0 ∷ [])) → ⊥
at_once keeps = near_fails 1000 0 0 0 (omega arith) (keeps.periods 0 byte_sender (omega arith))

before_start : KeepPeriods byte_senders 1000 (byte_arrivals (0 ∷ 1000 ∷ [])) → ⊥
before_start keeps = let far = keeps.ordered.0 0 0 (omega arith) in absurd (omega arith)

-- a message at the start
alone : KeepPeriods byte_senders 0 (byte_arrivals (0 ∷ []))
alone = keeps_one _ 0 1000 (byte_arrivals (0 ∷ [])) refl (grind arith) (record { dues = 0 ∷ []; due = grind arith; apart = grind arith })

-- what was sent when the next message was accepted
sent_one : seen_of 0 (stream_at byte_plan 0 (byte_line 5000)) ≡ fragments_of byte_plan 0 (short_sent 0 ∷ [])
unfolding log checksum addresses header_front internet_header link_header udp_header datagram unnumbered cutting fragments_at
sent_one = refl

owes_one : [] ≡ fragments_of byte_plan 0 (short_sent 0 ∷ []) → ⊥
unfolding cutting fragments_at
owes_one is = absurd (omega (arith, ap length is))

-- a poll of an emitter that takes another message, and transmits it
sends_other : FindsIt byte_plan 0 0 1 1000 no_line other_sent
unfolding log checksum addresses header_front internet_header link_header udp_header datagram unnumbered cutting fragments_at
sends_other = record {
  poll = polls_by 1000 byte_plan tight_link (held fresh ∷ []) (held taken ∷ []) no_line other_sent (Released 0 0)
      (grind arith) (grind arith) refl same (below_one _ refl) (
        refl,
        refl,
        record {
          frame = other_frame A;
          choice = record {
            turn = 0;
            within = omega arith;
            is = refl;
            chosen = given;
            before = λ k lt. absurd (omega arith);
            others = λ s other. others s (λ is. other 0 (omega arith) (sym is));
          };
          of = grind arith;
          enters = refl;
          stands = refl;
          stays_down = grind arith;
        },
      );
  finds = λ passes. absurd (not_passes passes);
}
  where
    taken : ReceiverView
    taken = after_take fresh (0, 2 ∷ [])

    given : GivesFrame (held fresh) (other_frame A) (held taken)
    given = record {
      mid = record (held taken) { left = blanked (other_frame A) ∷ [] };
      asked = grind arith;
      gives = grind arith;
    }

    others : (s : ℕ) → s ≢ 0 → held_at (held taken ∷ []) s ≡ held_at (held fresh ∷ []) s
    others zero not = absurd (not refl)
    others (suc s) not = refl

    same : (s : ℕ) → IsSameSub (held_at (held fresh ∷ []) s) (held_at (held taken ∷ []) s)
    same zero = same_sub_on _ given.mid _ (moves_of _ given.mid (inr (inl given.asked))) (gave_same (other_frame A) given.mid _ given.gives)
    same (suc s) = same_sub_here _ _ refl

    not_passes : Passes (held fresh) (held taken) → ⊥
    not_passes p = grind arith

misses_other : AreReleasedBy byte_plan 0 0 (short_sent 0 ∷ []) (stream_at byte_plan 0 no_line) (stream_at byte_plan 0 other_sent) 1000 → ⊥
unfolding log checksum addresses header_front internet_header link_header udp_header datagram unnumbered cutting fragments_at
misses_other r =
    let whole : seen_of 0 (stream_at byte_plan 0 other_sent) ≡ seen_of 0 r.soon ++ seen_of 0 r.more = ap (seen_of 0) r.is ∙ seen_append 0 r.soon r.more in
    let both : blanked (other_frame A) ∷ [] ≡ (fragments_of byte_plan 0 (short_sent 0 ∷ []) ++ r.whole.0) ++ seen_of 0 r.more =
    whole ∙ ap (λ (seen : List (List ℕ)). seen ++ seen_of 0 r.more) (sym r.whole.1) in
    other_bytes (cons_parts both).0

begins_other : IsPrefixOf (seen_of 0 (stream_at byte_plan 0 other_sent)) (fragments_of byte_plan 0 (bytes_accepted 1 0 0)) → ⊥
unfolding log checksum addresses header_front internet_header link_header udp_header datagram unnumbered cutting fragments_at
begins_other is = other_bytes (cons_parts is.1).0

-- With a jitter of a microsecond less than the period, or of two.

late_wait : IsWaitInGroup 1000 (record { fragments = 1; period = 2000; jitter = 1999 } ∷ []) [] 1999
late_wait = record {
  busy = 2000;
  is_busy = record { some = omega arith; is = refl; least = λ t some is. grind arith };
  soon = omega arith;
  met = (1, omega arith, record { some = omega arith; end = 2000; enough = omega arith; least = λ t enough. grind arith; is = refl });
  most = λ t le. (1000 * (1 + (t + 1999) / 2000), grind arith, grind arith);
  short = omega arith;
}

later_wait : IsWaitInGroup 1000 (record { fragments = 1; period = 2000; jitter = 1998 } ∷ []) [] 1998
later_wait = record {
  busy = 2000;
  is_busy = record { some = omega arith; is = refl; least = λ t some is. grind arith };
  soon = omega arith;
  met = (2, omega arith, record { some = omega arith; end = 2000; enough = omega arith; least = λ t enough. grind arith; is = refl });
  most = λ t le. (1000 * (1 + (t + 1998) / 2000), grind arith, grind arith);
  short = omega arith;
}

late_are : (jitter : ℕ) → jitter ≤ 2000 → AreSendersOf byte_plan (late_senders jitter)
late_are jitter le = record {
  ports = refl;
  periods = All-cons IsGoodPeriod _ [] (omega arith, le) (All-nil _);
}

late_keep : KeepPeriods (late_senders 1999) 0 (byte_arrivals (0 ∷ 1 ∷ []))
late_keep = keeps_one _ 0 2000 (byte_arrivals (0 ∷ 1 ∷ [])) refl (grind arith)
    (record { dues = 0 ∷ 2000 ∷ []; due = grind arith; apart = grind arith })

too_near : KeepPeriods (late_senders 1998) 0 (byte_arrivals (0 ∷ 1 ∷ [])) → ⊥
too_near keeps = near_fails 2000 1998 0 1 (omega arith) (keeps.periods 0 byte_sender (omega arith))

-- two polls transmit a message each
sends_first : Drains 1000 1 tight_link (bytes_accepted 2 0) no_line (byte_line 1000) (Released 0 0)
unfolding log checksum addresses header_front internet_header link_header udp_header datagram unnumbered cutting fragments_at
sends_first = releases 1000 0 tight_link (bytes_accepted 2 0) no_line (byte_line 1000) (short_frame 0 0 0 A) refl refl (omega arith) refl
    (grind arith)
    refl refl refl refl refl refl refl (grind arith)

sends_again : Drains 2000 1 tight_link (bytes_accepted 2 0) (byte_line 1000) both_line (Released 0 1)
unfolding log checksum addresses header_front internet_header link_header udp_header datagram unnumbered cutting fragments_at
sends_again = releases 2000 1 tight_link (bytes_accepted 2 0) (byte_line 1000) both_line (short_frame 0 1 1 A) refl refl (omega arith) refl
    (record { left = blanked (short_frame 0 1 1 A) ∷ []; some = λ e. cc; ahead = refl })
    refl refl refl refl refl refl refl (grind arith)

late_finding : AreFindingAll byte_plan (bytes_accepted 2) 0 0 (accepted_by byte_plan 0 [] (byte_arrivals (0 ∷ 1 ∷ [])))
    (1000 ∷ 2000 ∷ []) no_line both_line
late_finding = (
  byte_line 1000,
  inr (byte_line 1000, Released 0 0, sends_first, refl),
  (both_line, inr (both_line, Released 0 1, sends_again, refl), refl),
)

late_begins : IsPrefixOf (seen_of 0 (stream_at byte_plan 0 both_line)) (fragments_of byte_plan 0 (bytes_accepted 2 0 0))
unfolding log checksum addresses header_front internet_header link_header udp_header datagram unnumbered cutting fragments_at
late_begins = ([], refl)

late_sooner : SecondReleased 1999 → ⊥
unfolding log checksum addresses header_front internet_header link_header udp_header datagram unnumbered cutting fragments_at
late_sooner = not_released byte_plan 0 0 1999 (short_sent 0 ∷ short_sent 0 ∷ []) [] (entry 1000 (short_frame 0 0 0 A) ∷ [])
    (entry 2000 (short_frame 0 1 1 A) ∷ []) (stream_at byte_plan 0 both_line) refl (grind arith) (omega arith)

pub meets_with_jitter : MeetsWithJitter
unfolding is_with log cutting fragments_at
meets_with_jitter = record {
  senders = late_are 1999 (omega arith);
  wait = (refl, (byte_none (late_senders 1999), late_wait));
  accepted = needs_its_premises.crowded.accepted;
  starts = tt;
  quiet = refl;
  keep = late_keep;
  finding = late_finding;
  begins = late_begins;
  is_up = refl;
  timely = grind arith;
  released = traffic_in_run_holds byte_plan (late_senders 1999) (bytes_accepted 2) (1000 ∷ 2000 ∷ []) no_line both_line 0 0 0 0 1999 []
      (byte_arrivals (0 ∷ [])) (accepted_at 1 (short_sent 0)) [] needs_its_premises.valid (late_are 1999 (omega arith)) (refl, (byte_none (late_senders 1999), late_wait))
      needs_its_premises.crowded.accepted tt refl late_keep late_finding late_begins refl (grind arith);
  sooner = late_sooner;
}

pub needs_traffic : NeedsTraffic
unfolding is_with log fragments_at cutting
needs_traffic =
    let rows = needs_its_premises in
    record {
      foreign = grind (arith, foreign_is, foreign_wait, foreign_keep, in_time, rows.crowded);
      short = grind (arith, ours, longer, one_is, alone, sends 1000 0, begins 1000 0, misses_late 1000 999 (omega arith));
      unaccepted = grind (arith, ours, wait_is, alone, in_time, rows.unaccepted);
      early = grind (arith, ours, wait_is, sent_one, alone, in_time, rows.early);
      owing = grind (arith, ours, wait_is, owes_one, alone, in_time, rows.crowded);
      unkept = grind (arith, ours, wait_is, at_once, in_time, rows.crowded);
      hasty = record {
        senders_are = late_are 1998 (omega arith);
        wait_is = (refl, (byte_none (late_senders 1998), later_wait));
        accepted = rows.crowded.accepted;
        starts = tt;
        quiet = refl;
        keep = too_near;
        finding = (byte_line 1000, inr (byte_line 1000, Released 0 0, sends_first, refl), refl);
        begins = begins 1000 1;
        is_up = refl;
        timely = grind arith;
        missed = misses_second 1000 1999;
      };
      sooner = grind (arith, ours, wait_is, before_start, sends 2000 1, begins 2000 1, misses_second 2000 2000, rows.crowded);
      poll = rows.poll;
      unfound = grind (arith, ours, wait_is, alone, in_time, rows.unfound);
      unlike = grind (arith, ours, wait_is, one_is, alone, in_time, sends_other, begins_other, misses_other);
      down = grind (arith, ours, wait_is, alone, in_time, rows.down);
      late = grind (arith, ours, wait_is, alone, rows.late);
    }
