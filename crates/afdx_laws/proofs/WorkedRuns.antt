-- The worked runs, by computation.
use Rattle.afdx_laws.proofs.RunNames.{◌≡◌, ℕ, ◌+◌, ◌<◌, ◌≤◌, ◌⊎◌, List, [], ◌∷◌, ◌++◌, length, true, refl, ap, sym, ◌∙◌, arith, inl, inr, Some, false≢true, length-append, A, cutting, fragments_at, blanked, Sent, addresses, header_front, internet_header, link_header, udp_header, datagram, unnumbered, Entry, entry, Lines, BothEndure, log, any_up, LinkPlan, may_release, is_due, turn_of, Served, Nothing, Released, Lost, Drains, pace_in, stream_at, next_wait, EmitterPolls, DrainPolls, AreRuns, ComesBy, cons_parts, slice_index, link_in, sub_in, number_in, interface_byte, None, All, All-head, All-tail, IsPlan, IsLater, latest, IsPrefixOf, IsAccepted, HasPlace, AreFinding, fragments_of, seen_of, IsReleased, Owes, logged_for, back_frame, stray_frame, stray_line, both_at, lost_line, NeedsARun, small_link, small_plan, message_accepted, front_line, both_lines, front_entry, ComesInRun, tight_link, tight_plan, tight_sent, tight_accepted, tight_frame, tight_line, TightReleased, MeetsTheWait, append_cancel_left, Plan, link_plan_at, AreReleasedBy}
use Rattle.afdx_frame.specs.Checksum.{checksum}
use Rattle.afdx_laws.proofs.Ran.{seen_both}
use Rattle.afdx_laws.proofs.NextRun.{next_in_run_holds}
use Rattle.afdx_laws.proofs.MessageRun.{message_in_run_holds}

-- a turn that releases the next frame of a sub-VL, on both networks
pub releases_of : (now number sub turn : ℕ) (link : LinkPlan) (accepted : ℕ → List Sent) (lines after : Lines) (frame : List ℕ)
    → may_release now link (pace_in link (log lines)) lines ≡ true → number ≡ (pace_in link (log lines)).next
    → turn < link.sub_vls → sub ≡ turn_of link.sub_vls (pace_in link (log lines)).last turn
    → ((k : ℕ) → k < turn → IsReleased 1 link accepted (log lines) (turn_of link.sub_vls (pace_in link (log lines)).last k))
    → Owes 1 link accepted (log lines) sub
    → length frame ≡ 60 → link_in frame ≡ link.id.0 → sub_in frame ≡ sub → number_in frame ≡ number → slice_index frame 11 ≡ interface_byte A
    → after.logged ≡ lines.logged ++ logged_for link.networks (entry now frame) ∷ []
    → any_up link.networks after ≡ true → BothEndure lines after → Drains now 1 link accepted lines after (Released sub number)
releases_of now number sub turn link accepted lines after frame may next within is before owed size own its carries interface enters stands stays_down = (
  may,
  next,
  record {
    frame = frame;
    choice = record { turn = turn; within = within; is = is; chosen = owed; before = before; others = λ s other. tt };
    of = grind arith;
    enters = enters;
    stands = stands;
    stays_down = stays_down;
  },
)

-- of the one sub-VL
pub releases : (now number : ℕ) (link : LinkPlan) (accepted : ℕ → List Sent) (lines after : Lines) (frame : List ℕ)
    → may_release now link (pace_in link (log lines)) lines ≡ true → number ≡ (pace_in link (log lines)).next
    → 0 < link.sub_vls → 0 ≡ turn_of link.sub_vls (pace_in link (log lines)).last 0 → Owes 1 link accepted (log lines) 0
    → length frame ≡ 60 → link_in frame ≡ link.id.0 → sub_in frame ≡ 0 → number_in frame ≡ number → slice_index frame 11 ≡ interface_byte A
    → after.logged ≡ lines.logged ++ logged_for link.networks (entry now frame) ∷ []
    → any_up link.networks after ≡ true → BothEndure lines after → Drains now 1 link accepted lines after (Released 0 number)
releases now number link accepted lines after frame may next some is owed =
    releases_of now number 0 0 link accepted lines after frame may next some is (λ k lt. absurd (omega arith)) owed

-- the first poll that may release a frame transmits it
back_turn : (now : ℕ) → is_due 1000 (Some (record { at = 0; sub = 0 })) now ≡ true
    → Drains now 1 small_link (message_accepted 0) front_line (both_at now) (Released 0 1)
unfolding log checksum addresses header_front internet_header link_header udp_header datagram unnumbered cutting fragments_at
back_turn now due = releases now 1 small_link (message_accepted 0) front_line (both_at now) (back_frame A)
    (grind arith) refl (omega arith) refl
    (record { left = blanked (back_frame A) ∷ []; some = λ e. cc; ahead = refl }) refl refl refl refl refl refl refl (grind arith)

lost_turn : Drains 1000 1 small_link (message_accepted 0) front_line lost_line Lost
unfolding log checksum addresses header_front internet_header link_header udp_header datagram unnumbered
lost_turn = (
  refl,
  record {
    sub = 0;
    frame = back_frame A;
    choice = (back_turn 1000 refl).2.choice;
    same = refl;
    down = refl;
    stays_down = grind arith;
  },
)

a_poll : (now : ℕ) (lines after : Lines) (did : Served) → Drains now 1 small_link (message_accepted 0) lines after did
    → EmitterPolls small_plan now lines after ⊎ DrainPolls small_plan now lines after
a_poll now lines after did turn = inr (record { accepted = message_accepted; allowed = grind arith; run = (after, did, turn, refl) })

-- polls after the last fragment transmit nothing
after_both : (now : ℕ) → is_due 1000 (Some (record { at = 1000; sub = 0 })) now ≡ true → Drains now 1 small_link (message_accepted 0) both_lines both_lines Nothing
unfolding log checksum addresses header_front internet_header link_header udp_header datagram unnumbered cutting fragments_at
after_both now due = grind arith

two_polls : AreRuns small_plan (1000 ∷ 2000 ∷ []) front_line both_lines
unfolding log checksum addresses header_front internet_header link_header udp_header datagram unnumbered cutting fragments_at
two_polls =
    grind (
      arith,
      a_poll 1000 front_line both_lines (Released 0 1) (back_turn 1000 refl),
      back_turn 1000 refl,
      a_poll 2000 both_lines both_lines Nothing (after_both 2000 refl),
      after_both 2000 refl,
    )

-- after it alone nothing comes
alone : (first : Entry) (bound : ℕ) (stream : List Entry) → stream ≡ first ∷ [] → ComesBy stream first bound → ⊥
alone first bound stream is comes = grind (arith, ap length is, ap length comes.are.is, length-append)

-- of two entries the second follows the first
second_is : (before between after : List Entry) (first second e next : Entry)
    → first ∷ second ∷ [] ≡ before ++ (e ∷ (between ++ next ∷ after)) → (first ≡ e) × (second ≡ next)
second_is [] [] after first second e next is = grind arith
second_is [] (x ∷ xs) after first second e next is = grind (arith, length-append xs (next ∷ after))
second_is (x ∷ xs) between after first second e next is =
    grind (arith, length-append xs (e ∷ (between ++ next ∷ after)), length-append between (next ∷ after))

small_valid : IsPlan small_plan
small_valid = grind arith

pub comes_in_run : ComesInRun
unfolding log checksum addresses header_front internet_header link_header udp_header datagram unnumbered
comes_in_run = record {
  valid = small_valid;
  ends = refl;
  more = refl;
  port = refl;
  run = record {
    runs = two_polls;
    is_up = refl;
    comes = omega arith;
    reaches = omega arith;
    next = (next_in_run_holds small_plan (1000 ∷ 2000 ∷ []) front_line both_lines 0 1000 [] front_entry
        small_valid (omega arith) refl refl refl two_polls refl
        (omega arith) (omega arith)).0;
  };
}

last_polls : AreRuns small_plan (2000 ∷ 3000 ∷ []) both_lines both_lines
last_polls =
    grind (
      arith,
      a_poll 2000 both_lines both_lines Nothing (after_both 2000 refl),
      after_both 2000 refl,
      a_poll 3000 both_lines both_lines Nothing (after_both 3000 refl),
      after_both 3000 refl,
    )

-- a drain with nothing accepted transmits nothing
stray_poll : (now : ℕ) → is_due 1000 (Some (record { at = 1000; sub = 1 })) now ≡ true
    → EmitterPolls small_plan now stray_line stray_line ⊎ DrainPolls small_plan now stray_line stray_line
unfolding log checksum addresses header_front internet_header link_header udp_header datagram unnumbered cutting fragments_at
stray_poll now due = inr (record {
  accepted = λ k s. [];
  allowed = grind arith;
  run = grind arith;
})

pub needs_a_run : NeedsARun
unfolding log checksum addresses header_front internet_header link_header udp_header datagram unnumbered
needs_a_run = record {
  none = grind (arith, alone front_entry (0 + next_wait 1000 small_plan 0) (stream_at small_plan 0 front_line) refl);
  idle = record {
    runs = λ runs. alone front_entry (0 + next_wait 1000 small_plan 0) (stream_at small_plan 0 front_line) refl (next_in_run_holds small_plan
        (1000 ∷ 2000 ∷ []) front_line front_line 0 1000 [] front_entry small_valid (omega arith) refl refl refl runs refl
        (omega arith) (omega arith)).0;
    is_up = refl;
    comes = omega arith;
    reaches = omega arith;
    next = alone front_entry (0 + next_wait 1000 small_plan 0) (stream_at small_plan 0 front_line) refl;
  };
  late = record {
    runs = (both_at 5000, a_poll 5000 front_line (both_at 5000) (Released 0 1) (back_turn 5000 refl), refl);
    is_up = refl;
    comes = omega arith;
    reaches = omega arith;
    next = λ comes.
        grind (arith, second_is);
  };
  lost = record {
    runs = (lost_line, a_poll 1000 front_line lost_line Lost lost_turn, (lost_line, a_poll 2000 lost_line lost_line Nothing (inl (refl, λ s. tt), refl), refl));
    is_up = λ up. false≢true up;
    comes = omega arith;
    reaches = omega arith;
    next = alone front_entry (0 + next_wait 1000 small_plan 0) (stream_at small_plan 0 lost_line) refl;
  };
  whole = grind (arith, last_polls);
  elsewhere = grind (arith, last_polls, cons_parts, second_is);
  stray = grind (arith, stray_poll 2000 refl, stray_poll 3000 refl, alone (entry 1000 (stray_frame A)) (1000 + next_wait 1000 small_plan 0) (stream_at small_plan 0 stray_line) refl);
}

tight_valid : IsPlan tight_plan
tight_valid = grind arith

accepted_is : IsAccepted tight_plan tight_accepted 0 0 (tight_sent ∷ []) tight_sent []
accepted_is = grind arith

-- no more messages precede it than the queue holds, and if as many, one was begun
pub has_room : (plan : Plan) (k s : ℕ) (earlier : List Sent) (stream : List Entry) → length earlier ≤ (link_plan_at plan.links k).capacity
    → ((link_plan_at plan.links k).capacity ≤ length earlier → 0 < length (seen_of s stream)) → HasPlace plan k s earlier stream
has_room plan k s earlier stream few begun [] back is room = grind arith
has_room plan k s earlier stream few begun (f ∷ front) back is room = grind (arith, length-append, back)

second_turn : Drains 1000 1 tight_link (tight_accepted 0) (tight_line 1) (tight_line 2) (Released 0 1)
unfolding log checksum addresses header_front internet_header link_header udp_header datagram unnumbered cutting fragments_at
second_turn = releases 1000 1 tight_link (tight_accepted 0) (tight_line 1) (tight_line 2) (tight_frame 0 24 1 A) refl refl (omega arith) refl
    (record { left = blanked (tight_frame 0 24 1 A) ∷ blanked (tight_frame 1 0 2 A) ∷ blanked (tight_frame 1 24 3 A) ∷ []; some = λ e. cc; ahead = refl })
    refl refl refl refl refl refl refl (grind arith)

third_turn : Drains 2000 1 tight_link (tight_accepted 0) (tight_line 2) (tight_line 3) (Released 0 2)
unfolding log checksum addresses header_front internet_header link_header udp_header datagram unnumbered cutting fragments_at
third_turn = releases 2000 2 tight_link (tight_accepted 0) (tight_line 2) (tight_line 3) (tight_frame 1 0 2 A) refl refl (omega arith) refl
    (record { left = blanked (tight_frame 1 0 2 A) ∷ blanked (tight_frame 1 24 3 A) ∷ []; some = λ e. cc; ahead = refl })
    refl refl refl refl refl refl refl (grind arith)

fourth_turn : Drains 3000 1 tight_link (tight_accepted 0) (tight_line 3) (tight_line 4) (Released 0 3)
unfolding log checksum addresses header_front internet_header link_header udp_header datagram unnumbered cutting fragments_at
fourth_turn = releases 3000 3 tight_link (tight_accepted 0) (tight_line 3) (tight_line 4) (tight_frame 1 24 3 A) refl refl (omega arith) refl
    (record { left = blanked (tight_frame 1 24 3 A) ∷ []; some = λ e. cc; ahead = refl })
    refl refl refl refl refl refl refl (grind arith)

finding_is : AreFinding tight_plan tight_accepted 0 0 4 (1000 ∷ 2000 ∷ 3000 ∷ []) (tight_line 1) (tight_line 4)
finding_is = (
  tight_line 2,
  inr (tight_line 2, Released 0 1, second_turn, refl),
  (
    tight_line 3,
    inr (tight_line 3, Released 0 2, third_turn, refl),
    (tight_line 4, inr (tight_line 4, Released 0 3, fourth_turn, refl), refl),
  ),
)

-- what comes by a time is a beginning of what comes before the later ones
front_by : (bound : ℕ) (rest soon more late : List Entry) → rest ++ late ≡ soon ++ more
    → All (λ (e : Entry). e.at ≤ bound) soon → All (λ (e : Entry). bound < e.at) late → IsPrefixOf soon rest
front_by bound rest [] more late is by after = (rest, refl)
front_by bound [] (e ∷ soon) more [] is by after = grind arith
front_by bound [] (e ∷ soon) more (l ∷ late) is by after = grind (arith, All-head)
front_by bound (r ∷ rest) (e ∷ soon) more late is by after =
    let front = front_by bound rest soon more late (cons_parts is).1 (All-tail (λ (d : Entry). d.at ≤ bound) e soon by) after in
    grind arith

-- messages of which too few fragments came by a time
pub not_released : (plan : Plan) (k s bound : ℕ) (messages : List Sent) (before rest late stream : List Entry)
    → stream ≡ before ++ (rest ++ late) → All (λ (e : Entry). bound < e.at) late
    → length (seen_of s (before ++ rest)) < length (fragments_of plan k messages) → AreReleasedBy plan k s messages before stream bound → ⊥
not_released plan k s bound messages before rest late stream is after few r =
    let front = front_by bound rest r.soon r.more late (append_cancel_left before _ _ (sym is ∙ r.is)) r.by after in
    grind (arith, seen_both s before (r.soon ++ front.0), seen_both s before r.soon, seen_both s r.soon front.0, length-append (fragments_of plan k messages) r.whole.0)

begins_is : IsPrefixOf (seen_of 0 (stream_at tight_plan 0 (tight_line 4))) (fragments_of tight_plan 0 (tight_accepted 0 0))
unfolding log checksum addresses header_front internet_header link_header udp_header datagram unnumbered cutting fragments_at
begins_is = ([], refl)

start_is : IsLater (latest None (stream_at tight_plan 0 (tight_line 1))) 0
unfolding log checksum addresses header_front internet_header link_header udp_header datagram unnumbered
start_is = omega arith

place_is : HasPlace tight_plan 0 0 (tight_sent ∷ []) (stream_at tight_plan 0 (tight_line 1))
unfolding log checksum addresses header_front internet_header link_header udp_header datagram unnumbered
place_is = has_room tight_plan 0 0 (tight_sent ∷ []) (stream_at tight_plan 0 (tight_line 1)) (omega arith) (λ full. omega arith)

-- without the last frame the second message is incomplete
not_sooner : TightReleased 2999 → ⊥
unfolding log checksum addresses header_front internet_header link_header udp_header datagram unnumbered cutting fragments_at
not_sooner = not_released tight_plan 0 0 2999 (tight_sent ∷ tight_sent ∷ []) (entry 0 (tight_frame 0 0 0 A) ∷ [])
    (entry 1000 (tight_frame 0 24 1 A) ∷ entry 2000 (tight_frame 1 0 2 A) ∷ []) (entry 3000 (tight_frame 1 24 3 A) ∷ [])
    (stream_at tight_plan 0 (tight_line 4)) refl
    (grind arith) (omega arith)

pub meets_the_wait : MeetsTheWait
unfolding cutting fragments_at
meets_the_wait = record {
  valid = tight_valid;
  wait = refl;
  accepted = accepted_is;
  start = start_is;
  place = place_is;
  finding = finding_is;
  begins = begins_is;
  is_up = refl;
  comes = grind arith;
  met = message_in_run_holds tight_plan tight_accepted (1000 ∷ 2000 ∷ 3000 ∷ []) (tight_line 1) (tight_line 4) 0 0 0 0
      (tight_sent ∷ []) tight_sent [] tight_valid accepted_is start_is place_is finding_is begins_is refl (grind arith);
  sooner = not_sooner;
}
