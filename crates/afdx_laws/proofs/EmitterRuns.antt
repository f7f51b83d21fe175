-- The worked run of polls of an emitter, by computation.
use Rattle.afdx_laws.proofs.RunNames.{None, inr, ◌⊎◌, DrainPolls, IsDrained, subst, IsLater, ◌≡◌, ◌≢◌, ℕ, zero, suc, ◌<◌, List, [], ◌∷◌, ◌++◌, length, refl, sym, arith, inl, true, All, All-cons, cases_eq, ⊎_elim, A, cutting, fragments_at, blanked, addresses, header_front, internet_header, link_header, udp_header, datagram, unnumbered, entry, Lines, BothEndure, log, any_up, may_release, turn_of, pace_in, slice_index, link_in, sub_in, number_in, interface_byte, Held, Passes, held_at, IsQueued, IsAllowed, Released, stream_at, EmitterPolls, IsReady, FindsIt, ArePolls, HasPlace, fragments_of, seen_of, Both, logged_for, replicate, IsTied, Plan, LinkPlan, Served, link_stream, sub_stream, latest, IsPrefixOf, AreSameSubs, Serves, GivesFrame, IsSameSub, sent_by, message_fragments, Finds, taken_of, moves_of, gave_same, same_sub_here, same_sub_on, short_port, short_sent, short_frame, front_entry, three_link, three_plan, three_accepted, end_frame, line_after, long_sub, short_sub, subs_of, tx_of, ComesInTurn, ThirdReleased, WaitsItsTurn}
use Rattle.afdx_frame.specs.Checksum.{checksum}
use Rattle.afdx_laws.proofs.WorkedRuns.{has_room, not_released}
use Rattle.afdx_laws.proofs.NextRun.{next_in_run_holds}
use Rattle.afdx_laws.proofs.Used.{untold}
use Rattle.afdx_laws.proofs.MessageRun.{message_in_run_holds}

by_three : (P : ℕ → Type 0) → P 0 → P 1 → P 2 → (s : ℕ) → s < 3 → P s
by_three P first second third s lt = grind arith

first_allowed : IsAllowed three_plan 0 1 (short_sent 1)
first_allowed = grind arith

second_allowed : IsAllowed three_plan 0 2 (short_sent 2)
second_allowed = grind arith

queued : (sub many : ℕ) → IsQueued three_plan 0 sub (short_sent sub)
    → All (IsQueued three_plan 0 sub) (sent_by (short_port sub ∷ []) (replicate many (0, 1 ∷ [])))
queued sub zero q = grind arith
queued sub (suc many) q = All-cons (IsQueued three_plan 0 sub) (short_sent sub) _ q (queued sub many q)

ready : (left : List (List ℕ)) (first second : ℕ) (lines : Lines) → IsReady (tx_of three_plan three_link (subs_of left first second) lines)
ready left first second lines = grind (arith, by_three, queued, first_allowed, second_allowed)

-- Whatever sub-VL 1 takes, its poll isn't one that finds nothing.
finds : (before after : List (ℕ × List ℕ)) → Passes (short_sub 1 before) (short_sub 1 after) → ⊥
finds before after p = grind arith

-- A poll of an emitter, by the turn of its one link.
abbrev pub polls_by : (now : ℕ) (plan : Plan) (link : LinkPlan) (old new : List Held) (lines after : Lines) (did : Served)
    → IsReady (tx_of plan link old lines) → IsReady (tx_of plan link new after) → length new ≡ length old → AreSameSubs old new
    → ((s : ℕ) → s < link.sub_vls → IsTied (held_at old s) (sub_stream s (link_stream link.id.0 (log lines))))
    → Serves now link (pace_in link (log lines)) old new lines after did → EmitterPolls plan now lines after
polls_by now plan link old new lines after did ready ready_after count same tied serves = record {
  old = tx_of plan link old lines;
  new = tx_of plan link new after;
  ready = ready;
  of = refl;
  before = refl;
  afterwards = refl;
  run = record {
    count = refl;
    turns = (
      after,
      did,
      record {
        same = record { end_system = refl; plan = refl; gap = refl; sub_vls = refl; count = count; subs = same };
        tied = λ up. tied;
        serves = serves;
      },
      refl,
    );
  };
  allowed = ready_after.allowed;
}

-- A poll at which the first sub-VL in turn gives this frame, on both networks.
gives : (now sub number : ℕ) (frame : List ℕ) (left new_left : List (List ℕ)) (first new_first second new_second : ℕ) (lines after : Lines)
    → may_release now three_link (pace_in three_link (log lines)) lines ≡ true → number ≡ (pace_in three_link (log lines)).next
    → sub ≡ turn_of 3 (pace_in three_link (log lines)).last 0
    → GivesFrame (held_at (subs_of left first second) sub) frame (held_at (subs_of new_left new_first new_second) sub)
    → ((s : ℕ) → s ≢ sub → held_at (subs_of new_left new_first new_second) s ≡ held_at (subs_of left first second) s)
    → ((s : ℕ) → s < 3 → IsTied (held_at (subs_of left first second) s) (sub_stream s (stream_at three_plan 0 lines)))
    → length frame ≡ 60 → link_in frame ≡ 1 → sub_in frame ≡ sub → number_in frame ≡ number → slice_index frame 11 ≡ interface_byte A
    → after.logged ≡ lines.logged ++ logged_for Both (entry now frame) ∷ []
    → any_up Both after ≡ true → BothEndure lines after → FindsIt three_plan 0 1 2 now lines after
gives now sub number frame left new_left first new_first second new_second lines after may next is given others tied size own of carries interface enters stands stays_down = record {
  poll = polls_by now three_plan three_link (subs_of left first second) (subs_of new_left new_first new_second) lines after
      (Released sub number) (ready left first second lines) (ready new_left new_first new_second after) refl same tied (
        may,
        next,
        record {
          frame = frame;
          choice = record {
            turn = 0;
            within = omega arith;
            is = is;
            chosen = given;
            before = λ k lt. absurd (omega arith);
            others = λ s other. others s (grind arith);
          };
          of = grind arith;
          enters = enters;
          stands = stands;
          stays_down = stays_down;
        },
      );
  finds = λ passes. absurd (finds _ _ passes);
}
  where
    same : (s : ℕ) → IsSameSub (held_at (subs_of left first second) s) (held_at (subs_of new_left new_first new_second) s)
    same s = ⊎_elim
        (λ (own : s ≡ sub). subst (λ (i : ℕ). IsSameSub (held_at (subs_of left first second) i) (held_at (subs_of new_left new_first new_second) i)) (sym own)
        (same_sub_on _ given.mid _ (moves_of _ given.mid (inr (inl given.asked))) (gave_same frame given.mid _ given.gives)))
        (λ (other : s ≢ sub). same_sub_here _ _ (others s other))
        (cases_eq s sub)

starts : (sub many after : ℕ) (frame : List ℕ)
    → Finds (short_sub sub (replicate many (0, 1 ∷ []))).seen (0, 1 ∷ []) (short_sub sub (replicate after (0, 1 ∷ []))).seen
    → blanked frame ∷ [] ≡ message_fragments (short_sub sub []).of (length (taken_of (short_sub sub (replicate many (0, 1 ∷ []))).seen)) (short_sent sub)
    → GivesFrame (short_sub sub (replicate many (0, 1 ∷ []))) frame (short_sub sub (replicate after (0, 1 ∷ [])))
starts sub many after frame found left = record {
  mid = record (short_sub sub (replicate after (0, 1 ∷ []))) { left = blanked frame ∷ [] };
  asked = grind arith;
  gives = grind arith;
}

abbrev end_left : List (List ℕ)
end_left = blanked (end_frame A) ∷ []

first_poll : FindsIt three_plan 0 1 2 3000 (line_after 1) (line_after 2)
unfolding log checksum addresses header_front internet_header link_header udp_header datagram unnumbered cutting fragments_at
first_poll = gives 3000 1 1 (short_frame 1 0 1 A) end_left end_left 0 1 0 0 (line_after 1) (line_after 2) refl refl refl
    (starts 1 0 1 (short_frame 1 0 1 A) (refl, untold _ _ refl) refl) (grind arith) (by_three _ refl refl refl)
    refl refl refl refl refl refl refl (grind arith)

second_poll : FindsIt three_plan 0 1 2 6000 (line_after 2) (line_after 3)
unfolding log checksum addresses header_front internet_header link_header udp_header datagram unnumbered cutting fragments_at
second_poll = gives 6000 2 2 (short_frame 2 0 2 A) end_left end_left 1 1 0 1 (line_after 2) (line_after 3) refl refl refl
    (starts 2 0 1 (short_frame 2 0 2 A) (refl, untold _ _ refl) refl) (grind arith) (by_three _ refl refl refl)
    refl refl refl refl refl refl refl (grind arith)

third_poll : FindsIt three_plan 0 1 2 9000 (line_after 3) (line_after 4)
unfolding log checksum addresses header_front internet_header link_header udp_header datagram unnumbered cutting fragments_at
third_poll = gives 9000 0 3 (end_frame A) end_left [] 1 1 1 1 (line_after 3) (line_after 4) refl refl refl
    (record { mid = long_sub end_left; asked = grind arith; gives = grind arith }) (grind arith) (by_three _ refl refl refl)
    refl refl refl refl refl refl refl (grind arith)

fourth_poll : FindsIt three_plan 0 1 2 12000 (line_after 4) (line_after 5)
unfolding log checksum addresses header_front internet_header link_header udp_header datagram unnumbered cutting fragments_at
fourth_poll = gives 12000 1 4 (short_frame 1 1 4 A) [] [] 1 2 1 1 (line_after 4) (line_after 5) refl refl refl
    (starts 1 1 2 (short_frame 1 1 4 A) (refl, untold _ _ refl) refl) (grind arith) (by_three _ refl refl refl)
    refl refl refl refl refl refl refl (grind arith)

pub finding : ArePolls (FindsIt three_plan 0 1 2) (6000 ∷ 9000 ∷ 12000 ∷ []) (line_after 2) (line_after 5)
finding = grind (arith, second_poll, third_poll, fourth_poll)

each_poll : {P Q : ℕ → (lines after : Lines) → Type 0} → ((now : ℕ) (lines after : Lines) → P now lines after → Q now lines after)
    → (moments : List ℕ) (lines after : Lines) → ArePolls P moments lines after → ArePolls Q moments lines after
each_poll f [] lines after p = p
each_poll f (now ∷ moments) lines after p = (p.0, f now lines p.0 p.1, each_poll f moments p.0 after p.2)

polls : ArePolls (EmitterPolls three_plan) (3000 ∷ 6000 ∷ 9000 ∷ 12000 ∷ []) (line_after 1) (line_after 5)
polls = grind (arith, each_poll, first_poll, finding)

pub comes_in_turn : ComesInTurn
unfolding log checksum addresses header_front internet_header link_header udp_header datagram unnumbered
comes_in_turn = record {
  valid = grind arith;
  ends = refl;
  more = refl;
  port = refl;
  polls = polls;
  is_up = refl;
  within = omega arith;
  wait = refl;
  next = (next_in_run_holds three_plan (3000 ∷ 6000 ∷ 9000 ∷ 12000 ∷ []) (line_after 1) (line_after 5) 0 3000 [] front_entry
      (grind arith) (omega arith) refl refl refl
      (each_poll {P = EmitterPolls three_plan} {Q = λ now lines after. EmitterPolls three_plan now lines after ⊎ DrainPolls three_plan now lines after}
      (λ now lines after p. inl p) (3000 ∷ 6000 ∷ 9000 ∷ 12000 ∷ []) (line_after 1) (line_after 5) polls)
      refl (omega arith) (omega arith)).0;
}

start_is : IsLater (latest None (stream_at three_plan 0 (line_after 2))) 3000
unfolding log checksum addresses header_front internet_header link_header udp_header datagram unnumbered
start_is = omega arith

seen_one : length (seen_of 1 (stream_at three_plan 0 (line_after 2))) ≡ 1
unfolding log checksum addresses header_front internet_header link_header udp_header datagram unnumbered
seen_one = refl

place_is : HasPlace three_plan 0 1 (short_sent 1 ∷ []) (stream_at three_plan 0 (line_after 2))
place_is = has_room three_plan 0 1 (short_sent 1 ∷ []) (stream_at three_plan 0 (line_after 2)) (omega arith) (λ full. omega (arith, seen_one))

begins_is : IsPrefixOf (seen_of 1 (stream_at three_plan 0 (line_after 5))) (fragments_of three_plan 0 (three_accepted 0 1))
unfolding log checksum addresses header_front internet_header link_header udp_header datagram unnumbered cutting fragments_at
begins_is = ([], refl)

sooner_is : ThirdReleased 11999 → ⊥
unfolding log checksum addresses header_front internet_header link_header udp_header datagram unnumbered cutting fragments_at
sooner_is = not_released three_plan 0 1 11999 (three_accepted 0 1) (stream_at three_plan 0 (line_after 2))
    (entry 6000 (short_frame 2 0 2 A) ∷ entry 9000 (end_frame A) ∷ []) (entry 12000 (short_frame 1 1 4 A) ∷ [])
    (stream_at three_plan 0 (line_after 5)) refl (grind arith) (omega arith)

pub waits_its_turn : WaitsItsTurn
unfolding cutting fragments_at
waits_its_turn = record {
  wait = refl;
  accepted = grind arith;
  start = start_is;
  place = place_is;
  finding = finding;
  begins = begins_is;
  is_up = refl;
  timely = grind arith;
  released = message_in_run_holds three_plan three_accepted (6000 ∷ 9000 ∷ 12000 ∷ []) (line_after 2) (line_after 5) 0 1 2000 3000
      (short_sent 1 ∷ []) (short_sent 1) [] (grind arith) (grind arith) start_is place_is
      (each_poll {P = FindsIt three_plan 0 1 2} {Q = λ now lines after. FindsIt three_plan 0 1 2 now lines after ⊎ IsDrained now three_plan three_accepted lines after} (λ now lines after f. inl f) (6000 ∷ 9000 ∷ 12000 ∷ []) (line_after 2) (line_after 5) finding)
      begins_is refl (grind arith);
  sooner = sooner_is;
}
