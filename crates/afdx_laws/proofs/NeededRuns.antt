-- The cases in which a premise of the law of a message in a run fails, by computation.
use Rattle.afdx_laws.proofs.RunNames.{nil_isnt_cons, None, blanked, cons_parts, true, Served, sym, append-nil, drop, IsQueued, All, ◌≡◌, ℕ, zero, suc, ◌<◌, [], ◌∷◌, ◌++◌, length, refl, arith, inr, ⊎_elim, below_one, false≢true, A, cutting, fragments_at, addresses, header_front, internet_header, link_header, udp_header, datagram, unnumbered, entry, Lines, log, Nothing, Released, Drains, Held, Passes, held_at, stream_at, EmitterPolls, AreTimely, AreFinding, HasPlace, IsAccepted, fragments_of, seen_of, replicate, after_take, ReceiverView, looked, IsTied, may_release, pace_in, sub_stream, IsPrefixOf, taken_by, IsSameSub, moves_of, same_sub_here, AreReleasedBy, other_frame, other_line, tight_link, short_port, byte_plan, short_sent, bytes_accepted, short_frame, no_line, byte_line, failed_line, NeedsItsPremises, fresh, sub_of}
use Rattle.afdx_frame.specs.Checksum.{checksum}
use Rattle.afdx_laws.proofs.EmitterRuns.{polls_by}
use Rattle.afdx_laws.proofs.WorkedRuns.{releases, has_room, not_released}
use Rattle.afdx_laws.proofs.Ran.{seen_append}
use Rattle.afdx_laws.proofs.Used.{untold}

pub one_is : IsAccepted byte_plan (bytes_accepted 1) 0 0 [] (short_sent 0) []
one_is = grind arith

two_are : IsAccepted byte_plan (bytes_accepted 2) 0 0 (short_sent 0 ∷ []) (short_sent 0) []
two_are = grind arith

pub finds : (many before now : ℕ) (lines after : Lines) (did : Served) → Drains now 1 tight_link (bytes_accepted many 0) lines after did
    → AreFinding byte_plan (bytes_accepted many) 0 0 before (now ∷ []) lines after
finds many before now lines after did turn = (after, inr (after, did, turn, refl), refl)

-- a poll that transmits the first of one or two messages
pub sends : (now more : ℕ) → AreFinding byte_plan (bytes_accepted (suc more)) 0 0 (suc more) (now ∷ []) no_line (byte_line now)
unfolding log checksum addresses header_front internet_header link_header udp_header datagram unnumbered cutting fragments_at
sends now more = finds (suc more) (suc more) now no_line (byte_line now) (Released 0 0)
    (releases now 0 tight_link (bytes_accepted (suc more) 0) no_line (byte_line now) (short_frame 0 0 0 A) refl refl (omega arith) refl
    (grind arith)
    refl refl refl refl refl refl refl (grind arith))

pub in_time : AreTimely 1000 0 1000 0 (1000 ∷ [])
in_time = grind arith

-- the sub-VL, by its queue
abbrev pub held : ReceiverView → Held
held queue = sub_of tight_link 0 (short_port 0) [] queue

-- a poll of an emitter that finds no message ready
finds_none : (queue : ReceiverView) (lines : Lines) → All (IsQueued byte_plan 0 0) (taken_by (held queue))
    → may_release 1000 tight_link (pace_in tight_link (log lines)) lines ≡ true
    → IsTied (held queue) (sub_stream 0 (stream_at byte_plan 0 lines)) → queue.heard ≡ [] → EmitterPolls byte_plan 1000 lines lines
finds_none queue lines queued due tied none = polls_by 1000 byte_plan tight_link (held queue ∷ []) (held (looked queue) ∷ []) lines lines Nothing
    (grind arith) (grind arith)
    refl same (below_one _ tied) (grind arith, refl)
  where
    passes : Passes (held queue) (held (looked queue))
    passes = record { whole = refl; nothing = (refl, untold queue None none); same = refl }

    same : (s : ℕ) → IsSameSub (held_at (held queue ∷ []) s) (held_at (held (looked queue) ∷ []) s)
    same zero = grind (arith, moves_of)
    same (suc s) = same_sub_here _ _ refl

none_before : (lines : Lines) → HasPlace byte_plan 0 0 [] (stream_at byte_plan 0 lines)
none_before lines = has_room byte_plan 0 0 [] (stream_at byte_plan 0 lines) (omega arith) (λ full. absurd (omega arith))

-- nothing is transmitted after these lines, and too little before
misses : (earlier : ℕ) (lines : Lines)
    → length (seen_of 0 (stream_at byte_plan 0 lines ++ [])) < length (fragments_of byte_plan 0 (replicate earlier (short_sent 0) ++ short_sent 0 ∷ []))
    → AreReleasedBy byte_plan 0 0 (replicate earlier (short_sent 0) ++ short_sent 0 ∷ []) (stream_at byte_plan 0 lines) (stream_at byte_plan 0 lines) 1000 → ⊥
misses earlier lines few = not_released byte_plan 0 0 1000 (replicate earlier (short_sent 0) ++ short_sent 0 ∷ []) (stream_at byte_plan 0 lines) [] []
    (stream_at byte_plan 0 lines) (sym (append-nil _)) (grind arith) few

-- the frame of the first message begins the fragments of one or two
pub begins : (now more : ℕ) → IsPrefixOf (seen_of 0 (stream_at byte_plan 0 (byte_line now))) (fragments_of byte_plan 0 (bytes_accepted (suc more) 0 0))
unfolding log checksum addresses header_front internet_header link_header udp_header datagram unnumbered cutting fragments_at
begins now more = (drop 1 (fragments_of byte_plan 0 (bytes_accepted (suc more) 0 0)), refl)

-- the second message is not sent
pub misses_second : (now bound : ℕ) → AreReleasedBy byte_plan 0 0 (short_sent 0 ∷ short_sent 0 ∷ []) (stream_at byte_plan 0 no_line)
    (stream_at byte_plan 0 (byte_line now)) bound → ⊥
unfolding log checksum addresses header_front internet_header link_header udp_header datagram unnumbered cutting fragments_at
misses_second now bound = not_released byte_plan 0 0 bound (short_sent 0 ∷ short_sent 0 ∷ []) [] (entry now (short_frame 0 0 0 A) ∷ []) []
    (stream_at byte_plan 0 (byte_line now)) refl (grind arith) (omega arith)

-- the one message is sent after the bound
pub misses_late : (now bound : ℕ) → bound < now → AreReleasedBy byte_plan 0 0 (short_sent 0 ∷ []) (stream_at byte_plan 0 no_line)
    (stream_at byte_plan 0 (byte_line now)) bound → ⊥
unfolding log checksum addresses header_front internet_header link_header udp_header datagram unnumbered cutting fragments_at
misses_late now bound past = not_released byte_plan 0 0 bound (short_sent 0 ∷ []) [] [] (entry now (short_frame 0 0 0 A) ∷ [])
    (stream_at byte_plan 0 (byte_line now)) refl (grind arith) (omega arith)

-- the other message was taken and sent
finds_other : EmitterPolls byte_plan 1000 other_line other_line
unfolding log checksum addresses header_front internet_header link_header udp_header datagram unnumbered cutting fragments_at
finds_other = finds_none (after_take fresh (0, 2 ∷ [])) other_line
    (grind arith) refl refl refl

pub other_bytes : blanked (other_frame A) ≡ blanked (short_frame 0 0 0 A) → ⊥
unfolding checksum addresses header_front internet_header link_header udp_header datagram unnumbered
other_bytes is = grind arith

pub needs_its_premises : NeedsItsPremises
unfolding log checksum addresses header_front internet_header link_header udp_header datagram unnumbered cutting fragments_at
needs_its_premises = record {
  valid = grind arith;
  wait = refl;
  unaccepted = grind (arith, nil_isnt_cons, none_before no_line, finds, below_one, in_time, misses 0 no_line (omega arith));
  early = record {
    accepted = two_are;
    start = λ starts. absurd (omega arith);
    place = has_room byte_plan 0 0 (short_sent 0 ∷ []) (stream_at byte_plan 0 (byte_line 5000)) (omega arith) (λ full. omega arith);
    finding = grind (arith, finds);
    prefix = begins 5000 1;
    is_up = refl;
    comes = in_time;
    missed = misses 1 (byte_line 5000) (omega arith);
  };
  crowded = record {
    accepted = two_are;
    start = tt;
    place = λ place. let none = place [] (short_sent 0 ∷ []) refl (omega arith) in absurd (omega arith);
    finding = sends 1000 1;
    prefix = begins 1000 1;
    is_up = refl;
    comes = in_time;
    missed = misses_second 1000 1000;
  };
  poll = finds_none fresh no_line (grind arith) refl refl refl;
  unfound = grind (arith, one_is, none_before no_line, in_time, misses 0 no_line (omega arith));
  unlike = record {
    accepted = one_is;
    start = omega arith;
    place = none_before other_line;
    finding = grind (arith, finds_other, finds);
    prefix = λ is. other_bytes (cons_parts is.1).0;
    is_up = refl;
    comes = in_time;
    missed = grind (arith, other_bytes, cons_parts, seen_append);
  };
  down = grind (arith, one_is, none_before failed_line, finds, in_time, false≢true, misses 0 failed_line (omega arith));
  late = grind (arith, one_is, none_before no_line, sends 1001 0, begins 1001 0, ⊎_elim, misses_late 1001 1000 (omega arith));
}
