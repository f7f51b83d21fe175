-- The lines and the frames of a sub-VL in which a judge finds nothing: the frames are numbered and spaced and take turns, and are
-- the fragments of messages.
use Rattle.afdx_laws.proofs.JudgeNames.{All, All-cons, All-contains, All-nil, Arrived, Bool, Entry, delay_after, IsAllowed, IsApart, IsLink, IsNumbered, IsPlan, IsPort, IsSpaced, Joining, Last, Line, List, Measure, Net, None, Option, Options, Piece, Plan, PortPlan, Recorded, Sent, Some, Stamp, Sub, TakesTurns, Verdict, ap, append-nil, append_assoc, arith, bag_micros, blanked, cases_Bool, cases_eq, cases_lt, cut_whole, datagram, drop, drop_at, due_before, early_since, entry_number, fails_before_first, false, fields_of, figures_with, fragments, fragments_from, get_or, get_or_past, inl, inr, le-ltb, left_none, length, length-append, length-drop, length-set, link_plan_at, lt-ltb, map, nat_tests, new_sub, next_number, next_of, number_deviation, number_in, number_kind, number_unless, passed_by, piece_at, position, refl, sequence_number, slice_set, stamp_of, step_of, sub_at, sub_in, subst, suc, sym, tag_of, take_at, those_with, true, turn_deviation, turn_if, unnumbered, verdict, ℕ, [], ◌*◌, ◌++◌, ◌+◌, ◌-◌, ◌/◌, ◌<◌, ◌^◌, ◌∙◌, ◌∷◌, ◌≡◌, ◌≤◌, time_of, EndsWhole, IsOctets, entry_of}
use Rattle.afdx_laws.proofs.Line.{AreDue, IsFaultless, IsLast, IsRight, come_of, faultless, is_passed, line_of, line_then, measure_at, number_goes_on, own_is, own_sub, right_after, sub_new_at, sub_of, sub_other, sub_other_at, sub_same}
use Rattle.afdx_laws.proofs.Message.{IsDue, IsNext, joining_after, last_joined, more_joined, port_at, room_at}
use Rattle.afdx_laws.proofs.Pieces.{comes_first, cut_at, due_from}
use Rattle.afdx_laws.proofs.Quiet.{Brings, IsAdmitted, IsBetween, IsQuiet, IsWhole, IsWithin, body_in, brings_first, brings_later, ends_says, fits_says, length_says, piece_in, size, tells_whole}
use Rattle.afdx_laws.proofs.ReadFrames.{more_of, number_of, rebuilt, sub_few, sub_of_frame, with_other, with_own}

-- Nothing is wrong with a frame that is recorded at this time. The packet has its release time, on a clock that is the
-- jitter ahead.
pub record IsClear (plan : Plan) (k : ℕ) (options : Options) (net : Net) (line : Line) (r : Recorded) : Type 0 where
  pub octets : IsOctets r
  pub admitted : IsAdmitted plan k net r.bytes
  pub at : ℕ
  pub wrong : IsFaultless plan k options (tag_of net 0 at) r.bytes line
  pub released : time_of r ≡ at + 1000 * options.jitter - delay_after (measure_at plan k options) at line.last

abbrev pub AreClear : Plan → ℕ → Options → Net → Line → List Recorded → Type 0
AreClear plan k options net line [] = Unit {0}
AreClear plan k options net line (r ∷ rs) = (clear : IsClear plan k options net line r)
    × AreClear plan k options net (line_then plan k options (tag_of net 0 clear.at) r.bytes line) rs

-- a line on which nothing is wrong with a frame
pub wrong_right : (measure : Measure) (port : Option PortPlan) (come : Arrived) (line : Line) → measure.arinc ≡ false
    → come.sub < 4 → verdict measure port come line ≡ faultless → IsRight measure port come line come.sub
unfolding verdict
wrong_right measure port come line own known wrong =
    let number : number_deviation measure.late come.fields.number line ≡ None = ap (λ (v : Verdict). v.number) wrong in
    let turn : turn_deviation come.sub line ≡ None = rw (number, own) at (ap (λ (v : Verdict). v.turn) wrong) in
    let is_known = lt-ltb _ _ known in
    let fits = rw (number, turn, own, is_known) at (ap (λ (v : Verdict). v.fragment) wrong) in
    let ends = rw (number, turn, own, is_known, fits) at (ap (λ (v : Verdict). v.message) wrong) in
    let early = ap (λ (v : Verdict). v.early) wrong in
    let of_port = rw own at (ap (λ (v : Verdict). v.port) wrong) in
    assumption

-- a frame's release time in microseconds, on that clock
pub record IsLet (jitter at : ℕ) (last : Last) : Type 0 where
  pub release : at ≡ (last.at + 1000 * jitter - last.delay) / 1000
  pub within : last.delay ≤ 1000 * jitter

-- the last frame of a line after `i` frames
abbrev pub IsLastAt : ℕ → ℕ → Option Stamp → Option Last → Type 0
IsLastAt jitter i before last = IsLast (IsLet jitter) false i before last

number_from : (jitter i number : ℕ) (before : Option Stamp) (last : Option Last) → IsLastAt jitter i before last
    → number_unless (number_kind number last) number (next_number false last) ≡ None → number ≡ sequence_number i
number_from jitter i number before last is none = grind (arith, nat_tests, number_goes_on)

apart_from : (gap jitter i at : ℕ) (measure : Measure) (before : Option Stamp) (last : Option Last) → measure.gap ≡ 1000 * gap
    → IsLastAt jitter i before last → early_since measure.gap at last ≡ None
    → IsApart gap before ((at + 1000 * jitter - delay_after measure at last) / 1000)
apart_from gap jitter i at measure before last is_gap is none = grind (arith, nat_tests)

pub delay_within : (measure : Measure) (at : ℕ) (last : Option Last) → delay_after measure at last ≤ measure.jitter
delay_within measure at last = grind (arith, nat_tests)

-- ---- turns

none_passes : {X : Type 0} (p : X → Bool) (xs : List X) (i : ℕ) (d : X) → position p xs ≡ None → i < length xs → p (get_or xs i d) ≡ false
none_passes p xs i d none inside = grind (arith, nat_tests, fails_before_first)

no_turn : (subs : List Sub) (s p : ℕ) → length subs ≡ 4 → s < 4 → passed_by s subs ≡ None → (own_sub subs p).due ≡ true
    → (own_sub subs p).came < (own_sub subs s).came → ⊥
no_turn subs s p size few none due before = elim (cases_lt p 4) [
  | inl inside ↦
      let came : due_before (own_sub subs s).came subs ≡ None = rw (own_is subs s (rw size few)) at none in
      let fails = none_passes (is_passed (own_sub subs s).came) subs p (new_sub true false 0) came (rw size inside) in
      grind (arith, nat_tests, fails)
  | inr past ↦ absurd (cc (due, ap (λ (s : Sub). s.due) (get_or_past subs p (new_sub true false 0) (rw size past))))
]

-- the sub-VLs before a frame, from those after it
due_back : (subs : List Sub) (i : ℕ) (e : Entry) (es : List Entry) (s : ℕ) (new : Sub) → AreDue (slice_set subs s new) (i + 1) es
    → length subs ≡ 4 → ((p : ℕ) → (own_sub subs p).came ≤ i) → s < 4 → sub_in e.frame ≡ s → new.came ≡ i + 1
    → passed_by s subs ≡ None
    → AreDue subs i (e ∷ es)
due_back subs i e es s new later size came few its counts none = grind (arith, nat_tests, cases_eq, sub_same, sub_other, no_turn)

-- ---- a line

-- where a line is after `i` frames
pub record IsAt (jitter : ℕ) (line : Line) (i : ℕ) (before : Option Stamp) : Type 0 where
  pub last : IsLastAt jitter i before line.last
  pub frames : line.figures.frames ≡ i
  pub size : length line.subs ≡ 4
  pub came : (p : ℕ) → (own_sub line.subs p).came ≤ i

-- what its frames are
pub record AreHeard (plan : Plan) (k i : ℕ) (before : Option Stamp) (subs : List Sub) (es : List Entry) : Type 0 where
  pub numbered : IsNumbered entry_number i es
  pub spaced : IsSpaced (bag_micros (link_plan_at plan.links k).bag) before es
  pub due : AreDue subs i es
  pub turns : TakesTurns es

-- a frame of this time
abbrev pub come_at : Plan → ℕ → Options → Net → Line → Recorded → ℕ → Arrived
come_at plan k options net line r at = come_of plan k options (tag_of net 0 at) r.bytes line

abbrev pub line_with_it : Plan → ℕ → Options → Net → Line → Recorded → ℕ → Line
line_with_it plan k options net line r at =
    line_of (measure_at plan k options) (port_at plan k r.bytes) (come_at plan k options net line r at) line (sub_in r.bytes)

pub after_clear : (plan : Plan) (k : ℕ) (options : Options) (net : Net) (line : Line) (r : Recorded)
    → (clear : IsClear plan k options net line r)
    → line_then plan k options (tag_of net 0 clear.at) r.bytes line ≡ line_with_it plan k options net line r clear.at
after_clear plan k options net line r clear = grind (arith, nat_tests, right_after, wrong_right, sub_of_frame, sub_few)

turn_none : (sub : ℕ) (due : Option ℕ) → turn_if sub due ≡ None → due ≡ None
turn_none sub due none = grind (arith, nat_tests)

-- a packet on its line
module _ (plan : Plan) (k : ℕ) (options : Options) (net : Net) (line : Line) (r : Recorded) (i : ℕ) (before : Option Stamp)
    (early : options.late ≡ false) (is : IsAt options.jitter line i before) (few : i + 1 ≤ 2 ^ 64 - 1)
    (clear : IsClear plan k options net line r) where
  abbrev s : ℕ
  s = sub_in r.bytes

  abbrev come : Arrived
  come = come_at plan k options net line r clear.at

  abbrev new : Sub
  new = sub_of (port_at plan k r.bytes) come line s

  right : IsRight (measure_at plan k options) (port_at plan k r.bytes) come line come.sub
  right = wrong_right _ _ _ line refl (sub_few r.bytes) clear.wrong

  counts : (figures_with come line).frames ≡ i + 1
  counts = rw is.frames (omega arith)

  number : number_in r.bytes ≡ sequence_number i
  number = sym (number_of r.bytes) ∙ number_from options.jitter i (fields_of r.bytes).number before line.last is.last (rw early at right.number)

  let_go : IsLet options.jitter (time_of r / 1000)
      (record { number = come.fields.number; at = clear.at; delay = delay_after (measure_at plan k options) clear.at line.last })
  let_go = record {
    release = ap (λ (t : ℕ). t / 1000) clear.released;
    within = delay_within (measure_at plan k options) clear.at line.last;
  }

  at_next : IsAt options.jitter (line_with_it plan k options net line r clear.at) (i + 1) (Some (stamp_of (entry_of r)))
  at_next = record {
    last = record {
      n = i;
      count = refl;
      number = number_of r.bytes ∙ number;
      stamp = stamp_of (entry_of r);
      known = refl;
      released = let_go;
    };
    frames = counts;
    size = length-set line.subs s new ∙ is.size;
    came = λ p. grind (arith, nat_tests, counts, cases_eq p s, sub_same, sub_other, is.came p);
  }

  heard_next : (rs : List Recorded) → AreHeard plan k (i + 1) (Some (stamp_of (entry_of r))) (slice_set line.subs s new) (map entry_of rs)
      → AreHeard plan k i before line.subs (entry_of r ∷ map entry_of rs)
  heard_next rs later =
      let four : s < 4 = omega arith in
      let turn = subst (λ q. passed_by q line.subs ≡ None) (sub_of_frame r.bytes) (turn_none come.sub (passed_by come.sub line.subs) right.turn) in
      let apart : IsApart (bag_micros (link_plan_at plan.links k).bag) before (time_of r / 1000) =
      rw clear.released (apart_from (bag_micros (link_plan_at plan.links k).bag) options.jitter i clear.at (measure_at plan k options) before line.last
      refl is.last right.early) in
      let due = due_back line.subs i (entry_of r) (map entry_of rs) s new later.due is.size is.came four refl counts turn in
      grind (arith, nat_tests, number, apart, due, sub_same, more_of r.bytes clear.admitted.profile.internet.flags)

pub heard : (plan : Plan) (k : ℕ) (options : Options) (net : Net) (line : Line) (rs : List Recorded) (i : ℕ) (before : Option Stamp)
    → options.late ≡ false → IsAt options.jitter line i before → i + length rs ≤ 2 ^ 64 - 1 → AreClear plan k options net line rs
    → AreHeard plan k i before line.subs (map entry_of rs)
heard plan k options net line [] i before early is few clear = grind (arith, nat_tests)
heard plan k options net line (r ∷ rs) i before early is few clear =
    heard_next plan k options net line r i before early is (omega arith) clear.0 rs
    (heard plan k options net (line_with_it plan k options net line r clear.0.at) rs (i + 1) (Some (stamp_of (entry_of r))) early
    (at_next plan k options net line r i before early is (omega arith) clear.0) (omega arith)
    (subst (λ l. AreClear plan k options net l rs) (after_clear plan k options net line r clear.0) clear.1))

-- the judge finds nothing in these frames of a sub-VL, and then knows `last`
abbrev pub IsSilent : Plan → (k s : ℕ) → Net → Joining → List (List ℕ) → Joining → Type 0
IsSilent plan k s net joining [] last = last ≡ joining
IsSilent plan k s net joining (f ∷ fs) last = IsQuiet plan k s net joining f
    × IsSilent plan k s net (joining_after plan k f joining) fs last

-- frames that finish a message of a port, of which these bytes came, and are those of later messages
pub record IsFinished (plan : Plan) (k s : ℕ) (net : Net) (place : ℕ) (given : List ℕ) (port : PortPlan) (frames : List (List ℕ)) : Type 0 where
  pub bytes : List ℕ
  pub later : List Sent
  pub due : IsDue plan k s (record { port = port; bytes = bytes }) (length given)
  pub rest : List ℕ
  pub whole : datagram plan.end_system port bytes ≡ given ++ rest
  pub later_are : All (IsAllowed plan k s) later
  pub frames_are : map blanked frames ≡ due_from plan k net (record { port = port; bytes = bytes }) place (length given) later

-- frames that are those of messages
pub record IsResumed (plan : Plan) (k s : ℕ) (net : Net) (place : ℕ) (frames : List (List ℕ)) : Type 0 where
  pub accepted : List Sent
  pub allowed : All (IsAllowed plan k s) accepted
  pub frames_are : map blanked frames ≡ fragments_from plan.end_system (room_at plan k) net place accepted

-- there is one next piece
piece_again : (room n start : ℕ) (piece : Piece) → IsNext room n start piece → piece_at room n start ≡ piece
piece_again room n start piece next = grind (arith, lt-ltb, le-ltb)

-- what silence tells, between messages and within one
record Tidings (plan : Plan) (k s : ℕ) (net : Net) (last : Joining) (frames : List (List ℕ)) : Type 0 where
  between : (place : ℕ) (joining : Joining) → IsBetween s place joining → IsSilent plan k s net joining frames last
      → IsResumed plan k s net place frames
  inside : (place : ℕ) (given : List ℕ) (port : PortPlan) (joining : Joining) → IsWithin plan k s place given port joining
      → IsSilent plan k s net joining frames last → IsFinished plan k s net place given port frames

module _ {plan : Plan} {k s : ℕ} {net : Net} {place : ℕ} {given : List ℕ} {port : PortPlan} {joining : Joining} {frame : List ℕ}
    (valid : IsPlan plan) (within : k < length plan.links) (quiet : IsQuiet plan k s net joining frame)
    (brings : Brings plan k s net place given port joining frame) where
  is_port : IsPort port
  is_port = All-contains IsPort plan.ports port valid.each_port brings.sender.member

  -- the frame is the fragment of its piece, in a message that begins with these bytes
  front_is : (bytes rest : List ℕ) → datagram plan.end_system port bytes ≡ given ++ (body_in frame ++ rest)
      → unnumbered plan.end_system port bytes place (piece_in frame) net ≡ blanked frame
  unfolding unnumbered
  front_is bytes rest whole = grind (arith, size, drop_at, take_at, rebuilt, is_port)

  -- the length of what came with it
  grown : length (given ++ body_in frame) ≡ length given + (piece_in frame).len
  grown = omega (arith, length-append given (body_in frame), size valid within quiet)

  -- its length as the cutting gives it
  cut_len : ((piece_in frame).more ≡ true → (piece_in frame).len ≡ step_of (room_at plan k))
      × ((piece_in frame).more ≡ false → 0 < (piece_in frame).start → room_at plan k < step_of (room_at plan k) + (piece_in frame).len)
  unfolding fields_of
  cut_len = grind (arith, length_says, fits_says, size)

  after_more : (piece_in frame).more ≡ true → IsWithin plan k s place (given ++ body_in frame) port (joining_after plan k frame joining)
  unfolding fields_of
  after_more more = record {
    next = grind (arith, more_joined, grown);
    ident = grind (arith, more_joined);
    head = brings.head;
    begun_is = grind (arith, more_joined);
    tells = brings.tells;
    sender = brings.sender;
    units = omega (arith, grown, cut_len.0 more, brings.units);
  }

  after_last : (piece_in frame).more ≡ false → IsBetween s (suc place) (joining_after plan k frame joining)
  unfolding fields_of
  after_last last = grind (arith, last_joined)

  -- the frames of a message from this one on
  finish : (bytes rest : List ℕ) (later : List Sent) (fs : List (List ℕ)) → datagram plan.end_system port bytes ≡ given ++ (body_in frame ++ rest)
      → IsAllowed plan k s (record { port = port; bytes = bytes }) → IsNext (room_at plan k) (8 + length bytes) (length given) (piece_in frame)
      → (0 < length given → room_at plan k < step_of (room_at plan k) + (8 + length bytes - length given)) → All (IsAllowed plan k s) later
      → map blanked fs ≡ due_from plan k net (record { port = port; bytes = bytes }) place (length given + (piece_in frame).len) later
      → IsFinished plan k s net place given port (frame ∷ fs)
  finish bytes rest later fs whole allowed next tight are behind =
      let long = size valid within quiet in
      let link : IsLink (link_plan_at plan.links k) = valid.each_link k _ within in
      let due : IsDue plan k s (record { port = port; bytes = bytes }) (length given) =
      record { allowed = allowed; inside = grind (arith, long); units = brings.units; tight = tight } in
      record {
        bytes = bytes;
        later = later;
        due = due;
        rest = body_in frame ++ rest;
        whole = whole;
        later_are = are;
        frames_are = rw (
          comes_first plan k s net (record { port = port; bytes = bytes }) place (length given) later (omega (arith, link.lmax)) due,
          piece_again (room_at plan k) (8 + length bytes) (length given) (piece_in frame) next,
          front_is bytes rest whole,
          behind,
        ) refl;
      }

  finish_more : (fs : List (List ℕ)) → (piece_in frame).more ≡ true → IsFinished plan k s net place (given ++ body_in frame) port fs
      → IsFinished plan k s net place given port (frame ∷ fs)
  finish_more fs more fin =
      let step = cut_len.0 more in
      let size = grown in
      let inside = fin.due.inside in
      let tight = fin.due.tight (omega arith) in
      finish fin.bytes fin.rest fin.later fs (fin.whole ∙ append_assoc given (body_in frame) fin.rest) fin.due.allowed
      (record { start_is = brings.start; len_is = inl (more, step, omega arith) }) (λ some. omega arith) fin.later_are (rw grown at fin.frames_are)

  -- the message that a last piece ends
  is_whole : (piece_in frame).more ≡ false → IsWhole plan.end_system port (given ++ body_in frame)
  unfolding fields_of
  is_whole last =
      let all : (piece_in frame).start + (piece_in frame).len ≡ length (given ++ body_in frame) = omega (arith, grown, brings.start) in
      let same = more_of frame quiet.admitted.profile.internet.flags in
      tells_whole plan.end_system port (given ++ body_in frame) brings.head is_port brings.tells
      (rw all at (ends_says (fields_of frame).piece _ brings.head quiet.good.ends (same ∙ last) brings.known))

  finish_last : (fs : List (List ℕ)) → (piece_in frame).more ≡ false → IsResumed plan k s net (suc place) fs
      → IsFinished plan k s net place given port (frame ∷ fs)
  finish_last fs last rest =
      let long = size valid within quiet in
      let size = grown in
      let bytes : List ℕ = drop 8 (given ++ body_in frame) in
      let some = brings.tells.long in
      let all : 8 + length bytes ≡ length given + (piece_in frame).len = omega (arith, length-drop 8 (given ++ body_in frame)) in
      let told = is_whole last in
      finish bytes [] rest.accepted fs (told.datagram_is ∙ ap (λ (xs : List ℕ). given ++ xs) (sym (append-nil (body_in frame)))) (record {
        queued = record {
          port = brings.sender.member;
          over = brings.sender.over;
          its = brings.sender.its;
          some = told.some;
          most = omega (arith, told.most, is_port.max);
        };
        most = told.most;
      }) (record { start_is = brings.start; len_is = inr (last, omega arith, omega arith) })
      (λ some. omega (arith, cut_len.1 last (omega (arith, brings.start)))) rest.allowed
      (rw (left_none (room_at plan k) (cut_at (record { port = port; bytes = bytes }) place (length given + (piece_in frame).len)) (omega arith))
      rest.frames_are)

  -- a frame that brings a piece, and silent ones after it
  tidings_more : {last : Joining} {fs : List (List ℕ)} → Tidings plan k s net last fs → IsSilent plan k s net (joining_after plan k frame joining) fs last
      → IsFinished plan k s net place given port (frame ∷ fs)
  tidings_more {fs = fs} later silent = elim (cases_Bool (piece_in frame).more) [
    | inl more ↦ finish_more fs more (later.inside place (given ++ body_in frame) port (joining_after plan k frame joining) (after_more more) silent)
    | inr end ↦ finish_last fs end (later.between (suc place) (joining_after plan k frame joining) (after_last end) silent)
  ]

-- a message that began is the first of the messages
resume : {plan : Plan} {k s : ℕ} {net : Net} {place : ℕ} {port : PortPlan} {frames : List (List ℕ)}
    → IsFinished plan k s net place [] port frames → IsResumed plan k s net place frames
resume {plan = plan} {k = k} {s = s} {net = net} {place = place} {port = port} fin = record {
  accepted = record { port = port; bytes = fin.bytes } ∷ fin.later;
  allowed = All-cons (IsAllowed plan k s) (record { port = port; bytes = fin.bytes }) fin.later fin.due.allowed fin.later_are;
  frames_are = fin.frames_are ∙ ap (λ (us : List (List ℕ)). us ++ fragments_from plan.end_system (room_at plan k) net (suc place) fin.later)
      (cut_whole plan.end_system (room_at plan k) net place (record { port = port; bytes = fin.bytes }));
}

tidings : (frames : List (List ℕ)) (plan : Plan) (k s : ℕ) (net : Net) (last : Joining) → IsPlan plan → k < length plan.links
    → next_of last ≡ Some 0 → Tidings plan k s net last frames
tidings [] plan k s net last valid within ends = record {
  between = λ place joining is silent. record { accepted = []; allowed = All-nil (IsAllowed plan k s); frames_are = refl };
  inside = λ place given port joining is silent.
      let none : length given ≡ 0 = cc (ends, is.next, silent) in
      absurd (omega (arith, is.tells.long));
}
tidings (frame ∷ fs) plan k s net last valid within ends =
    let later = tidings fs plan k s net last valid within ends in
    record {
      between = λ place joining is silent.
          let first = brings_first valid within silent.0 is in resume (tidings_more valid within silent.0 first.1 later silent.1);
      inside = λ place given port joining is silent. tidings_more valid within silent.0 (brings_later valid within silent.0 is) later silent.1;
    }

-- Silent frames from the first message on are the fragments of messages that are allowed, if the last one is whole.
pub silent_is_sent : (plan : Plan) (k s : ℕ) (net : Net) (frames : List (List ℕ)) (last : Joining) → IsPlan plan → k < length plan.links
    → s < (link_plan_at plan.links k).sub_vls → IsSilent plan k s net (new_sub false false s).joining frames last → next_of last ≡ Some 0
    → (accepted : List Sent) × All (IsAllowed plan k s) accepted
    × (map blanked frames ≡ fragments plan.end_system (room_at plan k) net accepted)
silent_is_sent plan k s net frames last valid within index silent ends =
    let link : IsLink (link_plan_at plan.links k) = valid.each_link k _ within in
    let is = (tidings frames plan k s net last valid within ends).between 0 (new_sub false false s).joining
    (record { next = refl; ident = ap Some (omega arith) }) silent in
    (is.accepted, is.allowed, is.frames_are)

-- the frames of a sub-VL
abbrev pub sub_frames : ℕ → List Recorded → List (List ℕ)
sub_frames s rs = map (λ (r : Recorded). r.bytes) (those_with (λ (r : Recorded). sub_in r.bytes) s rs)

quiet : (plan : Plan) (k s : ℕ) (options : Options) (net : Net) (line : Line) (r : Recorded) → IsClear plan k options net line r
    → sub_in r.bytes ≡ s → IsQuiet plan k s net (sub_at line.subs s).joining r.bytes
quiet plan k s options net line r clear its =
    let right = subst (λ q. IsRight (measure_at plan k options) (port_at plan k r.bytes) (come_at plan k options net line r clear.at) line q)
    (sub_of_frame r.bytes ∙ its) (wrong_right _ _ _ line refl (sub_few r.bytes) clear.wrong) in
    let of_sub = sub_of_frame r.bytes ∙ its in
    assumption (right, of_sub)

pub record IsSubSilent (plan : Plan) (k s : ℕ) (net : Net) (joining : Joining) (frames : List (List ℕ)) : Type 0 where
  pub last : Joining
  pub silent : IsSilent plan k s net joining frames last

pub sub_silent : (plan : Plan) (k s : ℕ) (options : Options) (net : Net) (line : Line) (rs : List Recorded) → s < 4 → length line.subs ≡ 4
    → AreClear plan k options net line rs → IsSubSilent plan k s net (sub_at line.subs s).joining (sub_frames s rs)
sub_silent plan k s options net line [] few size clear = record { last = (sub_at line.subs s).joining; silent = refl }
sub_silent plan k s options net line (r ∷ rs) few size clear =
    let q : ℕ = sub_in r.bytes in
    let new : Sub = sub_of (port_at plan k r.bytes) (come_at plan k options net line r clear.0.at) line q in
    let later = sub_silent plan k s options net (line_with_it plan k options net line r clear.0.at) rs few
    (length-set line.subs q new ∙ size) (subst (λ l. AreClear plan k options net l rs) (after_clear plan k options net line r clear.0) clear.1) in
    elim (cases_eq q s) [
      | inl its ↦
          let after : (sub_at (slice_set line.subs q new) s).joining ≡ joining_after plan k r.bytes (sub_at line.subs s).joining =
          rw (← its) (ap (λ (x : Sub). x.joining) (sub_new_at line.subs q new (rw (its, size) few))) in
          rw (with_own (λ (r : Recorded). sub_in r.bytes) s r rs its) (record {
            last = later.last;
            silent = (quiet plan k s options net line r clear.0 its, rw after at later.silent);
          })
      | inr other ↦ rw (with_other (λ (r : Recorded). sub_in r.bytes) s r rs other)
          (subst (λ (x : Sub). IsSubSilent plan k s net x.joining (sub_frames s rs))
          (sub_other_at line.subs q s new (λ same. other (sym same)) (rw size few)) later)
    ]

-- where the last message is whole, a next one is to begin
pub ends_silent : (plan : Plan) (k s : ℕ) (net : Net) (joining : Joining) (frames : List (List ℕ)) (last : Joining)
    → IsSilent plan k s net joining frames last → (frames ≡ [] → next_of joining ≡ Some 0) → EndsWhole frames → next_of last ≡ Some 0
ends_silent plan k s net joining [] last silent between whole = ap next_of silent ∙ between refl
ends_silent plan k s net joining (f ∷ []) last silent between whole =
    ap next_of silent.1 ∙ (last_joined (fields_of f).piece _ (more_of f silent.0.admitted.profile.internet.flags ∙ whole)).0
ends_silent plan k s net joining (f ∷ (g ∷ fs)) last silent between whole =
    ends_silent plan k s net (joining_after plan k f joining) (g ∷ fs) last silent.1 (λ none. absurd (cc (none))) whole
