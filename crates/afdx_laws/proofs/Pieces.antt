-- The frames of a sub-VL on a network: the judge finds nothing wrong with the one that is due, and awaits the next one.
use Rattle.afdx_laws.proofs.JudgeNames.{layout_is_profile, All, All-contains, All-head, All-tail, Bool, Cutting, Head, IsAllowed, IsLink, IsPiece, IsPlan, IsPort, Joining, List, Net, None, Ok, Option, Options, Piece, Plan, PortPlan, Recorded, Sent, arith, blanked, checked, cut_whole, drop_at, false, fields_of, fragment_field, fragments, fragments_from, fragments_left, frame_in, frame_of, has_check, has_four_more, header_says, identification, if◌then◌else◌, inl, inr, judge_sub, left_first, left_none, length, length-append, length-frame, link_plan_at, max, names, nat_tests, new_sub, number_in, piece_at, place_of, refl, says, size_deviation, suc, sym, take_all, take_at, take_more, total_ok, true, unchecked, unnumbered, ℕ, [], ◌++◌, ◌+◌, ◌<◌, ◌∙◌, ◌∷◌, ◌≡◌, ◌≤◌, ◌⊎◌, IsRecordedAs}
use Rattle.afdx_laws.proofs.Message.{IsDue, IsGood, IsHeard, IsNext, IsTrue, IsTrueAt, first_found, good, its_port, joining_after, next_piece, piece_is, port_at, room_at, true_after, true_behind}
use Rattle.afdx_laws.proofs.ReadFrames.{Carries, carries, place_found, source_ok}

-- a message of which `start` bytes came
abbrev pub cut_at : Sent → ℕ → ℕ → Cutting
cut_at sent place start = record { port = sent.port; place = place; bytes = sent.bytes; start = start }

-- the fragments that are due of it, and of the messages behind it
abbrev pub due_from : Plan → ℕ → Net → Sent → (place start : ℕ) → List Sent → List (List ℕ)
due_from plan k net sent place start later = fragments_left plan.end_system (room_at plan k) net (cut_at sent place start)
    ++ fragments_from plan.end_system (room_at plan k) net (suc place) later

-- pieces of a message are due, and nothing that the judge knows of it is false
pub record IsOpen (plan : Plan) (k sub : ℕ) (net : Net) (joining : Joining) (left : List (List ℕ)) : Type 0 where
  pub sent : Sent
  pub place : ℕ
  pub start : ℕ
  pub later : List Sent
  pub due : IsDue plan k sub sent start
  pub known : IsTrueAt plan sub sent place start joining
  pub later_are : All (IsAllowed plan k sub) later
  pub left_is : left ≡ due_from plan k net sent place start later

-- these fragments are due
pub record IsAwaiting (plan : Plan) (k sub : ℕ) (net : Net) (joining : Joining) (left : List (List ℕ)) : Type 0 where
  pub how : (left ≡ []) ⊎ IsOpen plan k sub net joining left

-- The judge finds nothing wrong with a frame, and awaits what is left.
pub record IsClean (plan : Plan) (k sub : ℕ) (net : Net) (joining : Joining) (frame : List ℕ) (left : List (List ℕ)) : Type 0 where
  pub admitted : (options : Options) (packet : Recorded) → options.arinc ≡ false → IsRecordedAs (has_check options packet) frame packet.bytes
      → packet.original ≡ length packet.bytes → frame_in options packet ≡ Ok frame
  pub placed : place_of plan net frame ≡ Ok k
  pub sized : size_deviation (link_plan_at plan.links k) (length frame) ≡ None
  pub flags : fragment_field frame < 16384
  pub good : IsGood (room_at plan k) (port_at plan k frame) (fields_of frame) joining
  pub next : IsAwaiting plan k sub net (joining_after plan k frame joining) left

-- Between messages the fragments of the next ones are due.
between : (plan : Plan) (k sub : ℕ) (net : Net) (joining : Joining) (place : ℕ) (messages : List Sent)
    → All (IsAllowed plan k sub) messages → ((head : Head) → IsTrue (identification place sub) 0 head joining)
    → IsAwaiting plan k sub net joining (fragments_from plan.end_system (room_at plan k) net place messages)
between plan k sub net joining place [] allowed known = record { how = inl refl }
between plan k sub net joining place (sent ∷ later) allowed known = record {
  how = inr (record {
    sent = sent;
    place = place;
    start = 0;
    later = later;
    due = record {
      allowed = All-head (IsAllowed plan k sub) sent later allowed;
      inside = omega arith;
      units = refl;
      tight = λ some. absurd (omega arith);
    };
    known = known _;
    later_are = All-tail (IsAllowed plan k sub) sent later allowed;
    left_is = rw (cut_whole plan.end_system (room_at plan k) net place sent) refl;
  });
}

-- The fragment that is due comes first.
pub comes_first : (plan : Plan) (k sub : ℕ) (net : Net) (sent : Sent) (place start : ℕ) (later : List Sent) → 25 ≤ room_at plan k
    → IsDue plan k sub sent start → due_from plan k net sent place start later
    ≡ unnumbered plan.end_system sent.port sent.bytes place (piece_at (room_at plan k) (8 + length sent.bytes) start) net
    ∷ due_from plan k net sent place (start + (piece_at (room_at plan k) (8 + length sent.bytes) start).len) later
comes_first plan k sub net sent place start later least due = grind (arith, nat_tests, left_first)

-- After it the rest is due.
goes_on : (plan : Plan) (k sub : ℕ) (net : Net) (sent : Sent) (place start : ℕ) (later : List Sent) (joining : Joining) (piece : Piece)
    → IsNext (room_at plan k) (8 + length sent.bytes) start piece → IsDue plan k sub sent start → All (IsAllowed plan k sub) later
    → (piece.more ≡ true → IsTrueAt plan sub sent place (start + piece.len) joining)
    → (piece.more ≡ false → (head : Head) → IsTrue (identification (suc place) sub) 0 head joining)
    → IsAwaiting plan k sub net joining (due_from plan k net sent place (start + piece.len) later)
goes_on plan k sub net sent place start later joining piece next due are known behind = grind (arith, nat_tests, left_none, between)

-- a frame is read, with its check sequence or without
read_ok : (fcs told : Bool) (frame bytes : List ℕ) → IsRecordedAs fcs frame bytes → has_four_more frame ≡ false
    → (if fcs then checked bytes else (if told then Ok bytes else unchecked bytes)) ≡ Ok frame
unfolding checked unchecked
read_ok fcs told frame bytes is short = grind (arith, nat_tests, length-append, drop_at, take_at)

module _ (plan : Plan) (k sub : ℕ) (net : Net) (sent : Sent) (place start number : ℕ) (joining : Joining) (valid : IsPlan plan)
    (within : k < length plan.links) (on : names net (link_plan_at plan.links k).networks ≡ true)
    (due : IsDue plan k sub sent start) (known : IsTrueAt plan sub sent place start joining) where
  abbrev room : ℕ
  room = room_at plan k

  abbrev piece : Piece
  piece = piece_at room (8 + length sent.bytes) start

  abbrev frame : List ℕ
  frame = frame_of plan.end_system sent.port sent.bytes place piece net number

  abbrev port : Option PortPlan
  port = port_at plan k frame

  link_is : IsLink (link_plan_at plan.links k)
  link_is = valid.each_link k _ within

  port_is : IsPort sent.port
  port_is = All-contains IsPort plan.ports sent.port valid.each_port due.allowed.queued.port

  next : IsNext room (8 + length sent.bytes) start piece
  next = next_piece room (8 + length sent.bytes) start

  its_piece : IsPiece (length sent.bytes) piece
  its_piece = piece_is room (length sent.bytes) start piece next (omega (arith, link_is.lmax)) (omega (arith, link_is.lmax)) due.inside due.units

  size_is : length frame ≡ max 60 (35 + piece.len)
  size_is = length-frame plan.end_system sent.port sent.bytes place piece net number port_is its_piece.within

  sized : size_deviation (link_plan_at plan.links k) (length frame) ≡ None
  sized = let link = link_is.lmax in grind (arith, nat_tests, size_is, next)

  admitted : (options : Options) (packet : Recorded) → options.arinc ≡ false → IsRecordedAs (has_check options packet) frame packet.bytes
      → packet.original ≡ length packet.bytes → frame_in options packet ≡ Ok frame
  unfolding frame_in
  admitted options packet own recorded whole = grind (arith, nat_tests, says, port_is, its_piece, layout_is_profile, total_ok, size_is, read_ok)

  placed : place_of plan net frame ≡ Ok k
  placed =
      let source = source_ok plan.end_system sent.port sent.bytes place piece net number valid.end_system in
      let header = header_says plan.end_system sent.port sent.bytes place piece net number port_is its_piece.within in
      place_found plan k net frame valid within on source (header.link ∙ due.allowed.queued.over) header.interface

  carried : Carries plan.end_system sent.port sent.bytes place piece (fields_of frame)
  carried = carries plan.end_system sent.port sent.bytes place piece net number port_is due.allowed.queued.most its_piece

  of_sub : judge_sub (fields_of frame) ≡ sub
  of_sub = omega (arith, carried.ident, due.allowed.queued.its, port_is.sub)

  heard : IsHeard plan k sub sent place start joining piece (fields_of frame) port
  heard =
      let found = λ (first : start ≡ 0). first_found plan sent.port (link_plan_at plan.links k).id (fields_of frame) valid due.allowed.queued.port
      (carried.start ∙ next.start_is ∙ first) (sym due.allowed.queued.over) (of_sub ∙ sym due.allowed.queued.its)
      (its_port carried (next.start_is ∙ first)) in
      assumption (next, carried, found)

  clean : (later : List Sent) → All (IsAllowed plan k sub) later
      → IsClean plan k sub net joining frame (due_from plan k net sent place (start + piece.len) later)
  clean later are =
      let well = good heard (omega (arith, link_is.lmax)) in
      let next = goes_on plan k sub net sent place start later _ piece next due are (true_after heard) (true_behind heard) in
      let flags = (says plan.end_system sent.port sent.bytes place piece net number port_is due.allowed.queued.most its_piece).frame.internet.flags in
      assumption (admitted, placed, sized, flags, well, next)

-- a frame before and after its sequence number
numbered : (frame : List ℕ) → 60 ≤ length frame → blanked frame ++ number_in frame ∷ [] ≡ frame
numbered frame long = grind (arith, take_all, take_more)

-- Nothing is wrong with a frame whose fragment is due.
pub one_frame : (plan : Plan) (k sub : ℕ) (net : Net) (joining : Joining) (frame : List ℕ) (left : List (List ℕ)) → IsPlan plan
    → k < length plan.links → names net (link_plan_at plan.links k).networks ≡ true
    → sub < (link_plan_at plan.links k).sub_vls → 60 ≤ length frame
    → IsAwaiting plan k sub net joining (blanked frame ∷ left) → IsClean plan k sub net joining frame left
one_frame plan k sub net joining frame left valid inside named index long awaiting = elim awaiting.how [
  | inl none ↦ cc
  | inr o ↦
      let link : IsLink (link_plan_at plan.links k) = valid.each_link k _ inside in
      let first = comes_first plan k sub net o.sent o.place o.start o.later (omega (arith, link.lmax)) o.due in
      let here = clean plan k sub net o.sent o.place o.start (number_in frame) joining valid inside named o.due o.known o.later o.later_are in
      let front : unnumbered plan.end_system o.sent.port o.sent.bytes o.place (piece_at (room_at plan k) (8 + length o.sent.bytes) o.start) net
      ≡ blanked frame = cc in
      let back : due_from plan k net o.sent o.place (o.start + (piece_at (room_at plan k) (8 + length o.sent.bytes) o.start).len) o.later
      ≡ left = cc in
      rw (front, numbered frame long, back) at here
]

nothing_known : (ident start sub : ℕ) (head : Head) → IsTrue ident start head (new_sub true false sub).joining
nothing_known ident start sub head = record { next_is = tt; ident_is = tt; head_is = tt; alone = refl }

-- what isn't heard is due no longer
skips : (plan : Plan) (k sub : ℕ) (net : Net) (before left : List (List ℕ)) → 25 ≤ room_at plan k
    → IsAwaiting plan k sub net (new_sub true false sub).joining (before ++ left) → IsAwaiting plan k sub net (new_sub true false sub).joining left
skips plan k sub net [] left least awaiting = awaiting
skips plan k sub net (u ∷ before) left least awaiting = skips plan k sub net before left least (elim awaiting.how [
  | inl none ↦ cc
  | inr o ↦
      let same = o.left_is ∙ comes_first plan k sub net o.sent o.place o.start o.later least o.due in
      let back : due_from plan k net o.sent o.place (o.start + (piece_at (room_at plan k) (8 + length o.sent.bytes) o.start).len) o.later
      ≡ before ++ left = cc in
      rw back at (goes_on plan k sub net o.sent o.place o.start o.later (new_sub true false sub).joining _ (next_piece _ _ _) o.due o.later_are
      (λ more. nothing_known _ _ sub _) (λ last. nothing_known _ 0 sub))
])

-- All fragments of the accepted messages are due of a new judge, or those that are left if it began late.
pub awaits : (plan : Plan) (k sub : ℕ) (net : Net) (late : Bool) (accepted : List Sent) (before left : List (List ℕ)) → IsPlan plan
    → k < length plan.links → sub < (link_plan_at plan.links k).sub_vls → All (IsAllowed plan k sub) accepted
    → fragments plan.end_system (room_at plan k) net accepted ≡ before ++ left → (late ≡ false → before ≡ [])
    → IsAwaiting plan k sub net (new_sub late false sub).joining left
awaits plan k sub net true accepted before left valid inside index allowed is first =
    let link : IsLink (link_plan_at plan.links k) = valid.each_link k _ inside in
    skips plan k sub net before left (omega (arith, link.lmax)) (rw is at (between plan k sub net _ 0 accepted allowed (nothing_known _ 0 sub)))
awaits plan k sub net false accepted before left valid inside index allowed is first =
    let link : IsLink (link_plan_at plan.links k) = valid.each_link k _ inside in
    rw (is, first refl) at (between plan k sub net (new_sub false false sub).joining 0 accepted allowed
    (λ head. record { next_is = refl; ident_is = omega arith; head_is = tt; alone = refl }))
