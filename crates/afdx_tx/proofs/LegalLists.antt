-- From the log to the frames of the two networks.
use Rattle.afdx_tx.proofs.OwnStreams.{both_twins}
use Rattle.afdx_tx.proofs.Names.{ℕ, ◌≡◌, ◌+◌, ◌<◌, ◌≤◌, List, [], ◌∷◌, ◌++◌, Bool, length, map, eqb, arith, refl, ap, ◌∙◌, sym, Option, Some, None, map-append, append_assoc, All, All-weaker, All-filter, All-tail, LinkPlan, Plan, IsPlan, link_plan_at, bag_micros, room_of, Net, A, B, link_in, sub_in, Sent, blanked, fragments, twin_link, twin_sub, twin_number, twin_interface, twin_blanked, twin_fragments, length-twin, Entry, Logged, entries_of, side, sent_to, Lines, log, Keeps, IsMirrored, Stamp, link_stream, sub_stream, told, unnumbered_fragments, stamp_of, entry_number, IsNumbered, IsSpaced, IsPrefixOf, Accepted, IsKnown, AreKnown, IsLegalOn, IsLegal, with_append, with_map, known_all, AreCarried, twin_of}
use Rattle.afdx_tx.proofs.HandedFronts.{IsFront, log_parts, front_of, unnamed_stream}

-- an entry whose frame is long enough for all fields that are read
abbrev IsLongEntry : Entry → Type 0
IsLongEntry e = 60 ≤ length e.frame

-- The fragments of a stream, turned to a network.
told_side : (net : Net) (T : List Entry) → told (map (side net) T) ≡ map (twin_of net) (told T)
told_side net [] = refl
told_side net (e ∷ es) = rw (twin_blanked net e.frame, told_side net es) refl

-- A prefix of a numbered stream, turned to a network, is numbered.
numbered_side : (net : Net) (i : ℕ) (xs ys : List Entry) → All IsLongEntry (xs ++ ys) → IsNumbered entry_number i (xs ++ ys)
    → IsNumbered entry_number i (map (side net) xs)
numbered_side net i [] ys long h = tt
numbered_side net i (x ∷ xs) ys long h = (
  twin_number net x.frame (long 0 x (omega arith)) ∙ h.0,
  numbered_side net (i + 1) xs ys (All-tail IsLongEntry x (xs ++ ys) long) h.1,
)

-- A prefix of a spaced stream, turned to a network, is spaced.
spaced_side : (net : Net) (gap : ℕ) (before : Option Stamp) (xs ys : List Entry)
    → IsSpaced gap before (xs ++ ys) → IsSpaced gap before (map (side net) xs)
spaced_side net gap before [] ys h = tt
spaced_side net gap before (x ∷ xs) ys h = (
  h.0,
  rw (twin_sub net x.frame) (spaced_side net gap (Some (stamp_of x)) xs ys h.1),
)

-- A network's entries of a known log are known there.
known_sent : (links : List LinkPlan) (net : Net) (ls : List Logged) (rest : List Entry)
    → AreKnown links A (entries_of ls ++ rest) → AreKnown links net (sent_to net ls)
known_sent links net [] rest h = tt
known_sent links net (l ∷ ls) rest h =
    let known = known_sent links net ls rest h.1 in
    grind (arith, length-twin, twin_link, twin_sub, twin_interface)

-- the log is legal
pub record IsLogLegal (plan : Plan) (accepted : Accepted) (H : List Entry) : Type 0 where
  pub known : AreKnown plan.links A H
  pub prefixes : (k s : ℕ) → k < length plan.links → s < (link_plan_at plan.links k).sub_vls
      → IsPrefixOf (unnumbered_fragments (link_plan_at plan.links k).id.0 s H)
      (fragments plan.end_system (room_of (link_plan_at plan.links k).lmax) A (accepted k s))
  pub numbered : (k : ℕ) → k < length plan.links → IsNumbered entry_number 0 (link_stream (link_plan_at plan.links k).id.0 H)
  pub spaced : (k : ℕ) → k < length plan.links
      → IsSpaced (bag_micros (link_plan_at plan.links k).bag) None (link_stream (link_plan_at plan.links k).id.0 H)

-- A prefix of a stream, turned to a network.
prefix_side : (net : Net) (s end_system room : ℕ) (messages : List Sent) (S D : List Entry) → (f : IsFront net S D)
    → IsPrefixOf (told (sub_stream s S)) (fragments end_system room A messages)
    → IsPrefixOf (told (sub_stream s D)) (fragments end_system room net messages)
prefix_side net s end_system room messages S D f p =
    let T = sub_stream s f.front in
    let U = sub_stream s f.behind in
    let cut = ap (sub_stream s) f.is ∙ with_append (λ (e : Entry). sub_in e.frame) s f.front f.behind in
    let whole : told T ++ (told U ++ p.0) ≡ fragments end_system room A messages = grind (arith, append_assoc, told, map-append, blanked) in
    let mine = ap (λ x. told (sub_stream s x)) f.got ∙ ap told (grind (arith, with_map, sub_in, side, twin_sub)) ∙ told_side net T in (
      map (twin_of net) (told U ++ p.0),
      ap (λ x. x ++ map (twin_of net) (told U ++ p.0)) mine
          ∙ sym (grind (arith, map-append))
          ∙ ap (map (twin_of net)) whole
          ∙ twin_fragments end_system room net A 0 messages,
    )

-- The frames of a network are legal if the log is.
legal_keeps : (plan : Plan) (accepted : Accepted) (net : Net) (stands : Bool) (handed : List Entry) (lines : Lines)
    → (k : Keeps net stands handed lines.logged) → AreCarried plan.links lines.logged → IsLogLegal plan accepted (log lines)
    → IsLegalOn plan accepted net handed
legal_keeps plan accepted net stands handed lines keeps carried l =
    let fronts = λ (k : ℕ) (lt : k < length plan.links). front_of net stands handed lines
    (link_plan_at plan.links k).id.0 (link_plan_at plan.links k).networks keeps (carried k lt) in
    record {
      known = rw keeps.got (known_sent plan.links net keeps.seen (entries_of keeps.missed)
          (grind (arith, log_parts)));
      carried = λ k lt isnt. unnamed_stream net stands handed lines (link_plan_at plan.links k).id.0
          (link_plan_at plan.links k).networks keeps (carried k lt) isnt;
      prefixes = λ k s klt slt. prefix_side net s plan.end_system (room_of (link_plan_at plan.links k).lmax) (accepted k s)
          (link_stream (link_plan_at plan.links k).id.0 (log lines)) (link_stream (link_plan_at plan.links k).id.0 handed)
          (fronts k klt) (l.prefixes k s klt slt);
      numbered = λ k klt.
          let vl = (link_plan_at plan.links k).id.0 in
          let f = fronts k klt in
          rw f.got (numbered_side net 0 f.front f.behind
          (rw f.is at (All-filter (λ e. eqb (link_in e.frame) vl) IsLongEntry (log lines)
          (All-weaker (λ (e : Entry). IsKnown plan.links A e.frame) IsLongEntry (λ e is. is.size) (log lines) (known_all plan.links A (log lines) l.known)))) (rw f.is at (l.numbered k klt)));
      spaced = grind (arith, spaced_side);
    }

-- The frames of both networks are legal if the log is.
pub legal_of : (plan : Plan) (accepted : Accepted) (lines : Lines) → IsPlan plan → IsMirrored lines
    → AreCarried plan.links lines.logged → IsLogLegal plan accepted (log lines) → IsLegal plan accepted lines.a lines.b
legal_of plan accepted lines valid m carried l =
    record {
      on_a = legal_keeps plan accepted A lines.a_stands lines.a lines m.first carried l;
      on_b = legal_keeps plan accepted B lines.b_stands lines.b lines m.second carried l;
      twins = grind (arith, both_twins);
    }
