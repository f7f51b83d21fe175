-- Each link of a plan keeps its gap and its greatest frame, by what was transmitted legally: no fragment is greater.
use Rattle.afdx_laws.proofs.Names.{ℕ, suc, ◌+◌, ◌≤◌, inl, inr, List, [], ◌∷◌, length, map, get_or, arith, ◌≡◌, ◌<◌, Bool, true, nat_eq, refl, All, filter, cases_Bool, eq-eqb, length-append, length-take, All-cons, All-append, All-filter, All-from_recursion, All-head, All-map, All-tail, filter_passes, Plan, IsPlan, link_plan_at, IsPort, room_of, Net, Piece, cutting, pieces_from, Sent, fragments_from, blanked, unnumbered, link_in, sub_in, IsPiece, length-frame, Entry, link_stream, unnumbered_fragments, Accepted, IsKnown, AreKnown, IsLegalOn, IsQueued, known_all, IsLong, IsSent, IsUpTo, id_at, LegalPasses, fragments_at}
use Rattle.afdx_laws.proofs.ListLemmas.{all_front}
use Rattle.afdx_laws.proofs.Reading.{cutting_lies, from_start}
use Rattle.afdx_laws.proofs.LegalLinks.{link_is}
use Rattle.afdx_laws.proofs.Credit.{stream_passes_holds}

-- a frame without its number is short enough: the number and the check sequence take five bytes
abbrev pub IsShort : ℕ → List ℕ → Type 0
IsShort lmax frame = length frame + 5 ≤ lmax

short_piece : (end_system lmax place : ℕ) (sent : Sent) (piece : Piece) (net : Net) → 64 ≤ lmax → IsPort sent.port
    → IsPiece (length sent.bytes) piece → piece.len ≤ room_of lmax
    → IsShort lmax (unnumbered end_system sent.port sent.bytes place piece net)
short_piece end_system lmax place sent piece net least port is fits = grind (
  arith,
  length-frame end_system sent.port sent.bytes place piece net 0 port is.within,
  length-append (unnumbered end_system sent.port sent.bytes place piece net) (0 ∷ []),
)

short_message : (end_system lmax place : ℕ) (sent : Sent) (net : Net) → 64 ≤ lmax → lmax ≤ 1518 → IsPort sent.port
    → All (IsShort lmax) (fragments_at end_system (room_of lmax) net place sent)
unfolding fragments_at
short_message end_system lmax place sent net least greatest port =
    let size : ℕ = length sent.bytes in
    let pieces : List Piece = pieces_from 0 (cutting (room_of lmax) (8 + size)) in
    All-map (IsShort lmax) (λ piece. unnumbered end_system sent.port sent.bytes place piece net) pieces
    (grind (arith, short_piece, All-from_recursion, from_start, cutting_lies))

short_messages : (accepted : List Sent) (end_system lmax sub place : ℕ) (net : Net) → 64 ≤ lmax → lmax ≤ 1518
    → All (IsSent sub) accepted → All (IsShort lmax) (fragments_from end_system (room_of lmax) net place accepted)
short_messages [] end_system lmax sub place net least greatest sent = grind arith
short_messages (s ∷ later) end_system lmax sub place net least greatest sent =
    All-append (IsShort lmax) (fragments_at end_system (room_of lmax) net place s)
    (fragments_from end_system (room_of lmax) net (suc place) later)
    (short_message end_system lmax place s net least greatest (sent 0 s (omega arith)).port)
    (short_messages later end_system lmax sub (suc place) net least greatest (λ k d h. sent (suc k) d (omega arith)))

-- an entry of one of the sub-VLs, with a frame that has all fields
pub record IsOfSubs (subs : ℕ) (e : Entry) : Type 0 where
  pub long : IsLong e.frame
  pub of_sub : sub_in e.frame < subs

known_within : (plan : Plan) (net : Net) (k : ℕ) (e : Entry) → IsPlan plan → k < length plan.links
    → IsKnown plan.links net e.frame → nat_eq (link_in e.frame) (id_at plan k) ≡ true → IsOfSubs (link_plan_at plan.links k).sub_vls e
known_within plan net k e valid inside known on = grind arith

pub stream_within : (plan : Plan) (net : Net) (k : ℕ) (es : List Entry) → IsPlan plan → k < length plan.links
    → AreKnown plan.links net es → All (IsOfSubs (link_plan_at plan.links k).sub_vls) (link_stream (id_at plan k) es)
stream_within plan net k es valid inside known i d h =
    let on : Entry → Bool = λ e. nat_eq (link_in e.frame) (id_at plan k) in
    known_within plan net k (get_or (link_stream (id_at plan k) es) i d) valid inside
    (All-filter on (λ (e : Entry). IsKnown plan.links net e.frame) es (known_all plan.links net es known) i d h)
    (filter_passes on es i d h)

-- what holds of the images of the elements that pass a test
of_passed : {X Y : Type 0} (P : Y → Type 0) (f : X → Y) (test : X → Bool) (xs : List X) → All P (map f (filter test xs))
    → All (λ x. test x ≡ true → P (f x)) xs
of_passed P f test [] all = grind arith
of_passed P f test (x ∷ xs) all = elim (cases_Bool (test x)) [
  | inl is ↦
      let both : All P (f x ∷ map f (filter test xs)) = rw is at all in
      All-cons (λ y. test y ≡ true → P (f y)) x xs (λ yes. All-head P (f x) (map f (filter test xs)) both)
      (of_passed P f test xs (All-tail P (f x) (map f (filter test xs)) both))
  | inr isnt ↦ grind (arith, of_passed P f test xs (rw isnt at all))
]

short_told : (plan : Plan) (accepted : Accepted) (net : Net) (handed : List Entry) (k sub : ℕ) → IsPlan plan
    → IsLegalOn plan accepted net handed → k < length plan.links → sub < (link_plan_at plan.links k).sub_vls
    → All (IsQueued plan k sub) (accepted k sub) → All (IsShort (link_plan_at plan.links k).lmax) (unnumbered_fragments (id_at plan k) sub handed)
short_told plan accepted net handed k sub valid legal inside index allowed =
    let lmax = (link_is plan k valid inside).lmax in
    let first = legal.prefixes k sub inside index in
    all_front (IsShort (link_plan_at plan.links k).lmax) (unnumbered_fragments (id_at plan k) sub handed) first.0 _ first.1
    (short_messages (accepted k sub) plan.end_system (link_plan_at plan.links k).lmax sub 0 net lmax.0 lmax.1
    (grind arith))

pub legal_passes_holds : LegalPasses
legal_passes_holds plan accepted net handed valid legal k inside allowed charge jitter around passages way =
    let stream : List Entry = link_stream (id_at plan k) handed in
    let lmax : ℕ = (link_plan_at plan.links k).lmax in
    let small : All (IsUpTo (link_plan_at plan.links k).lmax) (link_stream (id_at plan k) handed) = λ i d h.
    let e : Entry = get_or stream i d in
    let within = stream_within plan net k handed valid inside legal.known i d h in
    let sub : ℕ = sub_in e.frame in
    let mine = of_passed (IsShort lmax) (λ (x : Entry). blanked x.frame)
    (λ (x : Entry). nat_eq (sub_in x.frame) sub) stream
    (short_told plan accepted net handed k sub valid legal inside within.of_sub (allowed sub within.of_sub))
    i d h (eq-eqb sub sub refl) in
    grind (arith, length-take) in
    grind (arith, stream_passes_holds)
