-- What is read of a frame is what went in.
use Rattle.afdx_laws.proofs.Names.{◌≡◌, ℕ, zero, suc, inl, inr, ◌+◌, ◌-◌, ◌≤◌, List, [], ◌∷◌, ◌++◌, length, map, drop, get_or, arith, All, AllByRecursion, cases_lt, All-from_recursion, map-append, length-append, drop_at, take_more, take_all, IsPort, identification, Net, Piece, step_of, cut_by, pieces_from, udp_header, unnumbered, Sent, blanked, fragments_from, IsPiece, says, total_ok, payload_says, Fragment, fragment_of, fragments_of, sub_in, those_with, with_map, of_sub, keyed, sent_from, IsLong, fragment_in, IsSent, cutting, datagram, fragments_at, pieces_are, length-udp_header}
use Rattle.afdx_laws.proofs.ListLemmas.{cons_parts, cons_same}

-- the frame of a piece carries its fragment
read_piece : (end_system : ℕ) (sent : Sent) (net : Net) (place : ℕ) (piece : Piece) (number : ℕ) → IsPort sent.port
    → length sent.bytes ≤ 8192 → IsPiece (length sent.bytes) piece
    → fragment_in (unnumbered end_system sent.port sent.bytes place piece net ++ number ∷ [])
    ≡ (identification place sent.port.sub, fragment_of (datagram end_system sent.port sent.bytes) piece)
read_piece end_system sent net place piece number port most is =
    let s = says end_system sent.port sent.bytes place piece net number port most is in
    grind (arith, total_ok, payload_says)

-- the fragment of an unnumbered frame, whatever its number is
abbrev pub read_any : List ℕ → ℕ × Fragment
read_any u = fragment_in (u ++ 0 ∷ [])

abbrev pub IsRead : List ℕ → Type 0
IsRead u = (number : ℕ) → fragment_in (u ++ number ∷ []) ≡ read_any u

pub record AreRead (us : List (List ℕ)) (fs : List (ℕ × Fragment)) : Type 0 where
  pub each : AllByRecursion IsRead us
  pub are : map read_any us ≡ fs

reads_pieces : (ps : List Piece) (end_system : ℕ) (sent : Sent) (net : Net) (place : ℕ) → IsPort sent.port
    → length sent.bytes ≤ 8192 → AllByRecursion (IsPiece (length sent.bytes)) ps
    → AreRead (map (λ piece. unnumbered end_system sent.port sent.bytes place piece net) ps)
    (keyed (identification place sent.port.sub)
    (map (fragment_of (datagram end_system sent.port sent.bytes)) ps))
reads_pieces [] end_system sent net place port most are = grind arith
reads_pieces (p ∷ ps) end_system sent net place port most are =
    grind (arith, read_piece, cons_same, reads_pieces ps end_system sent net place port most are.1)

pub length-datagram : (end_system : ℕ) (sent : Sent) → length
    (datagram end_system sent.port sent.bytes) ≡ 8 + length sent.bytes
unfolding datagram
length-datagram end_system sent = grind (arith, length-append, length-udp_header)

pub drop-datagram : (end_system : ℕ) (sent : Sent) → drop 8 (datagram end_system sent.port sent.bytes) ≡ sent.bytes
unfolding datagram
drop-datagram end_system sent = drop_at (udp_header end_system sent.port sent.bytes) sent.bytes 8
    (grind (arith, length-udp_header))

pub from_start : (room size : ℕ) → 25 ≤ room → room ≤ 1479 → AllByRecursion (IsPiece size) (pieces_from 0 (cutting room (8 + size)))
from_start room size least greatest =
    let whole : 8 + size - 0 ≡ 8 + size = omega arith in
    grind (arith, cutting, pieces_are)

abbrev pub IsCut : (room end : ℕ) → Piece → Type 0
IsCut room end piece = (piece.len ≤ room) × (piece.start + piece.len ≤ end)

cut_by_lies : (turns room n start end : ℕ) → start + n ≤ end → AllByRecursion (IsCut room end) (pieces_from start (cut_by turns room n))
cut_by_lies zero room n start end inside = tt
cut_by_lies (suc turns) room n start end inside = elim (cases_lt room n) [
  | inl over ↦
      let rest = cut_by_lies turns room (n - step_of room) (start + step_of room) end (omega arith) in
      grind arith
  | inr fits ↦ grind arith
]

pub cutting_lies : (room n : ℕ) → All (IsCut room n) (pieces_from 0 (cutting room n))
unfolding cutting
cutting_lies room n = grind (arith, All-from_recursion, cutting, cut_by_lies)

reads_message : (end_system room : ℕ) (sent : Sent) (net : Net) (place : ℕ) → 25 ≤ room → room ≤ 1479
    → IsPort sent.port → length sent.bytes ≤ 8192 → AreRead (fragments_at end_system room net place sent)
    (keyed (identification place sent.port.sub) (fragments_of room (datagram end_system sent.port sent.bytes)))
unfolding fragments_at
reads_message end_system room sent net place least greatest port most = grind (arith, length-datagram, reads_pieces, from_start)

all_append : {X : Type 0} (P : X → Type 0) (xs ys : List X) → AllByRecursion P xs → AllByRecursion P ys → AllByRecursion P (xs ++ ys)
all_append P [] ys a b = b
all_append P (x ∷ xs) ys a b = (a.0, all_append P xs ys a.1 b)

pub reads_all : (accepted : List Sent) (end_system room sub place : ℕ) (net : Net) → 25 ≤ room → room ≤ 1479 → All (IsSent sub) accepted
    → AreRead (fragments_from end_system room net place accepted)
    (sent_from room sub place (map (λ (sent : Sent). datagram end_system sent.port sent.bytes) accepted))
reads_all [] end_system room sub place net least greatest are = grind arith
reads_all (sent ∷ later) end_system room sub place net least greatest are =
    let one = are 0 sent (omega arith) in
    let first = reads_message end_system room sent net place least greatest one.port one.most in
    let rest = reads_all later end_system room sub (suc place) net least greatest
    (λ k d h. are (suc k) d (omega arith)) in
    grind (arith, all_append, map-append)

-- frames that are the first of these fragments are read as the first of these
pub reads_frames : (frames us rest : List (List ℕ)) → AllByRecursion IsRead us → All IsLong frames → us ≡ map blanked frames ++ rest
    → map read_any us ≡ map fragment_in frames ++ map read_any rest
reads_frames [] us rest each long is = cc
reads_frames (f ∷ frames) [] rest each long is = cc
reads_frames (f ∷ frames) (u ∷ us) rest each long is = grind (
  arith,
  take_all,
  take_more,
  long 0 f (omega arith),
  each.0 (get_or f (length f - 1) 0),
  reads_frames frames us rest each.1 (λ k d h. long (suc k) d (omega arith)) (cons_parts is).1,
)

pub of_sub_is : (sub : ℕ) (frames : List (List ℕ)) → of_sub sub (map fragment_in frames) ≡ map fragment_in (those_with sub_in sub frames)
of_sub_is sub frames = grind (arith, with_map, sub_in)
