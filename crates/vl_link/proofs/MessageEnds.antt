-- If a sub-VL's stream is the fragments of whole messages, no message of it is begun.
use Rattle.vl_link.proofs.Names.{ℕ, zero, suc, ◌≡◌, ◌+◌, ◌-◌, ◌<◌, ◌≤◌, List, [], ◌∷◌, ◌++◌, Bool, true, false, cond, eqb, length, map, arith, refl, All, get_or-take, length-take, All-head, All-tail, lt-leb, step_of, PortPlan, sub_in, cut_by, pieces_from, Sent, blanked, fragments_from, step_le, Entry, sub_stream, told, more_in, none_begun, begun_after, begun_by, unnumbered, link_header, internet_header, header_front, cutting, fragments_at, nat_tests, Net, Piece}

-- a message whose pieces start within the range of the offset
abbrev pub IsShort : Sent → Type 0
IsShort sent = length sent.bytes ≤ 8192

-- frames that are long enough for the flag, of which the last says that no more fragments follow;
-- `more` is the flag before them
abbrev Ends : Bool → List (List ℕ) → Type 0
Ends more [] = more ≡ false
Ends more (frame ∷ frames) = (22 ≤ length frame) × Ends (more_in frame) frames

ends_append : (more : Bool) (xs ys : List (List ℕ)) → Ends more xs → Ends false ys → Ends more (xs ++ ys)
ends_append more [] ys e f = rw e f
ends_append more (x ∷ xs) ys e f = (e.0, ends_append (more_in x) xs ys e.1 f)

-- The front of a frame is long enough for the flag.
piece_long : (end_system : ℕ) (port : PortPlan) (message : List ℕ) (place : ℕ) (piece : Piece) (net : Net)
    → 22 ≤ length (unnumbered end_system port message place piece net)
unfolding unnumbered link_header internet_header header_front
piece_long end_system port message place piece net = omega arith

-- The last piece says that no more follow.
last_piece : (end_system : ℕ) (sent : Sent) (place : ℕ) (net : Net) (start len : ℕ) → start < 65536
    → more_in (unnumbered end_system sent.port sent.bytes place (record { start = start; len = len; more = false }) net) ≡ false
unfolding unnumbered link_header internet_header header_front
last_piece end_system sent place net start len h = lt-leb 8192 _ (omega arith)

-- the total length of pieces
abbrev total : List ℕ → ℕ
total [] = 0
total (len ∷ rest) = len + total rest

-- A cutting is at most as long as the datagram.
cut_total : (turns room n : ℕ) → total (cut_by turns room n) ≤ n
cut_total zero room n = omega arith
cut_total (suc turns) room n = grind (arith, nat_tests, cut_total turns room (n - step_of room), step_le room)

pieces_end : (end_system : ℕ) (sent : Sent) (place : ℕ) (net : Net) (start len : ℕ) (rest : List ℕ)
    → start + (len + total rest) < 65536
    → Ends false (map (λ piece. unnumbered end_system sent.port sent.bytes place piece net) (pieces_from start (len ∷ rest)))
pieces_end end_system sent place net start len [] h = grind (arith, piece_long, last_piece)
pieces_end end_system sent place net start len (next ∷ rest) h = (
  grind (arith, piece_long),
  pieces_end end_system sent place net (start + len) next rest (omega arith),
)

-- The fragments of a message end it.
message_end : (end_system room : ℕ) (net : Net) (place : ℕ) (sent : Sent) → IsShort sent
    → Ends false (fragments_at end_system room net place sent)
unfolding fragments_at cutting
message_end end_system room net place sent short =
    one (cut_by (8 + length sent.bytes) room (8 + length sent.bytes)) (cut_total (8 + length sent.bytes) room _)
  where
    one : (lengths : List ℕ) → total lengths ≤ 8 + length sent.bytes
        → Ends false (map (λ piece. unnumbered end_system sent.port sent.bytes place piece net) (pieces_from 0 lengths))
    one [] h = refl
    one (len ∷ rest) h = pieces_end end_system sent place net 0 len rest (omega arith)

-- The fragments of a list of messages end the last one.
fragments_end : (end_system room : ℕ) (net : Net) (place : ℕ) (messages : List Sent) → All IsShort messages
    → Ends false (fragments_from end_system room net place messages)
fragments_end end_system room net place [] short = refl
fragments_end end_system room net place (sent ∷ later) short =
    ends_append false (fragments_at end_system room net place sent) _
    (message_end end_system room net place sent (All-head IsShort sent later short))
    (fragments_end end_system room net (suc place) later (All-tail IsShort sent later short))

-- A frame without its sequence number has the same flag.
more_blanked : (frame : List ℕ) → 22 ≤ length (blanked frame) → more_in (blanked frame) ≡ more_in frame
more_blanked frame long = grind (arith, length-take, get_or-take)

-- No message is begun if the frames of the sub-VL end one.
ended : (begun : ℕ → Bool) (S : List Entry) (s : ℕ) → Ends (begun s) (told (sub_stream s S)) → begun_by begun S s ≡ false
ended begun [] s h = h
ended begun (e ∷ es) s h = ended (begun_after begun e) es s (one (eqb (sub_in e.frame) s) h)
  where
    one : (t : Bool) → Ends (begun s) (told (cond t (e ∷ sub_stream s es) (sub_stream s es)))
        → Ends (cond t (more_in e.frame) (begun s)) (told (sub_stream s es))
    one true h = grind (arith, more_blanked)
    one false h = h

-- No message is begun if the stream is the fragments of whole messages.
pub not_begun : (end_system room : ℕ) (net : Net) (S : List Entry) (s : ℕ) (messages : List Sent) → All IsShort messages
    → fragments_from end_system room net 0 messages ≡ told (sub_stream s S) → begun_by none_begun S s ≡ false
not_begun end_system room net S s messages short e = grind (arith, ended, fragments_end)
