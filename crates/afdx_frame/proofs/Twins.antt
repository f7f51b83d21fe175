-- Twins of any frame, and the fragments of a list of messages and of a cut.
use Rattle.afdx_frame.proofs.Names.{◌≡◌, ◌≢◌, ℕ, suc, ◌+◌, ◌%◌, ◌≤◌, List, [], ◌∷◌, length, map, refl, arith, slice_index, length-set, length-take, get_or-set_same, get_or-set_other, set-get_or, set-set, set_past, map-append, take-set-lt, identification, Net, interface_byte, link_header, unnumbered, word_at, link_in, sub_in, number_in, Sent, blanked, fragments_at, fragments_from, uncut, ◌-◌, ◌++◌, append_assoc, append-nil, Option, MatchOption, PortPlan, cutting, pieces_from, pieces_left, Cutting, TakesFirst, SameMessage, fragments_left, take-append_seam, frame_of, map-map, twin_of, length-append, Buffered}

-- A word without that byte is the same in a twin.
pub twin_word : (net : Net) (frame : List ℕ) (k : ℕ) → k ≢ 11 → k + 1 ≢ 11 → word_at (twin_of net frame) k ≡ word_at frame k
twin_word net frame k first second = grind (arith, twin_of, get_or-set_other)

pub twin_link : (net : Net) (frame : List ℕ) → link_in (twin_of net frame) ≡ link_in frame
twin_link net frame = grind (arith, twin_word)

pub twin_sub : (net : Net) (frame : List ℕ) → sub_in (twin_of net frame) ≡ sub_in frame
twin_sub net frame = grind (arith, twin_word)

pub length-twin : (net : Net) (frame : List ℕ) → length (twin_of net frame) ≡ length frame
length-twin net frame = length-set frame 11 (interface_byte net)

pub twin_number : (net : Net) (frame : List ℕ) → 60 ≤ length frame → number_in (twin_of net frame) ≡ number_in frame
twin_number net frame long = grind (arith, twin_of, length-twin, get_or-set_other)

pub twin_interface : (net : Net) (frame : List ℕ) → 60 ≤ length frame → slice_index (twin_of net frame) 11 ≡ interface_byte net
twin_interface net frame long = grind (arith, get_or-set_same)

-- A frame with a network's identifier is its own twin for that network.
pub twin_same : (net : Net) (frame : List ℕ) → slice_index frame 11 ≡ interface_byte net → twin_of net frame ≡ frame
twin_same net frame is = grind (arith, set-get_or)

pub twin_twice : (net other : Net) (frame : List ℕ) → twin_of net (twin_of other frame) ≡ twin_of net frame
twin_twice net other frame = grind (arith, set-set)

pub twin_blanked : (net : Net) (frame : List ℕ) → blanked (twin_of net frame) ≡ twin_of net (blanked frame)
twin_blanked net frame = grind (arith, length-twin, take-set-lt, set_past, length-take)

-- The twins of a message's fragments are its fragments for the other network.
twin_message : (end_system room : ℕ) (place : ℕ) (sent : Sent) (net other : Net)
    → map (twin_of net) (fragments_at end_system room other place sent) ≡ fragments_at end_system room net place sent
unfolding fragments_at unnumbered link_header
twin_message end_system room place sent net other = simp map-map

pub twin_fragments : (end_system room : ℕ) (net other : Net) (place : ℕ) (messages : List Sent)
    → map (twin_of net) (fragments_from end_system room other place messages) ≡ fragments_from end_system room net place messages
twin_fragments end_system room net other place [] = refl
twin_fragments end_system room net other place (sent ∷ later) =
    rw (map-append, twin_message end_system room place sent net other, twin_fragments end_system room net other (suc place) later) refl

-- The identification repeats after 16,384 places, so a fragment depends on the place modulo 16,384.
ident_again : (place sub : ℕ) → identification (place % 16384) sub ≡ identification place sub
ident_again place sub = omega arith

pub fragments_again : (end_system room : ℕ) (net : Net) (place : ℕ) (sent : Sent)
    → fragments_at end_system room net (place % 16384) sent ≡ fragments_at end_system room net place sent
unfolding fragments_at unnumbered
fragments_again end_system room net place sent = simp (ident_again place sent.port.sub)

-- One message more appends its fragments.
pub fragments_more : (messages : List Sent) (end_system room : ℕ) (net : Net) (place : ℕ) (sent : Sent)
    → fragments_from end_system room net place (messages ++ sent ∷ [])
    ≡ fragments_from end_system room net place messages
    ++ fragments_at end_system room net (place + length messages) sent
fragments_more [] end_system room net place sent = grind (arith, append-nil)
fragments_more (first ∷ later) end_system room net place sent =
    grind (arith, fragments_more later end_system room net (suc place) sent, append_assoc)

-- All pieces are left of a cut that has given none.
pub pieces_whole : (room : ℕ) (port : PortPlan) (place : ℕ) (bytes : List ℕ)
    → pieces_left room (uncut port place bytes) ≡ pieces_from 0 (cutting room (8 + length bytes))
unfolding pieces_left
pieces_whole room port place bytes = grind arith

-- All fragments are left of a cut that has given none.
pub cut_whole : (end_system room : ℕ) (net : Net) (place : ℕ) (sent : Sent)
    → fragments_left end_system room net (uncut sent.port place sent.bytes) ≡ fragments_at end_system room net place sent
unfolding fragments_at pieces_left
cut_whole end_system room net place sent = grind arith

-- A frame without its sequence number.
blanked_push : (front : List ℕ) (number : ℕ) → blanked (front ++ number ∷ []) ≡ front
blanked_push front number =
    let size : length (front ++ number ∷ []) - 1 ≡ length front = omega (arith, length-append front (number ∷ [])) in
    grind (arith, take-append_seam)

-- A step of a cut, stated by the fragments that are left.
pub step_fragments : (end_system room : ℕ) (net : Net) (number : ℕ) (old new : Cutting) (result : Option Buffered)
    → TakesFirst (λ piece frame. frame.items ≡ frame_of end_system old.port old.bytes old.place piece net number)
    (pieces_left room old) result (pieces_left room new)
    → SameMessage old new
    → MatchOption result (fragments_left end_system room net old ≡ [])
    (λ frame. fragments_left end_system room net old ≡ blanked frame.items ∷ fragments_left end_system room net new)
step_fragments end_system room net number old new result takes same = grind (arith, blanked_push)
