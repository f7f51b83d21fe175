-- What was written is read back.
use Rattle.capture.proofs.Names.{A, All, All-head, All-tail, B, Captured, Content, Entry, Fits, List, Ok, Progress, ReadsBack, Recorded, Some, Whole, ap, append_assoc, arith, at_start, block_content, block_size, body_of, codes, content, content_of, drop_all, first_option, half, header_blocks, in_order, interface_block, interface_content, interface_of, length, map, moved, next, no_packet, packet_block, packet_blocks, packet_body, packet_for, packets_on, read_capture, read_from, read_within, refl, section_block, section_content, section_unit, size_of, sym, unit_of, with_option, with_options, with_packet, word, [], ℕ, ◌++◌, ◌+◌, ◌∙◌, ◌∷◌, ◌≡◌}
use Rattle.capture.proofs.Orders.{Merges, none, next_a, next_b, order_merges}
use Rattle.capture.proofs.Packets.{length-packet_body}
use Rattle.capture.proofs.Steps.{steps_on}
use Rattle.capture.proofs.Written.{in_section, both, interface_for, length-block, block_next, packet_content}

-- ---- the frames of a network

-- a packet as it is read
abbrev packet_of : Captured → Recorded
packet_of c = packet_for c.net c.entry

-- the packets of network A are its frames, and those of network B its
both_are : {a b : List Entry} {cs : List Captured} → Merges a b cs
    → (packets_on A (map packet_of cs) ≡ map (packet_for A) a) × (packets_on B (map packet_of cs) ≡ map (packet_for B) b)
both_are none = (refl, refl)
both_are (next_a {e} before m) = (ap (λ (l : List Recorded). packet_for A e ∷ l) (both_are m).0, (both_are m).1)
both_are (next_b {e} before m) = ((both_are m).0, ap (λ (l : List Recorded). packet_for B e ∷ l) (both_are m).1)

-- frames that fit
abbrev AllFit : List Captured → Type 0
AllFit [] = Unit {0}
AllFit (c ∷ cs) = Fits c.entry × AllFit cs

all_fit : {a b : List Entry} {cs : List Captured} → Merges a b cs → All Fits a → All Fits b → AllFit cs
all_fit none h k = tt
all_fit (next_a {e} {a} before m) h k = (All-head Fits e a h, all_fit m (All-tail Fits e a h) k)
all_fit (next_b {e} {a} {b} before m) h k = (All-head Fits e b k, all_fit m h (All-tail Fits e b k))

-- ---- the blocks

-- the header blocks
section_read : next at_start section_block ≡ Ok (moved 28 (no_packet (in_section [])))
unfolding next unit_of section_unit size_of block_size content_of body_of section_content section_block word half
section_read = refl

first_read : next (in_section []) (interface_block (codes "A"))
    ≡ Ok (moved 32 (no_packet (in_section (interface_for A ∷ []))))
unfolding next unit_of size_of block_size content_of body_of block_content interface_content with_options first_option with_option interface_block word half
first_read = refl

second_read : next (in_section (interface_for A ∷ [])) (interface_block (codes "B"))
    ≡ Ok (moved 32 (no_packet (in_section both)))
unfolding next unit_of size_of block_size content_of body_of block_content interface_content with_options first_option with_option interface_block word half
second_read = refl

-- a packet's block
packet_next : (c : Captured) → Fits c.entry
    → next (in_section both) (packet_block c)
    ≡ Ok (moved (12 + length (packet_body (interface_of c.net) c.entry)) (content (in_section both) (Some
    (packet_of c))))
unfolding packet_block block_content
packet_next c fits =
    let body : List ℕ = packet_body (interface_of c.net) c.entry in
    let len = length-packet_body (interface_of c.net) c.entry in
    block_next 6 body both (omega arith) (λ same. cc) (omega (arith, len)) (omega (arith, len))
    ∙ rw (packet_content c.net c.entry fits) refl

-- what follows a block, over all its bytes
reads_on : (at : ℕ) (p : Progress) (bytes more : List ℕ) (used : ℕ) (does : Content) → next p bytes
    ≡ Ok (moved used does)
    → used ≡ length bytes
    → read_from at p (bytes ++ more) ≡ with_packet does.packet (read_from (at + used) does.after more)
reads_on at p bytes more used does is whole =
    steps_on at p bytes more (moved used does) is
    ∙ ap (λ (l : List ℕ). with_packet does.packet (read_from (at + used) does.after (l ++ more)))
    (drop_all used bytes (omega arith))

-- all packets, to the end
packets_read : (cs : List Captured) (at : ℕ) → AllFit cs
    → read_from at (in_section both) (packet_blocks cs) ≡ record { packets = map packet_of cs; lost = 0; end = Whole }
unfolding packet_blocks packet_block read_within next
packets_read [] at fit = refl
packets_read (c ∷ cs) at fit =
    let body : List ℕ = packet_body (interface_of c.net) c.entry in
    reads_on at (in_section both) (packet_block c) (packet_blocks cs) (12 + length body)
    (content (in_section both) (Some (packet_of c))) (packet_next c fit.0) (sym (length-block 6 body))
    ∙ ap (with_packet (Some (packet_of c))) (packets_read cs (at + (12 + length body)) fit.1)

-- the whole capture
capture_read : (cs : List Captured) → AllFit cs
    → read_capture (header_blocks ++ packet_blocks cs) ≡ record { packets = map packet_of cs; lost = 0; end = Whole }
unfolding header_blocks section_block interface_block word half
capture_read cs fit =
    let on_a : List ℕ = interface_block (codes "A") in
    let on_b : List ℕ = interface_block (codes "B") in
    let rest : List ℕ = packet_blocks cs in
    ap read_capture (append_assoc section_block (on_a ++ on_b) rest
    ∙ ap (λ (l : List ℕ). section_block ++ l) (append_assoc on_a on_b rest))
    ∙ reads_on 0 at_start section_block (on_a ++ (on_b ++ rest)) 28 (no_packet (in_section [])) section_read refl
    ∙ reads_on 28 (in_section []) on_a (on_b ++ rest) 32 (no_packet
    (in_section (interface_for A ∷ []))) first_read refl
    ∙ reads_on 60 (in_section (interface_for A ∷ [])) on_b rest 32 (no_packet (in_section both)) second_read refl
    ∙ packets_read cs 92 fit

-- what was written is read back
pub reads_back : ReadsBack
reads_back a b fits_a fits_b =
    let merges = order_merges a b in
    let read = capture_read (in_order a b) (all_fit merges fits_a fits_b) in
    rw read (record { whole = refl; none = refl; first = (both_are merges).0; second = (both_are merges).1 })
