-- The blocks of packets.
use Rattle.capture.proofs.Names.{Entry, append_assoc, arith, block, fill, filled, length, length-append, length-replicate, packet_body, packet_front, word, ℕ, ◌++◌, ◌+◌, ◌≡◌}

-- how many bytes are in a packet
pub length-packet_body : (interface : ℕ) (e : Entry)
    → length (packet_body interface e) ≡ 20 + (length e.frame + fill (length e.frame))
unfolding word
length-packet_body interface e = simp (length-append, length-replicate) (omega arith)

-- a frame between the front of its packet and the end, in a block of this length
pub packet_is : (interface : ℕ) (e : Entry) (whole : ℕ) → whole ≡ 32 + (length e.frame + fill (length e.frame))
    → packet_front interface e.at (length e.frame) whole ++ filled e.frame ++ word whole
    ≡ block 6 (packet_body interface e)
packet_is interface e whole is = grind (arith, length-packet_body, append_assoc)
