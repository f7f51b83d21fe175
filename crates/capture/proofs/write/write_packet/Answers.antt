use Rattle.capture.proofs.Names.{arith, ℕ, ◌+◌, ◌++◌, List, Option, length, subst, Appends-trans, Appends, entry, word, filled, packet_front, interface_of}
use Rattle.capture.specs.Capture.{packet_block}
use Rattle.capture.proofs.Packets.{packet_is}
use Rattle.capture.proofs.write.write_packet.Goals as goal

pub returns : goal.returns
unfolding packet_block
returns g c =
    let frame : List ℕ = c.args.packet.frame.now in
    let len : ℕ = length frame in
    let whole : ℕ = 32 + (len + c.fill_of.result) in
    let front : List ℕ = packet_front (interface_of c.args.packet.net) c.args.packet.at len whole in
    let old : Option (List ℕ) = g.W.Write.contents c.args.writer.now in
    let mid : Option (List ℕ) = g.W.Write.contents c.write_filled.new.writer in
    let new : Option (List ℕ) = g.W.Write.contents c.write_word.new.writer in
    subst (Appends old new)
    (packet_is (interface_of c.args.packet.net) (entry c.args.packet.at frame) whole
    (grind arith))
    (Appends-trans old mid new (front ++ filled frame) (word whole)
    (Appends-trans old (g.W.Write.contents c.write_front.new.writer) mid front (filled frame)
    c.in_ok-write_front.ensures c.in_ok-write_filled.ensures) c.in_ok-write_word.ensures)
