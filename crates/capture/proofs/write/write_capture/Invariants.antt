use Rattle.capture.proofs.Names.{HasWritten, header_blocks, in_order, packet_block}
use Rattle.capture.proofs.write.write_capture.Given as goal

abbrev pub invariant-loop-packet : goal.invariant-loop-packet
invariant-loop-packet g l =
    HasWritten packet_block header_blocks (in_order l.a.handed l.b.handed) l.packet-iterator
    (g.W.Write.contents l.fn.writer) (g.W.Write.contents l.writer)
