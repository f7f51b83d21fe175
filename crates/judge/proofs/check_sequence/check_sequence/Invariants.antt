use Rattle.judge.proofs.Names.{◌≡◌, drop, remainder_of}
use Rattle.judge.proofs.check_sequence.check_sequence.Given as goal

abbrev pub invariant-loop-byte : goal.invariant-loop-byte
invariant-loop-byte l = remainder_of l.remainder (drop l.byte-index l.bytes) ≡ remainder_of 0xffff_ffff l.bytes
