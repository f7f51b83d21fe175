use Rattle.std.proofs.Common.{◌≡◌, drop}
use Rattle.plan_table.specs.Sum.{all_ones, remainder}
use Rattle.plan_table.proofs.sum.crc_32.Given as goal

abbrev pub invariant-loop-byte : goal.invariant-loop-byte
invariant-loop-byte l = remainder l.remainder (drop l.byte-index l.bytes) ≡ remainder all_ones l.bytes
