use Rattle.std.proofs.Common.{◌≡◌, ◌+◌, ◌*◌, ◌%◌, ◌^◌, ◌≤◌, length}
use Rattle.internet_sum.specs.Words.{word_sum}
use Rattle.internet_sum.proofs.word_sum_modulo.Given as goal

abbrev pub invariant-loop-rest : goal.invariant-loop-rest
invariant-loop-rest l = record {
  told : (256 * (l.even + l.odd) + word_sum l.rest) % 65535 ≡ word_sum l.fn.bytes % 65535;
  even : l.even + 2 ^ 60 * length l.rest ≤ 2 ^ 60 * length l.fn.bytes;
  odd : l.odd + 2 ^ 60 * length l.rest ≤ 2 ^ 60 * length l.fn.bytes;
  few : length l.rest ≤ length l.fn.bytes;
}

abbrev pub decreases-loop-rest : goal.decreases-loop-rest
decreases-loop-rest l = length l.rest
