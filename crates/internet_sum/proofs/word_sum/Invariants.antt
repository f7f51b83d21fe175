use Rattle.std.proofs.Common.{◌≡◌, ◌+◌, ◌*◌, ◌≤◌, length}
use Rattle.internet_sum.specs.Words.{word_sum}
use Rattle.internet_sum.proofs.word_sum.Given as goal

abbrev pub invariant-loop-rest : goal.invariant-loop-rest
invariant-loop-rest l = record {
  told : l.sum + word_sum l.rest ≡ word_sum l.fn.bytes;
  bound : l.sum + 65535 * length l.rest ≤ 65535 * length l.fn.bytes;
}

abbrev pub decreases-loop-rest : goal.decreases-loop-rest
decreases-loop-rest l = length l.rest
