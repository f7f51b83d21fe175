use Rattle.judge.proofs.Names.{◌≡◌, ◌+◌, length, first_other}
use Rattle.judge.proofs.twins.first_other.Given as goal

abbrev pub invariant-bytes : goal.invariant-bytes
invariant-bytes l = record {
  within : l.place + length l.rest_a ≡ l.from + length l.fn.a;
  same : first_other l.place l.rest_a l.rest_b ≡ first_other l.from l.fn.a l.fn.b;
}

abbrev pub decreases-bytes : goal.decreases-bytes
decreases-bytes l = length l.rest_a
