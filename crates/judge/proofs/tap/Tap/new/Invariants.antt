-- The plans that are left add the other judges.
use Rattle.std.proofs.Common.{◌≡◌, length}
use Rattle.std.specs.Vec.Iter.{into_iter_items, into_iter_len}
use Rattle.judge.specs.Tap.{no_judges, with_judges}
use Rattle.judge.proofs.tap.Tap.new.Given as goal

abbrev pub invariant-loop-plan : goal.invariant-loop-plan
invariant-loop-plan l = record {
  left : into_iter_len l.plan-iterator ≡ length (into_iter_items l.plan-iterator);
  same : with_judges (into_iter_items l.plan-iterator) l.options l.tap
      ≡ with_judges l.fn.plans.items l.options no_judges;
}
