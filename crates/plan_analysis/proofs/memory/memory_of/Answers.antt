use Rattle.plan_analysis.proofs.Names.{List, arith, subst, IsHeaviest, SubRow}
use Rattle.plan_analysis.proofs.memory.memory_of.Goals as goal

pub returns : goal.returns
returns c = record {
  subs = c.in_ok-subs.ensures.rows;
  bytes = grind arith;
  small = c.large-large.ensures.small;
  large = λ much. subst (λ (rows : List SubRow). IsHeaviest rows c.large-large.result) c.as_slice-rows.ensures.value
      (c.large-large.ensures.large much);
}
