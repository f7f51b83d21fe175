use Rattle.plan_analysis.proofs.Names.{◌≡◌, ◌*◌, ◌≤◌, take, sum_by, SubRow}
use Rattle.plan_analysis.proofs.memory.total.Given as goal

abbrev pub invariant-loop-row : goal.invariant-loop-row
invariant-loop-row l = record {
  told : l.bytes ≡ sum_by (λ (row : SubRow). row.bytes) (take l.row-index l.rows);
  bound : l.bytes ≤ 4300000 * l.row-index;
}
