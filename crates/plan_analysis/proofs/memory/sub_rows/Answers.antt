use Rattle.plan_analysis.proofs.Names.{◌≤◌, arith, append_assoc, length-append, All-push, SubRow}
use Rattle.plan_analysis.proofs.Rooms.{rows_more}
use Rattle.plan_analysis.proofs.memory.sub_rows.Goals as goal

pub loop-sub-preserved : goal.loop-sub-preserved
loop-sub-preserved c = rw c.in_ok-push.ensures.items record {
  told = grind (arith, append_assoc, rows_more c.args.config.now.ports c.link-item.result c.loop-sub.sub);
  few = grind (arith, length-append);
  small = All-push (λ (row : SubRow). row.bytes ≤ 4300000) c.loop-sub.rows.items c.sub_row.result
      c.loop-sub.invariant.small c.sub_row.ensures.small;
}
