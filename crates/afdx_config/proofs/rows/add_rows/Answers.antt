use Rattle.afdx_config.proofs.Names.{arith, common_steps, table_view, table_findings, row_like, take_all}
use Rattle.afdx_config.proofs.AddLemmas.{row_more, table_all}
use Rattle.afdx_config.proofs.rows.add_rows.Goals as goal

pub loop-i-preserved : goal.loop-i-preserved
loop-i-preserved g c = record {
  added = row_more (λ k t. table_findings (row_like c.args.array k) (g.R.Row.format c.args.is_2) (table_view t.now))
      c.loop-i.i c.args.tables.now _ _ _ _ _ c.loop-i-test.true c.index-tables-i.is c.loop-i.invariant.added
      (rw c.row_like-place.ensures at (table_all c.row_like-place.result (g.R.Row.format c.args.is_2) _ _ _ _ c.in_ok-row.ensures.findings (rw c.fields.ensures at c.in_ok-add_keys.ensures)));
  made = grind (arith, common_steps);
  fit = grind (arith, common_steps);
}

pub returns-clause-findings : goal.returns-clause-findings
returns-clause-findings g c = rw (take_all c.loop-i.i c.args.tables.now c.loop-i-test.false) at c.loop-i.invariant.added

pub returns-clause-rows : goal.returns-clause-rows
returns-clause-rows g c = rw (take_all c.loop-i.i c.args.tables.now c.loop-i-test.false) at c.loop-i.invariant.made
