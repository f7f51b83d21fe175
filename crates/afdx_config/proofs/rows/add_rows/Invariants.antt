use Rattle.afdx_config.proofs.Names.{◌≡◌, take, map, table_view, All, each_row, table_findings, row_like, Adds}
use Rattle.afdx_config.proofs.rows.add_rows.Given as goal

abbrev pub invariant-loop-i : goal.invariant-loop-i
invariant-loop-i g l = record {
  added : Adds l.initial.found l.found (each_row
      (λ k t. table_findings (row_like l.array k) (g.R.Row.format l.is_2) (table_view t.now)) 1 (take l.i l.tables));
  made : l.rows.items ≡ map (λ t. g.R.Row.row_of l.is_2 (table_view t.now)) (take l.i l.tables);
  fit : All g.R.Row.Fits l.rows.items;
}
