use Rattle.afdx_config.proofs.Names.{◌≡◌, map, take, filter_map, as_table, table_view, view}
use Rattle.afdx_config.proofs.document.tables_of.Given as goal

abbrev pub invariant-loop-value : goal.invariant-loop-value
invariant-loop-value l =
    map (λ r. table_view r.now) l.rows.items ≡ filter_map (λ v. as_table (view v)) (take l.value-index l.values)
