use Rattle.afdx_config.proofs.AddLemmas.{adds_last, table_all}
use Rattle.afdx_config.proofs.Names.{EndSystem, end_fields, table_view}
use Rattle.afdx_config.proofs.rows.read_end.Goals as goal

pub returns-clause-findings : goal.returns-clause-findings
returns-clause-findings c = table_all EndSystem end_fields (table_view c.args.table.now) _ _ _
    (adds_last _ _ _ c.in_ok-id.ensures.findings) c.in_ok-add_keys.ensures
