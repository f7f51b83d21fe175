use Rattle.afdx_config.proofs.AddLemmas.{adds_both, adds_last, table_all}
use Rattle.afdx_config.proofs.Names.{Top, document_fields, table_view}
use Rattle.afdx_config.proofs.rows.add_top.Goals as goal

pub returns-clause-findings : goal.returns-clause-findings
returns-clause-findings c = table_all Top document_fields (table_view c.args.top.now) _ _ _
    (adds_both _ _ _ _ _ (rw c.version_in.ensures at c.in_ok-keep.ensures.findings)
    (adds_both _ _ _ _ _ (rw c.section_fault.ensures at c.in_ok-add_key.ensures)
    (adds_both _ _ _ _ _ (rw c.rows_fault-links.ensures at c.in_ok-add_key-2.ensures)
    (adds_last _ _ _ (rw c.rows_fault-ports.ensures at c.in_ok-add_key-3.ensures)))))
    c.in_ok-add_keys.ensures
