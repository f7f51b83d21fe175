use Rattle.afdx_config.proofs.Names.{table_view, codes, get_member, refl, field, Checksum, checksum_under}
use Rattle.afdx_config.proofs.AddLemmas.{adds_both, last_key}
use Rattle.afdx_config.proofs.rows.PortRowRow.read.Goals as goal

pub returns-clause-findings : goal.returns-clause-findings
returns-clause-findings c = adds_both _ _ _ _ _ c.in_ok-id.ensures.findings
    (adds_both _ _ _ _ _ c.in_ok-vl.ensures.findings
    (adds_both _ _ _ _ _ c.in_ok-sub.ensures.findings
    (adds_both _ _ _ _ _ c.in_ok-partition.ensures.findings
    (adds_both _ _ _ _ _ (rw c.text_in-kind.ensures at c.in_ok-kind.ensures.findings)
    (adds_both _ _ _ _ _ c.in_ok-source.ensures.findings
    (adds_both _ _ _ _ _ c.in_ok-destination.ensures.findings
    (adds_both _ _ _ _ _ c.in_ok-max.ensures.findings
    (adds_both _ _ _ _ _ (rw c.unicast_in.ensures.value at c.in_ok-unicast.ensures.findings)
    (last_key c.args.is_2 c.args.place (table_view c.args.table.now) (field (codes "checksum") Checksum) (checksum_under (get_member (codes "checksum") (table_view c.args.table.now))) _ _ _
    (rw (c.in_version-checksum.ensures, c.text_in-checksum.ensures) at c.in_ok-checksum.ensures.findings) refl)))))))))
