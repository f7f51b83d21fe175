use Rattle.afdx_config.proofs.Names.{table_view, codes, get_member, refl, field, Networks, networks_under}
use Rattle.afdx_config.proofs.AddLemmas.{adds_both, last_key}
use Rattle.afdx_config.proofs.rows.LinkRowRow.read.Goals as goal

pub returns-clause-findings : goal.returns-clause-findings
returns-clause-findings c = adds_both _ _ _ _ _ c.in_ok-id.ensures.findings
    (adds_both _ _ _ _ _ (rw c.bag_in.ensures at c.in_ok-bag.ensures.findings)
    (adds_both _ _ _ _ _ c.in_ok-lmax.ensures.findings
    (adds_both _ _ _ _ _ c.in_ok-sub_vls.ensures.findings
    (adds_both _ _ _ _ _ c.in_ok-capacity.ensures.findings
    (last_key c.args.is_2 c.args.place (table_view c.args.table.now) (field (codes "networks") Networks) (networks_under (get_member (codes "networks") (table_view c.args.table.now))) _ _ _
    (rw (c.in_version-networks.ensures, c.text_in-networks.ensures) at c.in_ok-networks.ensures.findings) refl)))))
