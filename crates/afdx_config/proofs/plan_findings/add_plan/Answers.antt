use Rattle.afdx_config.proofs.Names.{on_ok_weaker, codes, Link, Port, nat_cmp, same_link, same_port, same_flow, flow_of}
use Rattle.afdx_plan.specs.declared.fault.ConfigFault.TheVariants.{DuplicateVl, DuplicatePort, SameFlow}
use Rattle.afdx_config.specs.Findings.{plan_findings}
use Rattle.afdx_config.proofs.AddLemmas.{adds_both, adds_last}
use Rattle.afdx_config.proofs.KeyedLemmas.{rows_keyed, same_number}
use Rattle.afdx_config.proofs.SharingLemmas.{flow_cmp, destination_cmp, same_flows}
use Rattle.afdx_config.proofs.plan_findings.add_plan.Goals as goal

pub returns : goal.returns
unfolding plan_findings
returns c =
    let links = c.as_slice-links.ensures.value in
    let ports = c.as_slice-ports.ensures.value in
    let same_links = rows_keyed nat_cmp (λ r. r.id) same_link DuplicateVl (codes "id") Link c.args.rows.now.links.items (λ e r. same_number e.id r.id) in
    let same_ports = rows_keyed nat_cmp (λ r. r.id) same_port DuplicatePort (codes "id") Port c.args.rows.now.ports.items (λ e r. same_number e.id r.id) in
    let same_flows = rows_keyed (flow_cmp destination_cmp) flow_of same_flow SameFlow (codes "destination") Port c.args.rows.now.ports.items same_flows in
    on_ok_weaker c.add_crowded.result (λ last.
    adds_both _ _ _ _ _ (rw (c.as_slice-link_ids.ensures.value, c.in_ok-link_ids.ensures, links, same_links) at c.in_ok-add_keyed.ensures)
    (adds_both _ _ _ _ _ (rw (c.as_slice.ensures.value, c.in_ok-port_ids.ensures, ports, same_ports) at c.in_ok-add_keyed-2.ensures)
    (adds_both _ _ _ _ _ c.in_ok-add_misfits.ensures (adds_both _ _ _ _ _ c.in_ok-add_misfits-2.ensures
    (adds_both _ _ _ _ _ c.in_ok-add_misfits-3.ensures
    (adds_both _ _ _ _ _ (rw (c.as_slice-2.ensures.value, c.in_ok-flows.ensures, ports, same_flows) at c.in_ok-add_keyed-3.ensures)
    (adds_both _ _ _ _ _ (rw ports at c.in_ok-add_sharing.ensures)
    (adds_both _ _ _ _ _ (rw links at c.in_ok-add_count.ensures) (adds_both _ _ _ _ _ (rw ports at c.in_ok-add_count-2.ensures)
    (adds_last _ _ _ (rw ports at last))))))))))) c.add_crowded.ensures
