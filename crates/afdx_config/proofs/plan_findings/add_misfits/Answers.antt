use Rattle.afdx_config.proofs.Names.{◌≡◌, ◌+◌, option_map, rules, misfit_finding, cells_in, ap, get_or, is_row_of}
use Rattle.afdx_config.proofs.AddLemmas.{row_more, no_port}
use Rattle.afdx_config.proofs.KeyedLemmas.{find_place}
use Rattle.afdx_config.proofs.plan_findings.add_misfits.Goals as goal

pub loop-i-preserved : goal.loop-i-preserved
loop-i-preserved c =
    let other : c.map-other.result ≡ option_map (λ i. i + 1) c.link_place-place.result = search rules in
    row_more (misfit_finding c.args.fault c.args.key.now c.args.misfit (cells_in c.args.rows.now)) c.loop-i.i
    c.args.rows.now.ports.items _ no_port _ _ _
    (rw c.as_slice-ports.ensures.value at c.loop-i-test.true) (ap (λ xs. get_or xs c.loop-i.i no_port) c.as_slice-ports.ensures.value)
    c.loop-i.invariant (rw (
      c.is_misfit-is_misfit.ensures,
      c.all_named-is_named.ensures,
      c.nth_row.ensures,
      other,
      c.link_place-place.ensures.first,
      c.as_slice-links.ensures.value,
      ← find_place (is_row_of (get_or c.as_slice-ports.result.now c.loop-i.i no_port)) c.args.rows.now.links.items,
    ) at c.in_ok-add_if.ensures)
