use Rattle.afdx_config.proofs.AddLemmas.{rows_are, values_all}
use Rattle.afdx_config.proofs.rows.add_values.Goals as goal

pub returns-clause-findings : goal.returns-clause-findings
returns-clause-findings c = values_all c.args.document.now _ _ _ _ _ c.requires c.in_ok-arrays.ensures.findings c.in_ok-end_system.ensures.findings
    (rw (c.requires.version_is, c.as_slice.ensures.value) at c.in_ok-links.ensures.findings)
    (rw (c.requires.version_is, c.as_slice-2.ensures.value) at c.in_ok-ports.ensures.findings)

pub returns-clause-rows : goal.returns-clause-rows
returns-clause-rows c = rows_are c.args.document.now _ _ _ _ c.requires
    (rw (c.requires.version_is, c.as_slice.ensures.value) at c.in_ok-links.ensures.rows)
    (rw (c.requires.version_is, c.as_slice-2.ensures.value) at c.in_ok-ports.ensures.rows)
    c.in_ok-arrays.ensures.links c.in_ok-arrays.ensures.ports
