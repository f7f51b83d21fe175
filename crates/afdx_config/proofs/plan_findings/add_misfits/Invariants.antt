use Rattle.afdx_config.proofs.Names.{take, each_row, misfit_finding, cells_in, Adds}
use Rattle.afdx_config.proofs.plan_findings.add_misfits.Given as goal

abbrev pub invariant-loop-i : goal.invariant-loop-i
invariant-loop-i l = Adds l.initial.found l.found
    (each_row (misfit_finding l.fault l.key l.misfit (cells_in l.rows)) 1 (take l.i l.rows.ports.items))
