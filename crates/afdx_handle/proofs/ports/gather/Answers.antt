use Rattle.afdx_handle.proofs.Names.{arith}
use Rattle.std.proofs.lemmas.Grind.{common_steps}
use Rattle.afdx_handle.proofs.EndPorts.{gathered_whole}
use Rattle.afdx_handle.proofs.ports.gather.Goals.{in-Draining, in-Sending+in-Ok, in-Sending+in-Err}
use Rattle.afdx_handle.proofs.ports.gather.Goals as goal

pub invariant_of-it : goal.invariant_of-it
invariant_of-it c = elim c.match-stage.branch [
  | in-Draining w ↦ grind (arith, common_steps)
  | in-Sending+in-Ok w ↦ grind (arith, common_steps)
  | in-Sending+in-Err w ↦ grind (arith, common_steps)
]

pub returns-clause-missing : goal.returns-clause-missing
returns-clause-missing c = elim c.match-stage.branch [
  | in-Draining w ↦ grind (arith, common_steps)
  | in-Sending+in-Ok w ↦ (λ e. grind arith, grind (arith, gathered_whole))
  | in-Sending+in-Err w ↦ (λ e. (grind arith, rw (← c.it.view_is, w.in-Sending.is) w.in-Err.ensures.missing), λ lacks. grind arith)
]
