use Rattle.afdx_handle.proofs.Names.{refl}
use Rattle.afdx_plan.specs.declared.fault.ConfigFault.TheVariants.{Memory}
use Rattle.afdx_handle.proofs.judging.judge_into.Goals as goal

pub returns-then-not-alone-clause-fault : goal.returns-then-not-alone-clause-fault
returns-then-not-alone-clause-fault c refused =
    (Memory, c.judge_read.ensures.refused refused, λ other. absurd (other refl))

pub returns-in-Ok-read_capture-2-clause-fault : goal.returns-in-Ok-read_capture-2-clause-fault
returns-in-Ok-read_capture-2-clause-fault c refused =
    (Memory, c.judge_read-in-Ok-read_capture-2.ensures.refused refused, λ other. absurd (other refl))

pub returns-in-Err-read_capture-clause-fault : goal.returns-in-Err-read_capture-clause-fault
returns-in-Err-read_capture-clause-fault c refused = (Memory, refl, λ other. absurd (other refl))

pub returns-in_default-clause-fault : goal.returns-in_default-clause-fault
returns-in_default-clause-fault c refused = (Memory, refl, λ other. absurd (other refl))
