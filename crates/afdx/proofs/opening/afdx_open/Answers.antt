use Rattle.std.proofs.Common.{refl}
use Rattle.afdx_plan.specs.declared.fault.ConfigFault.TheVariants.{Memory}
use Rattle.afdx.proofs.opening.afdx_open.Goals as goal

pub returns-in-Ok-clause-fault : goal.returns-in-Ok-clause-fault
returns-in-Ok-clause-fault c = λ refused. λ held. (Memory, c.put_end.ensures.memory refused, λ other. absurd (other refl))
