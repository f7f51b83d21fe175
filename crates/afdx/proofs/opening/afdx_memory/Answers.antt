use Rattle.std.proofs.Common.{refl}
use Rattle.afdx_plan.specs.declared.fault.ConfigFault.TheVariants.{Memory}
use Rattle.plan_table.specs.declared.fault.TableFault.TheVariants.{Plan}
use Rattle.afdx.proofs.opening.afdx_memory.Goals as goal

pub returns-in-Ok-clause-fault : goal.returns-in-Ok-clause-fault
returns-in-Ok-clause-fault c = λ refused. (Plan Memory, refl, λ other. absurd (other refl))
