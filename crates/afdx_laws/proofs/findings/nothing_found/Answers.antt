use Rattle.afdx_laws.proofs.Whole.{nothing_found_holds}
use Rattle.afdx_laws.proofs.WorkedFindings.{worked}
use Rattle.afdx_laws.proofs.findings.nothing_found.Goals as goal

pub returns : goal.returns
returns c = record { none = nothing_found_holds; worked = worked.2 }
