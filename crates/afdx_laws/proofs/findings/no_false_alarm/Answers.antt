use Rattle.afdx_laws.proofs.Begin.{no_false_alarm_holds, none_by_beginning_holds}
use Rattle.afdx_laws.proofs.WorkedFindings.{worked}
use Rattle.afdx_laws.proofs.findings.no_false_alarm.Goals as goal

pub returns : goal.returns
returns c = record { found = no_false_alarm_holds; begun = none_by_beginning_holds; worked = worked.0; needed = worked.1 }
