use Rattle.plan_analysis.proofs.Waits.{waits_in_group}
use Rattle.plan_analysis.proofs.laws.wait_by_traffic.Goals as goal

pub returns-clause-wait : goal.returns-clause-wait
returns-clause-wait c = waits_in_group
