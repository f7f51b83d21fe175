use Rattle.afdx_laws.proofs.GroupRows.{needs_its_mates, takes_its_group_wait}
use Rattle.afdx_laws.proofs.TrafficRows.{meets_with_jitter, needs_traffic, takes_its_wait}
use Rattle.afdx_laws.proofs.TrafficRun.{group_in_run_holds, traffic_in_run_holds}
use Rattle.afdx_laws.proofs.runs.traffic_in_run.Goals as goal

pub returns : goal.returns
returns c = record {
  group = group_in_run_holds;
  wait = traffic_in_run_holds;
  in_turn = takes_its_wait;
  near = meets_with_jitter;
  shared = takes_its_group_wait;
  mates = needs_its_mates;
  needed = needs_traffic;
}
