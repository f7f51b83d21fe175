use Rattle.afdx_laws.proofs.EmitterRuns.{waits_its_turn}
use Rattle.afdx_laws.proofs.MessageRun.{message_in_run_holds}
use Rattle.afdx_laws.proofs.Timely.{apart_timely}
use Rattle.afdx_laws.proofs.WorkedRuns.{meets_the_wait}
use Rattle.afdx_laws.proofs.NeededRuns.{needs_its_premises}
use Rattle.afdx_laws.proofs.runs.message_in_run.Goals as goal

pub returns : goal.returns
returns c = record {
  wait = message_in_run_holds;
  apart = apart_timely;
  worked = meets_the_wait;
  in_turn = waits_its_turn;
  needed = needs_its_premises;
}
