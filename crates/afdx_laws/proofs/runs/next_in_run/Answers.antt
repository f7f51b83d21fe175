use Rattle.afdx_laws.proofs.EmitterRuns.{comes_in_turn}
use Rattle.afdx_laws.proofs.NextRun.{next_in_run_holds}
use Rattle.afdx_laws.proofs.KeepReady.{kept_ready}
use Rattle.afdx_laws.proofs.WorkedRuns.{comes_in_run, needs_a_run}
use Rattle.afdx_laws.proofs.runs.next_in_run.Goals as goal

pub returns : goal.returns
returns c = record { next = next_in_run_holds; ready = kept_ready; worked = comes_in_run; in_turn = comes_in_turn; needed = needs_a_run }
