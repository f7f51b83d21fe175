use Rattle.afdx_laws.proofs.FullRows.{fills_its_queue, needs_places}
use Rattle.afdx_laws.proofs.FullRun.{never_full_holds, never_full_in_group}
use Rattle.afdx_laws.proofs.runs.never_full.Goals as goal

pub returns : goal.returns
returns c = record { group = never_full_in_group; never = never_full_holds; worked = fills_its_queue; needed = needs_places }
