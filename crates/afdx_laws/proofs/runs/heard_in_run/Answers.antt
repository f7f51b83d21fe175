use Rattle.afdx_laws.proofs.HeardRun.{releases_heard, heard_is_found}
use Rattle.afdx_laws.proofs.HeardRows.{releases_told, needs_to_be_told}
use Rattle.afdx_laws.proofs.runs.heard_in_run.Goals as goal

pub returns : goal.returns
returns c = record { released = releases_heard; found = heard_is_found; worked = releases_told; needed = needs_to_be_told }
