use Rattle.afdx_laws.proofs.LegalSpacing.{legal_passes_holds}
use Rattle.afdx_laws.proofs.WorkedDemo.{passes_a_gap_apart}
use Rattle.afdx_laws.proofs.switching.legal_passes.Goals as goal

pub returns : goal.returns
returns c = record { passes = legal_passes_holds; worked = passes_a_gap_apart }
