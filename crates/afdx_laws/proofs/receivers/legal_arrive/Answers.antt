use Rattle.afdx_laws.proofs.LegalLinks.{legal_arrive_holds}
use Rattle.afdx_laws.proofs.WorkedDemo.{one_is_legal, needs_legal}
use Rattle.afdx_laws.proofs.receivers.legal_arrive.Goals as goal

pub returns : goal.returns
returns c = record { arrive = legal_arrive_holds; worked = one_is_legal; needed = needs_legal }
