use Rattle.afdx_laws.proofs.LegalLinks.{own_lists_arrive_holds}
use Rattle.afdx_laws.proofs.WorkedDemo.{one_is_whole, needs_all}
use Rattle.afdx_laws.proofs.receivers.own_lists_arrive.Goals as goal

pub returns : goal.returns
returns c = record { arrive = own_lists_arrive_holds; worked = one_is_whole; needed = needs_all }
