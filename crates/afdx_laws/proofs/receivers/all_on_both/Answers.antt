use Rattle.afdx_laws.proofs.OneNetwork.{all_on_both_holds}
use Rattle.afdx_laws.proofs.WorkedDemo.{are_twins_of_one}
use Rattle.afdx_laws.proofs.receivers.all_on_both.Goals as goal

pub returns : goal.returns
returns c = record { twins = all_on_both_holds; worked = are_twins_of_one }
