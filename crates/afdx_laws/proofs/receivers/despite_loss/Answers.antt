use Rattle.afdx_laws.proofs.Arriving.{despite_loss_holds}
use Rattle.afdx_laws.proofs.WorkedMessage.{comes_despite_loss, needs_a_whole_network}
use Rattle.afdx_laws.proofs.receivers.despite_loss.Goals as goal

pub returns : goal.returns
returns c = search (despite_loss_holds, comes_despite_loss, needs_a_whole_network)
