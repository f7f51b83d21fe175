use Rattle.afdx_laws.proofs.HandedOver.{handed_arrive_holds}
use Rattle.afdx_laws.proofs.WorkedMessage.{one_message_arrives, needs_handing}
use Rattle.afdx_laws.proofs.receivers.handed_arrive.Goals as goal

pub returns : goal.returns
returns c = search (handed_arrive_holds, one_message_arrives, needs_handing)
