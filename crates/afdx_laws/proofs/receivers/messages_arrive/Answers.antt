use Rattle.afdx_laws.proofs.Arriving.{messages_arrive_holds}
use Rattle.afdx_laws.proofs.WorkedMessage.{one_message_arrives, needs_a_stream}
use Rattle.afdx_laws.proofs.receivers.messages_arrive.Goals as goal

pub returns : goal.returns
returns c = search (messages_arrive_holds, one_message_arrives, needs_a_stream)
