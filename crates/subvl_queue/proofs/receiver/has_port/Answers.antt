use Rattle.subvl_queue.proofs.Senders.{none_there}
use Rattle.subvl_queue.proofs.receiver.has_port.Goals as goal

pub returns : goal.returns
returns c = none_there _ c.loop-sender.sender-index c.args.port c.loop-sender-test.false c.loop-sender.invariant
