use Rattle.subvl_queue.proofs.Names.{arith, length, subst, SenderView, ◌≡◌, map-append}
use Rattle.subvl_queue.proofs.Senders.{counts_are}
use Rattle.subvl_queue.proofs.receiver.Receiver.hear.Goals as goal

pub returns-clause-receiver : goal.returns-clause-receiver
returns-clause-receiver c = grind (arith, map-append)

pub returns-clause-counts : goal.returns-clause-counts
returns-clause-counts c = subst (λ (s : SenderView). length s.places ≡ length s.own) c.sender.view_is (counts_are c.sender.inside.seat.me.0.own)
