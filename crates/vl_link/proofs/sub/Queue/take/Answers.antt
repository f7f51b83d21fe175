use Rattle.vl_link.proofs.QueueLooks.{takes_nothing, takes_one}
use Rattle.vl_link.proofs.sub.Queue.take.Goals as goal

pub returns-in-Receiving-clause-none : goal.returns-in-Receiving-clause-none
returns-in-Receiving-clause-none c = rw c.in-Receiving.is
    (takes_nothing c.in-Receiving.receiver c.take.new.self c.take.new.room.item c.take.ensures.none c.take.ensures.heard c.take.ensures.alone)

pub returns-in-Receiving-clause-some : goal.returns-in-Receiving-clause-some
returns-in-Receiving-clause-some c = rw c.in-Receiving.is
    (takes_one c.in-Receiving.receiver c.take.new.self c.take.new.room.item c.take.ensures.some c.take.ensures.heard c.take.ensures.alone)
