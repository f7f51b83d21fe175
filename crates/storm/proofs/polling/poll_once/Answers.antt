use Rattle.storm.proofs.SameCells.{shown_published, cells_published}
use Rattle.storm.proofs.polling.poll_once.Goals as goal

pub returns-clause-shown : goal.returns-clause-shown
returns-clause-shown g c = shown_published _ _ _ c.poll.ensures.lawful.plan c.poll.ensures.lawful.board c.publish.ensures c.requires.shown

pub returns-clause-cells : goal.returns-clause-cells
returns-clause-cells g c = cells_published _ _ _ c.poll.ensures.lawful.plan c.poll.ensures.lawful.board c.publish.ensures c.requires.shown
