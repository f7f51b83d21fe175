use Rattle.status_board.proofs.Steps.{reading}
use Rattle.status_board.proofs.monitor.Reader.read.Goals as goal

pub returns : goal.returns
returns g c = reading _ _ _ _ _ _ _ c.self.view_is c.load_as.ensures.cell.0 c.load_as.ensures.rule
