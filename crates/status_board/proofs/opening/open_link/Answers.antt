use Rattle.status_board.proofs.Names.{rules}
use Rattle.status_board.proofs.Steps.{begins}
use Rattle.status_board.proofs.opening.open_link.Goals as goal

pub ruled-requires : goal.ruled-requires
ruled-requires c = (search rules, (search rules, begins))
