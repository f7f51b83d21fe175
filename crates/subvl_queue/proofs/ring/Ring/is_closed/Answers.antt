use Rattle.subvl_queue.proofs.Names.{rules}
use Rattle.subvl_queue.proofs.Moves.{finds_closed_ok}
use Rattle.subvl_queue.proofs.ring.Ring.is_closed.Goals as goal

pub load-requires : goal.load-requires
load-requires c = let seat = c.requires in (search rules, search rules, finds_closed_ok _ _ _ seat.2 seat.3)
