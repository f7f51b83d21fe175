use Rattle.subvl_queue.proofs.Names.{rules}
use Rattle.subvl_queue.proofs.Moves.{closes_ok}
use Rattle.subvl_queue.proofs.ring.Ring.close.Goals as goal

pub fetch_or-requires : goal.fetch_or-requires
fetch_or-requires c = let seat = c.requires.seat in (search rules, search rules, closes_ok _ _ _ seat.2 seat.3 c.requires.open)
