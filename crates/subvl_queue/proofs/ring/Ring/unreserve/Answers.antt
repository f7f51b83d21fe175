use Rattle.subvl_queue.proofs.Names.{rules}
use Rattle.subvl_queue.proofs.Moves.{unreserves_ok}
use Rattle.subvl_queue.proofs.ring.Ring.unreserve.Goals as goal

pub fetch_add-requires : goal.fetch_add-requires
fetch_add-requires c = (search rules, search rules, unreserves_ok _ _ _ c.requires.role c.requires.stage)
