use Rattle.subvl_queue.proofs.Names.{rules}
use Rattle.subvl_queue.proofs.Seats.{splits_ok}
use Rattle.subvl_queue.proofs.ring.Ring.make_sender.Goals as goal

pub split_seat-requires : goal.split_seat-requires
split_seat-requires c =
    let seat = c.requires.seat in
    let first = c.requires.first in
    (search rules, search rules, splits_ok _ _ seat.2 seat.3 c.requires.made first.0 first.1)
