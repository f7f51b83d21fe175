use Rattle.subvl_queue.proofs.Names.{rules, ℕ, List, sym, subst, Joins, Queue, IsMessage, room_with, with_joined, spent_view}
use Rattle.subvl_queue.proofs.Seats.{joins_ok}
use Rattle.subvl_queue.proofs.ring.Ring.take_in.Goals as goal

pub join_seat-requires : goal.join_seat-requires
join_seat-requires g c =
    let seat = c.requires.seat in
    let other = c.requires.other in
    let left = c.requires.left in
    let table = c.args.self.now.table.shared in (
      search rules,
      search rules,
      search rules,
      search rules,
      subst (λ (y : ℕ × List (List ℕ)). Joins (Queue (room_with table.key) IsMessage) c.args.seat.now.id c.args.seat.now.me.0 c.args.other.id c.args.other.me.0
          (with_joined c.args.seat.now.me.0 c.args.other.me.0) (spent_view y.0 y.1)) (λ k. (sym left.0 k, sym left.1 k))
          (joins_ok _ _ _ _ seat.2 seat.3 c.requires.all other.2 other.3),
    )
