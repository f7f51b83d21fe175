use Rattle.subvl_queue.proofs.Names.{rules, ℕ, List, [], ◌≡◌, ap, telling, Seated}
use Rattle.subvl_queue.specs.Messages.{RoomView}
use Rattle.subvl_queue.proofs.Telling.{tells_ok, hears_ok}
use Rattle.subvl_queue.proofs.ring.Ring.tell.Goals as goal

pub split_seat-told-requires : goal.split_seat-told-requires
split_seat-told-requires c = let teller = c.requires.teller in (search rules, search rules, tells_ok _ _ teller.2 teller.3)

pub join_seat-requires : goal.join_seat-requires
join_seat-requires c =
    let seat = c.requires.seat in
    let told = c.split_seat-told in
    let is : told.result.me ≡ (telling c.args.teller.now.me.0, []) = told.ensures.4 in (
      search rules,
      search rules,
      search rules,
      search rules,
      hears_ok _ _ _ _ seat.2 seat.3 (ap (λ (m : Seated (List ℕ) RoomView). m.0.role) is) (ap (λ (m : Seated (List ℕ) RoomView). m.0.looks_then) is)
          (ap (λ (m : Seated (List ℕ) RoomView). m.0.asks_then) is),
    )
