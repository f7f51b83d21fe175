use Rattle.subvl_queue.proofs.Names.{◌≡◌, None, replicate, room_with, vec_capacity, vec_len}
use Rattle.subvl_queue.proofs.making.empty_rooms.Given as goal

abbrev pub invariant-loop-i : goal.invariant-loop-i
invariant-loop-i l = record {
  items : l.rooms.items ≡ replicate l._i (room_with l.most None);
  len : vec_len l.rooms ≡ l._i;
  room : vec_capacity l.rooms ≡ l.capacity;
}
