use Rattle.subvl_queue.proofs.Names.{◌≡◌, ℕ, ◌+◌, ◌^◌, ◌<◌, length, get_or}
use Rattle.subvl_queue.proofs.making.empty_ring.Given as goal

abbrev pub invariant-loop-i : goal.invariant-loop-i
invariant-loop-i l = record {
  wide : length l.row ≡ l.capacity + 2;
  room : get_or l.row 0 0 ≡ 2 ^ 32 + l.capacity;
  tail : get_or l.row 1 0 ≡ 0;
  ready : (j : ℕ) → j < l.i → get_or l.row (j + 2) 0 ≡ 0;
}
