use Rattle.std.proofs.Common.{◌≡◌, length}
use Rattle.redundant_mux.proofs.outbox.make_slots.Given as goal

abbrev pub invariant-loop : goal.invariant-loop
invariant-loop l = length l.slots.items ≡ l.counter
