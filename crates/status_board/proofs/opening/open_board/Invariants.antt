use Rattle.status_board.proofs.Names.{◌≡◌, length, AreNew}
use Rattle.status_board.proofs.opening.open_board.Given as goal

abbrev pub invariant-loop : goal.invariant-loop
invariant-loop l = (length l.writers.items ≡ l.counter) × (length l.readers.items ≡ l.counter) × AreNew l.writers.items l.readers.items
