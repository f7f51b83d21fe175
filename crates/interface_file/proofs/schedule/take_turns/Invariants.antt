use Rattle.interface_file.proofs.Turns.{IsTurn}
use Rattle.interface_file.proofs.schedule.take_turns.Given as goal

abbrev pub invariant-loop-turn : goal.invariant-loop-turn
invariant-loop-turn l = IsTurn l.fn.next.items l.periods l.next.items l.end l.sent.items
