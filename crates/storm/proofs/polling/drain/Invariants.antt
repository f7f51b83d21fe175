use Rattle.storm.proofs.Names.{◌≡◌, ◌+◌, ◌*◌, ◌≤◌, cells_of, IsShown, accepted_in}
use Rattle.storm.proofs.polling.drain.Given as goal

abbrev pub invariant-loop-turn : goal.invariant-loop-turn
invariant-loop-turn g l = record {
  plan : l.draining.plan ≡ l.fn.draining.plan;
  accepted : accepted_in l.draining.links ≡ accepted_in l.fn.draining.links;
  moment : l.draining.moment ≤ (l.first + l.turn) * 128000;
  shown : IsShown l.draining;
  cells : cells_of l.draining.board ≡ cells_of l.fn.draining.board;
}
