use Rattle.storm.proofs.Names.{◌≡◌, ◌*◌, ◌≤◌, cells_of, IsShown, queues_in}
use Rattle.storm.proofs.polling.poll_while.Given as goal

abbrev pub invariant-loop-poll : goal.invariant-loop-poll
invariant-loop-poll g l = record {
  plan : l.tx.plan ≡ l.fn.tx.plan;
  queues : queues_in l.tx.links ≡ queues_in l.fn.tx.links;
  moment : l.tx.moment ≤ l.poll * 128000;
  shown : IsShown l.tx;
  cells : cells_of l.tx.board ≡ cells_of l.fn.tx.board;
}
