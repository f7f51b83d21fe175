use Rattle.storm.proofs.Names.{◌≡◌, ◌≤◌, named, sent_all, asked_after}
use Rattle.storm.proofs.worker.work.Given as goal

abbrev pub invariant-loop-sent : goal.invariant-loop-sent
invariant-loop-sent g l = record {
  sent : named l.port ≡ sent_all l.sent l.fn.port;
  asks : asked_after l.turns l.port ≤ asked_after l.fn.load.turns l.fn.port;
}
