use Rattle.storm.proofs.Names.{◌≡◌, map, sent_all, asked_after}
use Rattle.storm.proofs.start.start_workers.Given as goal

abbrev pub invariant-loop-port : goal.invariant-loop-port
invariant-loop-port g l = record {
  sent : map (λ w. sent_all w.promise.load.messages w.promise.before.value) l.workers.items ≡ map (sent_all l.load.messages) l.yielded;
  asks : map (λ w. asked_after w.promise.load.turns w.promise.before.value) l.workers.items ≡ map (asked_after l.load.turns) l.yielded;
}
