use Rattle.storm.proofs.Names.{Ok, ℕ, ◌≡◌, map, length, named, sent_all, asked_by, asked_after, AreAtMost}
use Rattle.storm.proofs.start.join_workers.Given as goal

abbrev pub invariant-loop-worker : goal.invariant-loop-worker
invariant-loop-worker g l = record {
  polls : (n : ℕ) → l.worst ≡ Ok n → l.fn.polls ≡ Ok n;
  sent : (n : ℕ) → l.worst ≡ Ok n → map named l.ports.items ≡ map (λ w. sent_all w.promise.load.messages w.promise.before.value) l.yielded;
  count : length l.ports.items ≡ length l.yielded;
  asks : AreAtMost (map asked_by l.ports.items) (map (λ w. asked_after w.promise.load.turns w.promise.before.value) l.yielded);
}
