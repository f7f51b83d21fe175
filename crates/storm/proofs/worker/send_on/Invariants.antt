use Rattle.storm.proofs.Names.{◌≡◌, ◌≤◌, named, asked_after}
use Rattle.storm.proofs.worker.send_on.Given as goal

abbrev pub invariant-loop-turns : goal.invariant-loop-turns
invariant-loop-turns l = record {
  port : named l.port ≡ named l.fn.port;
  asks : asked_after l.turns l.port ≤ asked_after l.fn.turns l.fn.port;
}

abbrev pub decreases-loop-turns : goal.decreases-loop-turns
decreases-loop-turns l = l.turns
