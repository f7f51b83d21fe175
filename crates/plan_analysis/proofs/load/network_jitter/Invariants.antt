use Rattle.plan_analysis.proofs.Names.{◌≡◌, ◌+◌, ◌*◌, ◌≤◌, take, network_jitter}
use Rattle.plan_analysis.proofs.load.network_jitter.Given as goal

abbrev pub invariant-loop-link : goal.invariant-loop-link
invariant-loop-link l = record {
  told : l.jitter ≡ network_jitter l.net (take l.link-index l.links);
  bound : l.jitter ≤ 40000 + 123040 * l.link-index;
}
