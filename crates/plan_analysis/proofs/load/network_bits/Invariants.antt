use Rattle.plan_analysis.proofs.Names.{◌≡◌, ◌*◌, ◌≤◌, take, line_bits}
use Rattle.plan_analysis.proofs.load.network_bits.Given as goal

abbrev pub invariant-loop-link : goal.invariant-loop-link
invariant-loop-link l = record {
  told : l.bits ≡ line_bits l.net (take l.link-index l.links);
  bound : l.bits ≤ 1574912 * l.link-index;
}
