use Rattle.plan_analysis.proofs.Names.{◌≡◌, ◌≤◌, take, most_pieces}
use Rattle.plan_analysis.proofs.fragments.most_pieces.Given as goal

abbrev pub invariant-loop-port : goal.invariant-loop-port
invariant-loop-port l = record {
  told : l.most ≡ most_pieces l.link l.sub (take l.port-index l.ports);
  bound : l.most ≤ 342;
}
