use Rattle.plan_analysis.proofs.Names.{◌≡◌, ◌≤◌, take, greatest_on}
use Rattle.plan_analysis.proofs.memory.greatest_on.Given as goal

abbrev pub invariant-loop-port : goal.invariant-loop-port
invariant-loop-port l = record {
  told : l.greatest ≡ greatest_on l.link l.sub (take l.port-index l.ports);
  bound : l.greatest ≤ 8192;
}
