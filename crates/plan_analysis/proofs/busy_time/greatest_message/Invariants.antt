use Rattle.plan_analysis.proofs.Names.{◌≡◌, ◌≤◌, take, greatest_message}
use Rattle.plan_analysis.proofs.busy_time.greatest_message.Given as goal

abbrev pub invariant-loop-flow : goal.invariant-loop-flow
invariant-loop-flow l = record {
  told : l.most ≡ greatest_message (take l.flow-index l.flows);
  some : 1 ≤ l.flow-index → 1 ≤ l.most;
}
