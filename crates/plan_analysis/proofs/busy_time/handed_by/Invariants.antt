use Rattle.plan_analysis.proofs.Names.{◌≡◌, ◌*◌, ◌≤◌, take, arrived, messages}
use Rattle.plan_analysis.proofs.busy_time.handed_by.Given as goal

abbrev pub invariant-loop-flow : goal.invariant-loop-flow
invariant-loop-flow l = record {
  fragments : l.fragments ≡ arrived (take l.flow-index l.flows) l.time;
  messages : l.messages ≡ messages (take l.flow-index l.flows) l.time;
  bound : l.fragments ≤ 252822159360684 * l.flow-index;
  few : l.messages ≤ 739246080002 * l.flow-index;
}
