use Rattle.plan_analysis.proofs.Names.{◌≡◌, ◌*◌, ◌≤◌, take, link_share}
use Rattle.plan_analysis.proofs.busy_time.is_overloaded.Given as goal

abbrev pub invariant-loop-flow : goal.invariant-loop-flow
invariant-loop-flow l = record {
  told : l.share ≡ link_share l.round (take l.flow-index l.flows);
  bound : l.share ≤ 35581555708896879921070080000 * l.flow-index;
}
