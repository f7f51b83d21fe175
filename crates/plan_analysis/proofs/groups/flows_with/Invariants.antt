use Rattle.plan_analysis.proofs.Names.{◌≡◌, ◌≤◌, true, length, take, All, IsFlow, mates_have_periods, flows_with}
use Rattle.plan_analysis.proofs.groups.flows_with.Given as goal

abbrev pub invariant-loop-sender : goal.invariant-loop-sender
invariant-loop-sender l = record {
  have : mates_have_periods l.link l.mates (take l.sender-index l.senders) ≡ true;
  are : l.flows.items ≡ flows_with l.link l.mates (take l.sender-index l.senders);
  good : All IsFlow l.flows.items;
  few : length l.flows.items ≤ l.sender-index;
}
