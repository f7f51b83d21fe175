use Rattle.plan_analysis.proofs.Names.{◌≡◌, ◌≤◌, true, length, take, All, IsFlow, have_periods, flows_of}
use Rattle.plan_analysis.proofs.groups.flows_on.Given as goal

abbrev pub invariant-loop-sender : goal.invariant-loop-sender
invariant-loop-sender l = record {
  have : have_periods l.link l.sub (take l.sender-index l.senders) ≡ true;
  are : l.flows.items ≡ flows_of l.link l.sub (take l.sender-index l.senders);
  good : All IsFlow l.flows.items;
  few : length l.flows.items ≤ l.sender-index;
}
