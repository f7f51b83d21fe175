use Rattle.afdx_laws.proofs.NextFragment.{next_in_a_round, next_in_time, next_in_plan, lie_two_gaps_apart, turns_are_told}
use Rattle.afdx_laws.proofs.receivers.next_fragment.Goals as goal

pub returns : goal.returns
returns c = record {
  round = next_in_a_round;
  time = next_in_time;
  plan = next_in_plan;
  told = turns_are_told;
  worked = lie_two_gaps_apart;
}
