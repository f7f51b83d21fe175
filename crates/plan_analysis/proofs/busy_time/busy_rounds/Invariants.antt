use Rattle.plan_analysis.proofs.Names.{◌+◌, ◌-◌, busy_limit}
use Rattle.plan_analysis.proofs.Busy.{IsBefore}
use Rattle.plan_analysis.proofs.busy_time.busy_rounds.Given as goal

abbrev pub invariant-loop-rounds : goal.invariant-loop-rounds
invariant-loop-rounds l = IsBefore l.round l.flows l.rounds

abbrev pub decreases-loop-rounds : goal.decreases-loop-rounds
decreases-loop-rounds l = busy_limit + 1 - l.rounds
