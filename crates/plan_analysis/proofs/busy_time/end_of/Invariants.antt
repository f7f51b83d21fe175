use Rattle.plan_analysis.proofs.Names.{◌+◌, ◌-◌}
use Rattle.plan_analysis.proofs.Ends.{IsBeforeEnd}
use Rattle.plan_analysis.proofs.busy_time.end_of.Given as goal

abbrev pub invariant-loop-rounds : goal.invariant-loop-rounds
invariant-loop-rounds l = IsBeforeEnd l.round l.own l.rest l.rounds

abbrev pub decreases-loop-rounds : goal.decreases-loop-rounds
decreases-loop-rounds l = l.most + 1 - l.rounds
