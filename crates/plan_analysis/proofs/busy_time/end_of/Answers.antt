use Rattle.plan_analysis.proofs.busy_time.end_of.Goals as goal

pub returns-then-next-rounds-clause-least : goal.returns-then-next-rounds-clause-least
returns-then-next-rounds-clause-least c = c.loop-rounds.invariant.below
