use Rattle.plan_analysis.proofs.Names.{arith, common_steps, nat_tests}
use Rattle.plan_analysis.proofs.Overload.{never_catches_up, share_most}
use Rattle.plan_analysis.proofs.busy_time.is_overloaded.Goals as goal

pub loop-flow-preserved : goal.loop-flow-preserved
loop-flow-preserved c = grind (arith, common_steps, share_most, c.requires.flows)

pub returns-clause-share : goal.returns-clause-share
returns-clause-share c = grind (arith, common_steps, c.loop-flow.invariant.told)

pub returns-clause-never : goal.returns-clause-never
returns-clause-never c = λ more. never_catches_up c.args.round c.args.flows.now c.requires.flows (grind (arith, common_steps, nat_tests, c.loop-flow.invariant.told))
