use Rattle.plan_analysis.proofs.Names.{subst, IfOk, IsSubBound, LinkPlan}
use Rattle.plan_analysis.proofs.traffic.new_bound.Goals as goal

pub returns-in-Some : goal.returns-in-Some
returns-in-Some c = subst (λ (link : LinkPlan). IfOk c.bound_by.result
    (IsSubBound c.args.lateness c.args.config.now link c.args.sender.now.port.sub c.args.senders.now))
    c.link_of-link.ensures.link c.bound_by.ensures
