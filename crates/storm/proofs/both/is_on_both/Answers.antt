use Rattle.storm.proofs.Names.{◌&&◌, nat_eq, rules, tests, LinkPlan, YieldsList-from_slice, any_from_yields_List, is_both}
use Rattle.storm.proofs.both.is_on_both.Goals as goal

pub returns : goal.returns
returns c =
    any_from_yields_List (λ (link : LinkPlan). nat_eq link.id.0 c.args.vl && is_both link.networks) _ _ _ c.any.ensures.ran
    (YieldsList-from_slice c.args.links.now cc) (λ x b q k. search (rules, tests))
