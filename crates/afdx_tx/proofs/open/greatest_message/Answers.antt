use Rattle.afdx_tx.proofs.Names.{rules, tests, Option, unwrap_or, YieldsList-from_map, YieldsList-from_slice, YieldsList-at, YieldsList-from_filter, reduce_from_yields_List, max_of_map, ℕ, ◌∙◌, ap, PortPlan, ports_of_sub}
use Rattle.afdx_tx.proofs.PortLink.{on_sub_vl}
use Rattle.afdx_tx.proofs.open.greatest_message.Goals as goal

pub returns-clause-value : goal.returns-clause-value
returns-clause-value c = c.unwrap_or.ensures
    ∙ ap (λ (r : Option ℕ). unwrap_or r 0) (reduce_from_yields_List _ c.map.result c.max.result c.max.ensures.ran
    (YieldsList-from_map _ (λ (port : PortPlan). port.max) (YieldsList-at c.map.ensures.source
    (YieldsList-from_filter _ (on_sub_vl c.args.of.now.link.id.0 c.args.of.now.sub) (YieldsList-at c.filter-own.ensures.source
    (YieldsList-from_slice c.args.ports.now cc)) c.filter-own.ensures.closure (λ x b q k. search (rules, tests))))
    c.map.ensures.closure (λ x r q k. search (rules, tests))))
    ∙ max_of_map (λ (port : PortPlan). port.max) (ports_of_sub c.args.ports.now c.args.of.now.link.id.0 c.args.of.now.sub)
