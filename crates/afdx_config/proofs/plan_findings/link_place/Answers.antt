use Rattle.afdx_config.proofs.Names.{nat_cmp, ◌∙◌, get}
use Rattle.afdx_config.proofs.KeyedLemmas.{link_found, link_within}
use Rattle.afdx_config.proofs.plan_findings.link_place.Goals as goal

pub returns : goal.returns
returns c =
    let first = c.row_with.ensures ∙ link_found c.args.links.now (get nat_cmp c.args.by_id.now) c.args.port.now c.requires in
    record { first = first; room = link_within c.args.links.now c.args.port.now c.row_with.result first }
