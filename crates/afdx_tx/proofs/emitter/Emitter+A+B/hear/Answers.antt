use Rattle.afdx_tx.proofs.Names.{◌∙◌, ◌<◌, length, arith, get_or_default, no_link}
use Rattle.afdx_tx.proofs.SoundEmitter.{count_is}
use Rattle.afdx_tx.proofs.KeptLinks.{kept_sound}
use Rattle.afdx_tx.proofs.ClosedEmitter.{closed_kept, closed_receiving, links_told, queues_same}
use Rattle.afdx_tx.proofs.emitter.Emitter+A+B.hear.Goals as goal

pub invariant_of-self : goal.invariant_of-self
invariant_of-self g c =
    let links = c.self.inside.links.items.items in
    let within : c.link_of-place.result < length links = grind (arith, count_is) in
    let here = c.index_mut.ensures.value ∙ get_or_default links c.link_of-place.result c.index_mut.result.now no_link within in
    let told = links_told links c.link_of-place.result c.args.port.now.plan.sub c.args.port.now.sender c.tell.new.link (grind arith) within in
    let kept = closed_kept links _ told in (
      kept_sound c.self.inside.config links _ c.self.inside.mux c.self.inside.moment kept c.self.invariant.0,
      grind arith,
      grind arith,
      closed_receiving links _ told c.self.invariant.3,
    )

pub returns-clause-queues : goal.returns-clause-queues
returns-clause-queues g c =
    let links = c.self.inside.links.items.items in
    let within : c.link_of-place.result < length links = grind (arith, count_is) in
    rw (← c.self.view_is) (queues_same _ _ (links_told links c.link_of-place.result c.args.port.now.plan.sub c.args.port.now.sender c.tell.new.link
    (grind (arith, get_or_default, no_link)) within))
