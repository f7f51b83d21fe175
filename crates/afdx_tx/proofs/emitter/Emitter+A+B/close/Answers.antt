use Rattle.afdx_tx.proofs.Names.{◌∙◌, ◌<◌, length, arith, get_or_default, no_link}
use Rattle.afdx_tx.proofs.SoundEmitter.{count_is}
use Rattle.afdx_tx.proofs.KeptLinks.{kept_sound}
use Rattle.afdx_tx.proofs.ClosedEmitter.{closed_kept, closed_receiving, links_closed, queues_same}
use Rattle.afdx_tx.proofs.emitter.Emitter+A+B.close.Goals as goal

pub invariant_of-self : goal.invariant_of-self
invariant_of-self g c =
    let links = c.self.inside.links.items.items in
    let within : c.in-Some.place < length c.self.inside.links.items.items = grind (arith, count_is) in
    let here = c.index_mut.ensures.value ∙ get_or_default links c.in-Some.place c.index_mut.result.now no_link within in
    let closed = links_closed links c.in-Some.place c.args.sub c.close.result c.close.new.self (grind arith) within in
    let kept = closed_kept links _ closed in (
      kept_sound c.self.inside.config links _ c.self.inside.mux c.self.inside.moment kept c.self.invariant.0,
      grind arith,
      grind arith,
      closed_receiving links _ closed c.self.invariant.3,
    )

pub returns-in-Some-clause-queues : goal.returns-in-Some-clause-queues
returns-in-Some-clause-queues g c =
    let links = c.self.inside.links.items.items in
    let within : c.in-Some.place < length c.self.inside.links.items.items = grind (arith, count_is) in
    rw (← c.self.view_is) (queues_same _ _ (links_closed links c.in-Some.place c.args.sub c.close.result c.close.new.self
    (grind (arith, get_or_default, no_link)) within))
