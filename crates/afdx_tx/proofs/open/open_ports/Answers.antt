use Rattle.afdx_tx.proofs.OpenedPorts.{opened_more, each_push, lacks_at, names_more, fresh_port, roomy}
use Rattle.afdx_tx.proofs.Names.{refl, arith, get_or_default, length-append, most_calls, no_link, queues_in, IsFreshPort}
use Rattle.afdx_tx.proofs.PortLink.{place_at}
use Rattle.afdx_tx.proofs.open.open_ports.Goals as goal

pub new_sender-requires-clause-lacks : goal.new_sender-requires-clause-lacks
new_sender-requires-clause-lacks c =
    let config = c.args.config.now in
    let place = c.loop-place.place in
    let k = c.link_of-link.result in
    let s = c.port_at-plan.result.sub in
    let at = place_at config config place k s c.port_at-plan.result refl c.port_at-plan.ensures.value
    (grind arith)
    c.link_of-link.ensures.within c.link_of-link.ensures.over refl in
    let lacks = lacks_at config c.loop-place.links place k s c.port_at-plan.ensures.valid at c.loop-place.invariant.opened in
    grind (arith, get_or_default)

pub new-requires-clause-room : goal.new-requires-clause-room
new-requires-clause-room c =
    let config = c.args.config.now in
    let place = c.loop-place.place in
    let links = c.loop-place.links in
    let k = c.link_of-link.result in
    let s = c.port_at-plan.result.sub in
    let old = c.loop-place.invariant in
    let at = place_at config config place k s c.port_at-plan.result refl c.port_at-plan.ensures.value
    (grind arith)
    c.link_of-link.ensures.within c.link_of-link.ensures.over refl in
    let lacks = lacks_at config links place k s c.port_at-plan.ensures.valid at old.opened in
    let sender = c.in_ok-sender.sender in
    let new = c.new_sender.new.self in
    let makes = rw (get_or_default links k c.index-links-link.result no_link lacks.0) at
    c.in_ok-sender.ensures.sender in
    let fresh = fresh_port config links place k s c.port_at-plan.result sender new at old.opened makes
    c.port_at-plan.ensures.value
    c.link_of-link.ensures.value refl in
    roomy config (queues_in links) place c.port_at-plan.result sender (grind arith) c.port_at-plan.ensures.value fresh

pub loop-place-preserved : goal.loop-place-preserved
loop-place-preserved c =
    let config = c.args.config.now in
    let place = c.loop-place.place in
    let links = c.loop-place.links in
    let k = c.link_of-link.result in
    let s = c.port_at-plan.result.sub in
    let old = c.loop-place.invariant in
    let at = place_at config config place k s c.port_at-plan.result refl c.port_at-plan.ensures.value
    (grind arith)
    c.link_of-link.ensures.within c.link_of-link.ensures.over refl in
    let valid = c.port_at-plan.ensures.valid in
    let lacks = lacks_at config links place k s valid at old.opened in
    let sender = c.in_ok-sender.sender in
    let new = c.new_sender.new.self in
    let makes = rw (get_or_default links k c.index-links-link.result no_link lacks.0) at
    c.in_ok-sender.ensures.sender in
    let names = names_more links k s most_calls sender new lacks.0 makes in
    let fresh = fresh_port config links place k s c.port_at-plan.result sender new at old.opened makes
    c.port_at-plan.ensures.value
    c.link_of-link.ensures.value refl in
    let pushed = c.in_ok-push.ensures.items in
    record {
      opened = opened_more config links place k s most_calls sender new valid at old.opened makes;
      count = grind (arith, length-append);
      each = λ m d lt. rw (names, pushed) (each_push (λ i port. IsFreshPort config (queues_in links) i port)
          c.loop-place.ports.items
          c.new.result d place old.count (λ i below. old.each i d below) (rw c.new.ensures fresh) m lt);
    }
