use Rattle.afdx_tx.proofs.Names.{map-id, ◌≡◌, ◌<◌, length, get_or, set, arith, get_or_default, All-push, All-weaker, take_all, link_at, no_link, queues_in, BelongsTo, IsTakenBack, YieldsList-end, YieldsList-turn}
use Rattle.afdx_tx.proofs.SoundEmitter.{count_is}
use Rattle.afdx_tx.proofs.OpenedPorts.{queue_at_is}
use Rattle.afdx_tx.proofs.PortMessages.{sub_within}
use Rattle.afdx_tx.proofs.TakenBack.{take_one, stays_back, comes_back, drains_all}
use Rattle.afdx_tx.proofs.gather.take_back_all.Goals.{After-place, After-into_sender}
use Rattle.afdx_tx.proofs.gather.take_back_all.Goals as goal

-- The returned port was opened with the links.
own : (c : After-place) → BelongsTo c.args.config.now (queues_in c.args.links.now) c.in-Some.port
own c =
    let turn = YieldsList-turn (drains_all {s = c.into_iter-port-iterator.result} c.args.ports.now.items (grind (arith, take_all)))
    c.loop-port.yielded c.loop-port.port-iterator c.loop-port.yielded_by c.next.result c.next.new.self c.in-Some.port c.in-Some.is c.next.ensures.steps in
    grind arith

-- Its plan is the one at its place.
plan_is : (c : After-into_sender) → BelongsTo c.args.config.now (queues_in c.args.links.now) c.in-Some.port
    → c.port_at-plan.result ≡ c.in-Some.port.plan
plan_is c belongs = cc

-- Its link is one of the links.
within : (c : After-into_sender) → c.link_of-link.result < length c.loop-port.links
within c = grind (arith, count_is)

link_is : (c : After-into_sender)
    → get_or c.loop-port.links c.link_of-link.result c.index-links-link.result ≡ link_at c.loop-port.links c.link_of-link.result
link_is c = grind (arith, get_or_default, no_link, within)

pub take_back-requires-clause-within : goal.take_back-requires-clause-within
take_back-requires-clause-within c = grind (arith, sub_within, within, link_is)

pub take_back-requires-clause-own : goal.take_back-requires-clause-own
take_back-requires-clause-own c = grind (arith, own, link_is, queue_at_is, plan_is)

pub loop-port-preserved : goal.loop-port-preserved
loop-port-preserved c =
    let config = c.args.config.now in
    let k = c.link_of-link.result in
    let s = c.port_at-plan.result.sub in
    let links = c.loop-port.links in
    let new = c.take_back.new.self in
    let port = c.in-Some.port in
    let old = c.loop-port.invariant in
    let before = (goal.at.loop-port-preserved c).After-into_sender in
    let plan = plan_is before (grind (arith, own)) in
    let takes = rw (c.into_sender.ensures.sender, link_is before) at c.take_back.ensures in
    record {
      same = grind (arith, set, take_one, within);
      back = All-push (IsTakenBack config (set links k new)) c.loop-port.yielded port
          (All-weaker (IsTakenBack config links) (IsTakenBack config (set links k new))
          (λ other was. stays_back config links k s port.sender new other (within before) takes was) c.loop-port.yielded old.back)
          (grind (arith, comes_back, within));
    }

pub returns-clause-back : goal.returns-clause-back
returns-clause-back c =
    let all = YieldsList-end (drains_all {s = c.into_iter-port-iterator.result} c.args.ports.now.items (grind (arith, take_all)))
    c.loop-port.yielded c.loop-port.port-iterator c.loop-port.yielded_by c.next.result c.next.new.self c.in-None.is c.next.ensures.steps in
    rw (← all.0, map-id) c.loop-port.invariant.back
