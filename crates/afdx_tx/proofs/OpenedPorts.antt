-- New links, while the senders of their ports are made, and an emitter before its first call.
use Rattle.afdx_tx.proofs.Names.{ℕ, ◌≤◌, true, subst, All, All-head, All-tail, All-filter, All-cons, IsPort, greatest_of, ◌≡◌, ◌+◌, ◌<◌, List, [], ◌∷◌, ◌++◌, length, take, get_or, set, arith, refl, ap, ◌∙◌, below_more, Option, None, and_right, ne_eqb, length-append, get_or_append_left, get_or_push, length-set, LinkPlan, PortPlan, Plan, IsPlan, link_plan_at, port_plan_at, link_place, most_calls, QueueName, SenderView, SubVl, queue_of, Held, LinkState, held_at, link_at, nothing_held, no_link, LacksSender, ChangesSub, ChangesQueue, MakesSender, ports_of_sub, held_queue, link_queues, queues_in, IsOpenedSub, AreOpenedSubs, IsOpenedLink, AreOpenedLinks, queue_at, IsFreshPort, each_set, both_ways, ext_get_or, fresh_lines, fresh_log, fresh_in_step, no_link_plan, AreFreshLinks, plans, IsSound, max, fold}
use Rattle.std.proofs.Math.ListN.{get_or-map}
use Rattle.afdx_tx.proofs.KeptLinks.{one_count, one_each}
use Rattle.afdx_tx.proofs.PortLink.{few_ports, IsAt, seats, seats_more, seats_within, on_own, on_sub_vl, seat_at, others_at}
use Rattle.afdx_tx.proofs.PortMessages.{place_in}
use Rattle.afdx_tx.proofs.SoundEmitter.{alike_queues}
use Rattle.afdx_tx.proofs.PollTurns.{plan_at_is, plans_length}

-- The queue of a sub-VL in the list of all queues.
pub queue_at_is : (links : List LinkState) (k s : ℕ)
    → queue_at (queues_in links) k s ≡ queue_of (held_at (link_at links k).subs s).seen
queue_at_is links k s =
    ap (λ (qs : List (Option QueueName)). get_or qs s None) (get_or-map link_queues links k no_link)
    ∙ get_or-map held_queue (link_at links k).subs s nothing_held

-- A property of each element of a list, with one element more.
pub each_push : {X : Type 0} (P : ℕ → X → Type 0) (xs : List X) (new d : X) (n : ℕ) → length xs ≡ n
    → ((k : ℕ) → k < n → P k (get_or xs k d)) → P n new → (k : ℕ) → k < n + 1 → P k (get_or (xs ++ new ∷ []) k d)
each_push P xs new d n count each last = grind (arith, below_more, get_or, get_or_append_left, get_or_push)

-- One link more.
pub links_push : (config : Plan) (first : List PortPlan) (links : List LinkState) (n : ℕ) (new : LinkState)
    → AreOpenedLinks config first links n → IsOpenedLink config.end_system config.ports first (link_plan_at config.links n) new
    → AreOpenedLinks config first (links ++ new ∷ []) (n + 1)
links_push config first links n new are opened = record {
  count = grind (arith, length-append);
  each = each_push (λ k link. IsOpenedLink config.end_system config.ports first (link_plan_at config.links k) link)
      links new no_link n are.count are.each opened;
}

-- The sub-VL of the next port lacks a sender.
pub lacks_at : (config : Plan) (links : List LinkState) (place k s : ℕ) → IsPlan config → IsAt config place k s
    → AreOpenedLinks config (take place config.ports) links (length config.links)
    → (k < length links) × (s < length (link_at links k).subs) × LacksSender (held_at (link_at links k).subs s)
lacks_at config links place k s valid at are =
    let few = few_ports config (link_plan_at config.links k).id.0 s valid in
    let more = seat_at config place k s at in
    grind (arith, seats_within)

-- A link with other sub-VLs, which have senders for these ports.
pub with_subs : (own : ℕ) (ports first more : List PortPlan) (link : LinkPlan) (state : LinkState) (subs : List Held)
    → IsOpenedLink own ports first link state → AreOpenedSubs own ports more link subs link.sub_vls
    → IsOpenedLink own ports more link (record state { subs = subs })
with_subs own ports first more link state subs opened these = grind arith

-- The link of the next port, after its sender was made.
pub link_more : (config : Plan) (old : LinkState) (place k s calls : ℕ) (sender : SenderView) (new : LinkState) → IsAt config place k s
    → IsOpenedLink config.end_system config.ports (take place config.ports) (link_plan_at config.links k) old
    → ChangesSub (ChangesQueue (MakesSender calls sender)) s old new
    → IsOpenedLink config.end_system config.ports (take (place + 1) config.ports) (link_plan_at config.links k) new
link_more config old place k s calls sender new at opened makes =
    let plan = link_plan_at config.links k in
    let sub = rw at.sub at at.over.sub in
    let own : ℕ → SubVl = λ t. record { end_system = config.end_system; link = link_plan_at config.links k; sub = t } in
    let P : ℕ → Held → Type 0 = λ t held. t < (link_plan_at config.links k).sub_vls
    → IsOpenedSub (own t) (ports_of_sub config.ports plan.id.0 t) (seats config.ports (place + 1) plan.id.0 t) held in
    rw makes.same (with_subs config.end_system config.ports (take place config.ports) (take (place + 1) config.ports) plan old
    (set old.subs s (held_at new.subs s)) opened (record {
      count = grind (arith, length-set);
      each = λ t lt. each_set P old.subs s (held_at new.subs s) nothing_held
          (grind arith) (grind (arith, seat_at)) (grind (arith, others_at, and_right, ne_eqb))
          t lt;
    }))

-- All links, one of which made the sender of the next port.
pub opened_more : (config : Plan) (links : List LinkState) (place k s calls : ℕ) (sender : SenderView) (new : LinkState) → IsPlan config
    → IsAt config place k s → AreOpenedLinks config (take place config.ports) links (length config.links)
    → ChangesSub (ChangesQueue (MakesSender calls sender)) s (link_at links k) new
    → AreOpenedLinks config (take (place + 1) config.ports) (set links k new) (length config.links)
opened_more config links place k s calls sender new valid at are makes =
    let within : k < length links = grind arith in
    let first = take (place + 1) config.ports in
    let P : ℕ → LinkState → Type 0 = λ m link. m < length config.links
    → IsOpenedLink config.end_system config.ports first (link_plan_at config.links m) link in
    record {
      count = length-set links k new ∙ are.count;
      each = each_set P links k new no_link within
          (λ _. link_more config (link_at links k) place k s calls sender new at (are.each k at.link) makes)
          (grind (arith, with_subs, others_at));
    }

pub names_more : (links : List LinkState) (k s calls : ℕ) (sender : SenderView) (new : LinkState) → k < length links
    → ChangesSub (ChangesQueue (MakesSender calls sender)) s (link_at links k) new → queues_in (set links k new) ≡ queues_in links
names_more links k s calls sender new within makes = alike_queues links (set links k new) (length-set links k new)
    (grind (arith, one_count))
    (λ m t _. one_each links k s new within makes.same (λ old held. held_queue held ≡ held_queue old) (λ held. refl)
    (grind arith) m t)

-- The port at the next place, with its sender.
pub fresh_port : (config : Plan) (links : List LinkState) (place k s : ℕ) (plan : PortPlan) (sender : SenderView) (new : LinkState)
    → IsAt config place k s → AreOpenedLinks config (take place config.ports) links (length config.links)
    → ChangesSub (ChangesQueue (MakesSender most_calls sender)) s (link_at links k) new
    → plan ≡ port_plan_at config.ports place → k ≡ link_place config plan → s ≡ plan.sub
    → IsFreshPort config (queues_in links) place (record { place = place; plan = plan; sender = sender })
fresh_port config links place k s plan sender new at are makes is link sub = grind (arith, queue_at_is)

-- A fresh emitter is sound.
pub fresh_sound : (config : Plan) (links : List LinkState) → IsPlan config
    → AreFreshLinks config links → IsSound config links fresh_lines 0
fresh_sound config links valid f =
    record {
      valid = valid;
      of_plan = record {
        each_plan = ext_get_or no_link_plan (plans links) config.links (plans_length links ∙ f.count)
            (grind (arith, plan_at_is, plans_length));
        end_system = grind arith;
        each = grind arith;
        ports = grind arith;
      };
      kept = grind (arith, fresh_log, both_ways);
      later = grind arith;
      mirrored = fresh_in_step.mirrored;
      known = rw fresh_log tt;
      carried = grind arith;
      whole = grind arith;
      items = grind arith;
    }

-- The greatest length of a message is reached from one length on, and by each port.
greatest_from : (start : ℕ) (ports : List PortPlan) → let most = fold (λ most (port : PortPlan). max most port.max) start ports in
    (start ≤ most) × All (λ (port : PortPlan). port.max ≤ most) ports
greatest_from start [] = grind arith
greatest_from start (port ∷ ports) =
    let rest = greatest_from (max start port.max) ports in
    let most = fold (λ most (port : PortPlan). max most port.max) (max start port.max) ports in (
      omega (arith, rest.0),
      All-cons (λ (port : PortPlan). port.max ≤ most) port ports (omega (arith, rest.0)) rest.1,
    )

-- It is at most 8,192 bytes.
greatest_le : (start : ℕ) (ports : List PortPlan) → start ≤ 8192 → All IsPort ports
    → fold (λ most (port : PortPlan). max most port.max) start ports ≤ 8192
greatest_le start [] few each = few
greatest_le start (port ∷ ports) few each = let first = (All-head IsPort port ports each).max.1 in
    greatest_le (max start port.max) ports (omega arith) (All-tail IsPort port ports each)

pub greatest_few : (ports : List PortPlan) (vl sub : ℕ) → All IsPort ports → greatest_of (ports_of_sub ports vl sub) ≤ 8192
greatest_few ports vl sub each =
    greatest_le 0 (ports_of_sub ports vl sub) (omega arith) (All-filter (on_sub_vl vl sub) IsPort ports each)

-- It is no less than the greatest message of each.
greatest_at : (ports : List PortPlan) (place vl sub : ℕ) → place < length ports → on_sub_vl vl sub (port_plan_at ports place) ≡ true
    → (port_plan_at ports place).max ≤ greatest_of (ports_of_sub ports vl sub)
greatest_at ports place vl sub lt on =
    let seat = rw on at (seats_more ports place vl sub lt) in
    let within : seats ports place vl sub < length (ports_of_sub ports vl sub) = omega (arith, seat, seats_within ports (place + 1) vl sub) in
    subst (λ (port : PortPlan). port.max ≤ greatest_of (ports_of_sub ports vl sub)) (place_in (on_sub_vl vl sub) ports place _ lt on)
    ((greatest_from 0 (ports_of_sub ports vl sub)).1 (seats ports place vl sub) _ within)

-- The queue of a new port has room for its greatest message.
pub roomy : (config : Plan) (queues : List (List (Option QueueName))) (place : ℕ) (plan : PortPlan) (sender : SenderView)
    → place < length config.ports → plan ≡ port_plan_at config.ports place
    → IsFreshPort config queues place (record { place = place; plan = plan; sender = sender }) → plan.max ≤ sender.most
roomy config queues place plan sender within is fresh =
    let fits = greatest_at config.ports place plan.vl.0 plan.sub within (on_own (port_plan_at config.ports place) plan.vl.0 plan.sub (grind arith) (grind arith)) in
    grind arith
