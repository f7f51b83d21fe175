-- No accepted message is longer than its port may send.
use Rattle.afdx_tx.proofs.Names.{ℕ, ◌≡◌, ◌<◌, ◌≤◌, arith, List, [], ◌∷◌, Bool, true, false, length, get_or, nat_eq, refl, sym, All, get_or_default, All-nil, All-head, All-tail, Plan, IsPlan, link_plan_at, port_plan_at, link_place, PortPlan, Sent, accepted_in, Tx, IsGatheredTx, PortView, AreOpenedWith, AreGathered, GathersPorts, HasEveryPlace, IsSound, LinkState, if◌then◌else◌, All-cons, IsQueued, AreQueued, AreAllowed, messages_of, MaySend}
use Rattle.afdx_tx.proofs.GatheredPorts.{all_gathered, gathers_sound, gathers_tx}
use Rattle.afdx_tx.proofs.PortLink.{link_within}
use Rattle.afdx_tx.proofs.PortMessages.{accepted_allowed}

-- the link of a message's port is the one that it was accepted over
pub own_link : (plan : Plan) (k s : ℕ) (sent : Sent) → IsPlan plan → k < length plan.links → IsQueued plan k s sent
    → link_place plan sent.port ≡ k
own_link plan k s sent valid inside of = grind (arith, link_within, link_plan_at, link_place)

-- what holds of a port's messages in a list holds of each message of the port there
of_port : (port : PortPlan) (P : List ℕ → Type 0) (xs : List Sent) → All P (messages_of port xs)
    → All (λ (m : Sent). m.port ≡ port → P m.bytes) xs
of_port port P [] all = All-nil _
of_port port P (m ∷ more) all = by_test (of_port port P more) (nat_eq m.port.id.0 port.id.0) refl all
  where
    by_test : (All P (messages_of port more) → All (λ (sent : Sent). sent.port ≡ port → P sent.bytes) more)
        → (t : Bool) → nat_eq m.port.id.0 port.id.0 ≡ t → All P (if t then m.bytes ∷ messages_of port more else messages_of port more)
        → All (λ (sent : Sent). sent.port ≡ port → P sent.bytes) (m ∷ more)
    by_test rest true is those = All-cons (λ (sent : Sent). sent.port ≡ port → P sent.bytes) m more
        (grind (arith, All-head, messages_of))
        (rest (All-tail P m.bytes (messages_of port more) those))
    by_test rest false is those = grind arith

-- the messages of the port at a place
own_fit : (old new : Tx) (ports : List PortView) (place : ℕ) → AreOpenedWith old ports → IsGatheredTx old ports new
    → place < length new.plan.ports → All (λ (m : Sent). m.port ≡ port_plan_at new.plan.ports place → length m.bytes ≤ m.port.max)
    (accepted_in new.links (link_place new.plan (port_plan_at new.plan.ports place)) (port_plan_at new.plan.ports place).sub)
own_fit old new ports place opened g lt i d below own_port =
    let port : PortPlan = port_plan_at new.plan.ports place in
    let own = g.own place (grind arith) in
    let may : All (λ (bytes : List ℕ). MaySend (port_plan_at new.plan.ports place) (length bytes)) own.port.sender.own = grind arith in
    let most = (of_port port (λ (bytes : List ℕ). MaySend (port_plan_at new.plan.ports place) (length bytes))
    (accepted_in new.links (link_place new.plan port) port.sub) (rw own.accepted may) i d below own_port).most in
    rw own_port most

-- After gathering, the ports may send the accepted messages.
pub gathered_allowed : (old new : Tx) (ports : List PortView) → IsPlan new.plan → AreOpenedWith old ports
    → IsGatheredTx old ports new → AreQueued new.plan (accepted_in new.links) → AreAllowed new.plan (accepted_in new.links)
gathered_allowed old new ports valid opened g queued k s inside below i d lt =
    let m : Sent = get_or (accepted_in new.links k s) i d in
    let of : IsQueued new.plan k s m = queued k s inside below i d lt in
    let at : get_or new.plan.ports of.port.0 m.port ≡ m.port = of.port.2 in
    let same : port_plan_at new.plan.ports of.port.0 ≡ m.port = grind (arith, get_or_default) in
    let link : link_place new.plan (port_plan_at new.plan.ports of.port.0) ≡ k = grind (arith, own_link) in
    let sub : (port_plan_at new.plan.ports of.port.0).sub ≡ s = grind arith in
    record {
      queued = of;
      most = (rw (link, sub) at (own_fit old new ports of.port.0 opened g of.port.1)) i d lt (sym same);
    }

-- After gathering, the emitter is sound, and its accepted messages are those of its ports, which may send them.
pub record GathersAll (old : Tx) (ports : List PortView) (links : List LinkState) : Type 0 where
  pub sound : IsSound old.plan links old.lines old.moment
  pub gathered : IsGatheredTx old ports (record old { links = links })
  pub whole : AreGathered links
  pub allowed : AreAllowed old.plan (accepted_in links)

pub gathers_all : (old : Tx) (ports : List PortView) (links : List LinkState) → GathersPorts old.plan old.links ports links
    → IsSound old.plan old.links old.lines old.moment → AreOpenedWith old ports → HasEveryPlace (length old.plan.ports) ports
    → GathersAll old ports links
gathers_all old ports links g was opened every =
    let sound = gathers_sound _ _ _ _ _ _ g was in
    let new : Tx = record old { links = links } in
    let own = gathers_tx old new ports g refl was sound opened every in record {
      sound = sound;
      gathered = own;
      whole = all_gathered _ _ g.gathers;
      allowed = gathered_allowed old new ports sound.valid opened own (accepted_allowed _ _ sound.of_plan sound.items);
    }
