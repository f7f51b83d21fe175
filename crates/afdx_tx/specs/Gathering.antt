-- Taking back the ports of an emitter.
use Rattle.std.specs.Prelude.{ℕ, ◌≡◌, ◌<◌, List, length, All, Contains}
use Rattle.afdx_plan.specs.Config.{Plan, port_plan_at, link_place}
use Rattle.afdx_plan.specs.declared.port_plan.PortPlan.{PortPlan}
use Rattle.subvl_queue.specs.Messages.{part_of}
use Rattle.subvl_queue.specs.Views.{StandAt, brought_by}
use Rattle.afdx_legal.specs.Accepted.{port_messages}
use Rattle.vl_link.specs.Seen.{Seen, receiving, gathered, known_of}
use Rattle.vl_link.specs.Links.{Held, LinkState, held_at, link_at}
use Rattle.afdx_tx.specs.Emitter.{Tx}
use Rattle.afdx_tx.specs.Ports.{PortView, HasOwnMessages, index_of}
use Rattle.afdx_tx.specs.Run.{accepted_in}
use Rattle.vl_link.specs.Calls.{ChangesQueue, back_of, BecomesWhole, GathersLink, AreFullSubs}

-- a queue that may have taken back senders; all else is unchanged
abbrev pub OnlyTakesBack : (old new : Seen) → Type 0
OnlyTakesBack (receiving old) (receiving new) = new ≡ record old { back = new.back }
OnlyTakesBack (gathered old) (gathered new) = new ≡ old
OnlyTakesBack (receiving old) (gathered new) = ⊥
OnlyTakesBack (gathered old) (receiving new) = ⊥

-- links whose queues may have taken back senders; all else is unchanged
pub record OnlyTakeBack (old new : List LinkState) : Type 0 where
  pub count : length new ≡ length old
  pub links : (k : ℕ) → link_at new k ≡ record (link_at old k) { subs = (link_at new k).subs }
  pub subs : (k : ℕ) → length (link_at new k).subs ≡ length (link_at old k).subs
  pub helds : (k s : ℕ) → held_at (link_at new k).subs s
      ≡ record (held_at (link_at old k).subs s) { seen = (held_at (link_at new k).subs s).seen }
  pub queues : (k s : ℕ) → OnlyTakesBack (held_at (link_at old k).subs s).seen (held_at (link_at new k).subs s).seen

-- the queue of the port's sub-VL took back its sender, with messages that the port may send
pub record IsTakenBack (config : Plan) (links : List LinkState) (port : PortView) : Type 0 where
  pub messages : HasOwnMessages port
  pub back : Contains (back_of (held_at (link_at links (link_place config port.plan)).subs port.plan.sub).seen)
      (brought_by port.sender)

-- the sender of each port is back
abbrev pub AreFull : List LinkState → Type 0
AreFull links = (k : ℕ) → k < length links → AreFullSubs (link_at links k).subs

-- each link is gathered
pub record GathersLinks (old new : List LinkState) : Type 0 where
  pub count : length new ≡ length old
  pub each : (k : ℕ) → k < length old → GathersLink (link_at old k) (link_at new k)

-- the queues of the ports' sub-VLs took back all their senders, and then all queues are gathered
pub record GathersPorts (config : Plan) (old : List LinkState) (ports : List PortView) (new : List LinkState)
    : Type 0 where
  pub mid : List LinkState
  pub takes : OnlyTakeBack old mid
  pub back : All (IsTakenBack config mid) ports
  pub gathers : GathersLinks mid new

-- the sub-VL of a port
abbrev pub held_for : Tx → PortPlan → Held
held_for tx port = held_at (link_at tx.links (link_place tx.plan port)).subs port.sub

-- The port at this place is in the list. The part of it that its sub-VL accepted is the port's own list, of messages
-- that it may send. In the sub-VL's list they are at the places that the port's sends drew.
pub record HasOwnPart (tx : Tx) (ports : List PortView) (place : ℕ) : Type 0 where
  pub port : PortView
  pub inside : Contains ports port
  pub at : port.place ≡ place
  pub messages : HasOwnMessages port
  pub part : part_of (index_of tx.plan.ports place)
      (known_of (held_for tx (port_plan_at tx.plan.ports place)).seen) ≡ port.sender.own
  pub places : StandAt (known_of (held_for tx (port_plan_at tx.plan.ports place)).seen)
      (index_of tx.plan.ports place) port.sender.own port.sender.places
  pub accepted : port_messages tx.plan (accepted_in tx.links) place ≡ port.sender.own

-- a link whose queues' accepted messages are known whole; all else is unchanged
pub record IsGatheredLink (old new : LinkState) : Type 0 where
  pub same : new ≡ record old { subs = new.subs }
  pub count : length new.subs ≡ length old.subs
  pub each : (s : ℕ) → s < length old.subs → ChangesQueue BecomesWhole (held_at old.subs s) (held_at new.subs s)

-- An emitter whose accepted messages are known whole. Each port's accepted messages are its own list, in order; all
-- else is unchanged.
pub record IsGatheredTx (old : Tx) (ports : List PortView) (new : Tx) : Type 0 where
  pub plan : new.plan ≡ old.plan
  pub lines : new.lines ≡ old.lines
  pub moment : new.moment ≡ old.moment
  pub board : new.board ≡ old.board
  pub count : length new.links ≡ length old.links
  pub links : (k : ℕ) → k < length old.links → IsGatheredLink (link_at old.links k) (link_at new.links k)
  pub own : (place : ℕ) → place < length old.plan.ports → HasOwnPart new ports place
