-- An emitter, as contracts see it.
use Rattle.std.specs.Prelude.{ℕ, ◌≡◌, ◌<◌, ◌≤◌, ◌&&◌, max, fold, List, [], length, map, filter, true, false, nat_eq, Option, None, All}
use Rattle.afdx_plan.specs.Config.{Plan, link_plan_at, IsPlan}
use Rattle.afdx_plan.specs.Plan.{bag_micros, sequence_number}
use Rattle.afdx_plan.specs.declared.link_plan.LinkPlan.{LinkPlan}
use Rattle.afdx_plan.specs.declared.port_plan.PortPlan.{PortPlan}
use Rattle.afdx_frame.specs.declared.net.Net.TheVariants.{A}
use Rattle.afdx_frame.specs.Header.{link_in}
use Rattle.redundant_mux.specs.Lines.{Entry, Logged, Lines, log, any_up, IsMirrored}
use Rattle.vl_shaper.specs.Pace.{IsLater, due_from}
use Rattle.subvl_queue.specs.Views.{QueueName, new_receiver}
use Rattle.vl_link.specs.declared.sub.SubVl.{SubVl}
use Rattle.status_board.specs.Views.{zeros, Published}
use Rattle.vl_link.specs.Seen.{receiving, queue_of, total_of, IsReceiving}
use Rattle.afdx_legal.specs.Legal.{Accepted, AreKnown}
use Rattle.vl_link.specs.Links.{Held, LinkState, held_at, link_at, taken_by, HasOwnItems, IsLinkOfPlan, IsSameLink}
use Rattle.vl_link.specs.Kept.{IsLinkTied, IsKept}

-- An emitter: its plan, its links in the order of the plan, the frames that the networks accepted, the time of the last
-- poll, and the published counts of each link.
pub record Tx : Type 0 where
  pub plan : Plan
  pub links : List LinkState
  pub lines : Lines
  pub moment : ℕ
  pub board : List Published

-- the plan of a link
abbrev pub plan_of_link : LinkState → LinkPlan
plan_of_link link = link.plan

-- the plans of the links, in their order
abbrev pub plans : List LinkState → List LinkPlan
plans links = map plan_of_link links

-- each link keeps its invariant
abbrev pub AreLinks : List LinkState → Type 0
AreLinks links = (k : ℕ) → k < length links
    → IsLinkOfPlan (link_at links k).end_system (link_at links k).plan
    (link_at links k).pace (link_at links k).subs

-- no two links have the same identifier
abbrev pub AreApart : List LinkState → Type 0
AreApart links = (i j : ℕ) → i < length links → j < length links
    → (link_at links i).plan.id ≡ (link_at links j).plan.id → i ≡ j

-- the ports of a sub-VL, in the order of the plan
abbrev pub ports_of_sub : List PortPlan → ℕ → ℕ → List PortPlan
ports_of_sub ports vl sub =
    filter (λ (port : PortPlan). nat_eq port.vl.0 vl && nat_eq port.sub sub) ports

-- the greatest length of a message of these ports, or 0
abbrev pub greatest_of : List PortPlan → ℕ
greatest_of ports = fold (λ most (port : PortPlan). max most port.max) 0 ports

-- the links are the plan's, in its order, and so are the ports of their sub-VLs
pub record AreLinksOf (config : Plan) (links : List LinkState) : Type 0 where
  pub each_plan : plans links ≡ config.links
  pub end_system : (k : ℕ) → k < length links
      → (link_at links k).end_system ≡ config.end_system
  pub each : AreLinks links
  pub ports : (k s : ℕ) → k < length links → s < length (link_at links k).subs
      → (held_at (link_at links k).subs s).ports
      ≡ ports_of_sub config.ports (link_at links k).plan.id.0 s

-- A new sub-VL: nothing was taken or sent, and its queue was not polled and has this many senders.
pub record IsOpenedSub (own : SubVl) (ports : List PortPlan) (senders : ℕ) (held : Held) : Type 0 where
  pub of : held.of ≡ own
  pub ports_are : held.ports ≡ ports
  pub left : held.left ≡ []
  pub queue : QueueName
  pub seen : held.seen ≡ receiving (new_receiver queue own.link.capacity (greatest_of ports) senders)

-- the first `many` sub-VLs of a new link, with senders for these first ports
pub record AreOpenedSubs (end_system : ℕ) (ports first : List PortPlan) (link : LinkPlan)
    (subs : List Held) (many : ℕ) : Type 0 where
  pub count : length subs ≡ many
  pub each : (s : ℕ) → s < many
      → IsOpenedSub (record { end_system = end_system; link = link; sub = s })
      (ports_of_sub ports link.id.0 s) (length (ports_of_sub first link.id.0 s)) (held_at subs s)

-- a new link: nothing was taken or released, and it has senders for these first ports
pub record IsOpenedLink (own : ℕ) (ports first : List PortPlan) (link : LinkPlan)
    (state : LinkState) : Type 0 where
  pub end_system : state.end_system ≡ own
  pub plan : state.plan ≡ link
  pub pace : state.pace ≡ record {
    gap = bag_micros link.bag;
    sub_vls = link.sub_vls;
    last = None;
    next = sequence_number 0;
  }
  pub subs : AreOpenedSubs own ports first link state.subs link.sub_vls
  pub lost : state.lost ≡ false
  pub counts : state.counts ≡ zeros

-- each link and its stream keep their invariant
abbrev pub AreKept : List LinkState → List Entry → Type 0
AreKept links log = (k : ℕ) → k < length links → IsKept (link_at links k) log

-- no link lost a frame while a network that carries it is up
abbrev pub AreWhole : List LinkState → Lines → Type 0
AreWhole links lines = (k : ℕ) → k < length links → any_up (link_at links k).plan.networks lines ≡ true
    → (link_at links k).lost ≡ false

-- each frame of a link of the plan was logged for the networks that carry the link
abbrev pub AreCarried : List LinkPlan → List Logged → Type 0
AreCarried links logged = (k : ℕ) → k < length links
    → All (λ (l : Logged). link_in l.entry.frame ≡ (link_plan_at links k).id.0
    → l.networks ≡ (link_plan_at links k).networks) logged

-- no link was served after this time
abbrev pub AreServedBy : ℕ → List LinkState → Type 0
AreServedBy now links = (k : ℕ) → k < length links → IsLater (link_at links k).pace.last now

-- none of the first `many` links is due before this time
abbrev pub AllWaitUntil : ℕ → List LinkState → (many : ℕ) → Type 0
AllWaitUntil at links many = (k : ℕ) → k < many → at ≤ due_from (link_at links k).pace.gap (link_at links k).pace.last

-- the known messages of each queue belong to its sub-VL's ports
abbrev pub HaveOwnItems : List LinkState → Type 0
HaveOwnItems links = (k s : ℕ) → k < length links → s < length (link_at links k).subs
    → HasOwnItems (held_at (link_at links k).subs s)

-- the invariant of an emitter
pub record IsSound (config : Plan) (links : List LinkState)
    (lines : Lines) (moment : ℕ) : Type 0 where
  pub valid : IsPlan config
  pub of_plan : AreLinksOf config links
  pub kept : AreKept links (log lines)
  pub later : AreServedBy moment links
  pub mirrored : IsMirrored lines
  pub known : AreKnown config.links A (log lines)
  pub carried : AreCarried config.links lines.logged
  pub whole : AreWhole links lines
  pub items : HaveOwnItems links

-- each link that lost no frame is tied to its stream
abbrev pub AreTied : List LinkState → List Entry → Type 0
AreTied links log = (k : ℕ) → k < length links → (link_at links k).lost ≡ false
    → IsLinkTied (link_at links k) log

-- the messages taken of each sub-VL
abbrev pub taken_in : List LinkState → Accepted
taken_in links k s = taken_by (held_at (link_at links k).subs s)

-- the ports of each queue may still send
abbrev pub AreReceiving : List LinkState → Type 0
AreReceiving links = (k s : ℕ) → k < length links → s < length (link_at links k).subs
    → IsReceiving (held_at (link_at links k).subs s).seen

-- the identity of a sub-VL's queue
abbrev pub held_queue : Held → Option QueueName
held_queue held = queue_of held.seen

-- the identities of the queues of a link's sub-VLs
abbrev pub link_queues : LinkState → List (Option QueueName)
link_queues link = map held_queue link.subs

-- the identities of the queues of each link
abbrev pub queues_in : List LinkState → List (List (Option QueueName))
queues_in links = map link_queues links

-- the total of a sub-VL, if it was closed
abbrev pub total_in : List LinkState → ℕ → ℕ → Option ℕ
total_in links k s = total_of (held_at (link_at links k).subs s).seen

-- the links, their plans, sub-VLs and queues are the same
pub record IsSamePlan (old new : List LinkState) : Type 0 where
  pub count : length new ≡ length old
  pub each : (k : ℕ) → k < length old → IsSameLink (link_at old k) (link_at new k)

-- the first links of a plan, new, with senders for these first ports
pub record AreOpenedLinks (config : Plan) (first : List PortPlan) (links : List LinkState) (many : ℕ) : Type 0 where
  pub count : length links ≡ many
  pub each : (k : ℕ) → k < many
      → IsOpenedLink config.end_system config.ports first (link_plan_at config.links k)
      (link_at links k)

-- the links of a plan, new, with a sender for each port
abbrev pub AreFreshLinks : Plan → List LinkState → Type 0
AreFreshLinks config links = AreOpenedLinks config config.ports links (length config.links)

-- nothing was taken, transmitted or polled, and both networks are up
pub record IsFreshTx (config : Plan) (tx : Tx) : Type 0 where
  pub plan : tx.plan ≡ config
  pub links : AreFreshLinks config tx.links
  pub a : tx.lines.a ≡ []
  pub b : tx.lines.b ≡ []
  pub a_stands : tx.lines.a_stands ≡ true
  pub b_stands : tx.lines.b_stands ≡ true
  pub logged : tx.lines.logged ≡ []
  pub moment : tx.moment ≡ 0

-- the link at this place of the plan has this identifier
pub record IsLinkAt (plan : Plan) (vl place : ℕ) : Type 0 where
  pub within : place < length plan.links
  pub id : (link_plan_at plan.links place).id.0 ≡ vl

-- no link of the plan has this identifier
abbrev pub LacksLink : Plan → ℕ → Type 0
LacksLink plan vl = (place : ℕ) → IsLinkAt plan vl place → ⊥
