-- A link of an emitter, and the effect of one turn.
use Rattle.std.specs.Prelude.{ℕ, ◌≡◌, ◌⊎◌, ◌<◌, List, [], ◌∷◌, Bool, true, false, length, map, get_or, None}
use Rattle.afdx_plan.specs.Config.{link_plan_at, port_plan_at}
use Rattle.afdx_plan.specs.Plan.{bag_micros, sequence_number, room_of}
use Rattle.afdx_plan.specs.declared.link_plan.LinkPlan.{LinkPlan}
use Rattle.afdx_plan.specs.declared.port_plan.PortPlan.{PortPlan}
use Rattle.afdx_frame.specs.declared.net.Net.TheVariants.{A}
use Rattle.afdx_frame.specs.Cutting.{Cutting}
use Rattle.afdx_frame.specs.Fragments.{Sent, blanked, fragments_at, fragments_from, fragments_left}
use Rattle.redundant_mux.specs.Lines.{Entry, Lines, log}
use Rattle.subvl_queue.specs.Messages.{IsItem, AreItems}
use Rattle.vl_shaper.specs.Pace.{Pace, turn_of}
use Rattle.vl_link.specs.Turn.{TurnView, IsChoice, Turn}
use Rattle.vl_link.specs.declared.link.Served.{Served}
use Rattle.vl_link.specs.declared.link.Served.TheVariants.{Nothing, Released, Lost}
use Rattle.vl_link.specs.declared.sub.SubVl.{SubVl}
use Rattle.status_board.specs.declared.counts.Counts.{Counts}
use Rattle.status_board.specs.Views.{zeros}
use Rattle.afdx_legal.specs.Streams.{link_stream, latest}
use Rattle.vl_link.specs.Seen.{Seen, taken_of, known_of, nothing_seen, FindsNothing, Finds, IsSameQueue}

-- the fragments for network A of a sub-VL's messages, counted from `place`
abbrev pub sub_fragments : SubVl → ℕ → List Sent → List (List ℕ)
sub_fragments of place messages =
    fragments_from of.end_system (room_of of.link.lmax) A place messages

-- the fragments for network A of the message at this place
abbrev pub message_fragments : SubVl → ℕ → Sent → List (List ℕ)
message_fragments of place sent =
    fragments_at of.end_system (room_of of.link.lmax) A place sent

-- A sub-VL: its ports in the order of the plan, the fragments left of the message being sent, and its queue.
pub record Held : Type 0 where
  pub of : SubVl
  pub ports : List PortPlan
  pub left : List (List ℕ)
  pub seen : Seen

-- the message of one of these ports
abbrev pub sent_of : List PortPlan → ℕ × List ℕ → Sent
sent_of ports item = record { port = port_plan_at ports item.0; bytes = item.1 }

-- the messages of these ports
abbrev pub sent_by : List PortPlan → List (ℕ × List ℕ) → List Sent
sent_by ports items = map (sent_of ports) items

-- the messages that a sub-VL has taken from its queue
abbrev pub taken_by : Held → List Sent
taken_by held = sent_by held.ports (taken_of held.seen)

-- the fragments that are left of a cut message
abbrev pub left_of : SubVl → Cutting → List (List ℕ)
left_of of cut = fragments_left of.end_system (room_of of.link.lmax) A cut

-- a message is being sent, and nothing changes
pub record GoesOn (old new : Held) : Type 0 where
  pub some : old.left ≡ [] → ⊥
  pub same : new ≡ old

-- the known messages of the sub-VL's queue belong to its ports
abbrev pub HasOwnItems : Held → Type 0
HasOwnItems held = AreItems (length held.ports) (known_of held.seen)

-- no message was being sent, and the next one in the queue now is
pub record Starts (old new : Held) : Type 0 where
  pub message : ℕ × List ℕ
  pub item : IsItem (length old.ports) message
  pub whole : old.left ≡ []
  pub finds : Finds old.seen message new.seen
  pub left : new.left ≡
      message_fragments old.of (length (taken_of old.seen)) (sent_of old.ports message)
  pub some : new.left ≡ [] → ⊥
  pub of : new.of ≡ old.of
  pub ports : new.ports ≡ old.ports

-- no message is being sent, and the queue has none ready
pub record Passes (old new : Held) : Type 0 where
  pub whole : old.left ≡ []
  pub nothing : FindsNothing old.seen new.seen
  pub same : new ≡ record old { seen = new.seen }

-- a sub-VL is polled, and has something or not
abbrev pub Asks : Bool → Held → Held → Type 0
Asks true old new = GoesOn old new ⊎ Starts old new
Asks false old new = Passes old new

-- the plan at a place after the last
abbrev pub no_link_plan : LinkPlan
no_link_plan = link_plan_at [] 0

-- the sub-VL at an index after the last
abbrev pub nothing_held : Held
nothing_held = record {
  of = record { end_system = 0; link = no_link_plan; sub = 0 };
  ports = [];
  left = [];
  seen = nothing_seen;
}

-- the sub-VL at an index
abbrev pub held_at : List Held → ℕ → Held
held_at subs sub = get_or subs sub nothing_held

-- the first sub-VL in cyclic order that has something is chosen, and its message is being sent
pub record IsPicked (pace : Pace) (old : List Held) (sub : ℕ) (new : List Held) : Type 0 where
  pub count : length new ≡ length old
  pub below : sub < length old
  pub choice : IsChoice pace
      (λ s. Asks true (held_at old s) (held_at new s))
      (λ s. Asks false (held_at old s) (held_at new s))
      (λ s. held_at new s ≡ held_at old s) sub

-- the first `asked` sub-VLs in cyclic order had nothing
pub record PassedOver (pace : Pace) (old new : List Held) (asked : ℕ) : Type 0 where
  pub count : length new ≡ length old
  pub before : (k : ℕ) → k < asked
      → Asks false (held_at old (turn_of pace.sub_vls pace.last k))
      (held_at new (turn_of pace.sub_vls pace.last k))
  pub others : (s : ℕ) → ((k : ℕ) → k < asked → turn_of pace.sub_vls pace.last k ≡ s → ⊥)
      → held_at new s ≡ held_at old s

-- A link: its plan, its regulation, its sub-VLs, whether one of its frames was lost with the last
-- network that carries it, and the counts of its frames.
pub record LinkState : Type 0 where
  pub end_system : ℕ
  pub plan : LinkPlan
  pub pace : Pace
  pub subs : List Held
  pub lost : Bool
  pub counts : Counts

-- the link at a place after the last
abbrev pub no_link : LinkState
no_link = record {
  end_system = 0;
  plan = no_link_plan;
  pace = record { gap = 0; sub_vls = 0; last = None; next = 0 };
  subs = [];
  lost = false;
  counts = zeros;
}

-- the link at a place
abbrev pub link_at : List LinkState → ℕ → LinkState
link_at links k = get_or links k no_link

-- the sub-VLs of a link are its plan's, at this end system
abbrev pub AreNamed : ℕ → LinkPlan → List Held → Type 0
AreNamed end_system plan subs = (s : ℕ) → s < length subs
    → (held_at subs s).of ≡ record { end_system = end_system; link = plan; sub = s }

-- the sub-VLs of a link are its plan's, whatever the end system
abbrev pub AreSubsOf : LinkPlan → List Held → Type 0
AreSubsOf plan subs = (s : ℕ) → s < length subs
    → ((held_at subs s).of.link ≡ plan) × ((held_at subs s).of.sub ≡ s)

-- The sub-VL is the same, with the same ports and queue. If the known messages belonged to its ports, they still do.
pub record IsSameSub (old new : Held) : Type 0 where
  pub of : new.of ≡ old.of
  pub ports : new.ports ≡ old.ports
  pub queue : IsSameQueue old.seen new.seen
  pub items : HasOwnItems old → HasOwnItems new

-- each sub-VL is the same
abbrev pub AreSameSubs : (old new : List Held) → Type 0
AreSameSubs old new = (s : ℕ) → IsSameSub (held_at old s) (held_at new s)

-- the invariant of a link and its plan
pub record IsLinkOfPlan (end_system : ℕ) (plan : LinkPlan) (pace : Pace) (subs : List Held) : Type 0 where
  pub count : length subs ≡ pace.sub_vls
  pub sub_vls : pace.sub_vls ≡ plan.sub_vls
  pub gap : pace.gap ≡ bag_micros plan.bag
  pub named : AreNamed end_system plan subs

-- a link's regulation by its stream: its last release, and the next sequence number
abbrev pub pace_of : ℕ → ℕ → List Entry → Pace
pace_of gap sub_vls stream = record {
  gap = gap;
  sub_vls = sub_vls;
  last = latest None stream;
  next = sequence_number (length stream);
}

-- a sub-VL gives its next frame
pub record Gives (old : Held) (frame : List ℕ) (new : Held) : Type 0 where
  pub next : old.left ≡ blanked frame ∷ new.left
  pub same : new ≡ record old { left = new.left }

-- a sub-VL is polled, has something, and gives its next frame
pub record GivesFrame (old : Held) (frame : List ℕ) (new : Held) : Type 0 where
  pub mid : Held
  pub asked : Asks true old mid
  pub gives : Gives mid frame new

-- a turn over sub-VLs with their queues
abbrev pub held_view : (old new : List Held) → TurnView
held_view old new = record {
  lacks = λ s. Passes (held_at old s) (held_at new s);
  rests = λ s. held_at new s ≡ held_at old s;
  gives = λ s frame. GivesFrame (held_at old s) frame (held_at new s);
}

-- one turn of a link that polls the queues of its sub-VLs
abbrev pub Serves : ℕ → LinkPlan → Pace → (old new : List Held) → (lines after : Lines) → Served → Type 0
Serves now plan pace old new lines after did = Turn now plan pace (held_view old new) lines after did

-- if no frame was lost, the regulation agrees with the stream
abbrev pub Follows : ℕ → Pace → Lines → Served → Type 0
Follows vl pace after Nothing =
    pace ≡ pace_of pace.gap pace.sub_vls (link_stream vl (log after))
Follows vl pace after (Released sub number) =
    pace ≡ pace_of pace.gap pace.sub_vls (link_stream vl (log after))
Follows vl pace after Lost = Unit {0}

-- the link and its sub-VLs are the same
pub record IsSameLink (old new : LinkState) : Type 0 where
  pub end_system : new.end_system ≡ old.end_system
  pub plan : new.plan ≡ old.plan
  pub gap : new.pace.gap ≡ old.pace.gap
  pub sub_vls : new.pace.sub_vls ≡ old.pace.sub_vls
  pub count : length new.subs ≡ length old.subs
  pub subs : AreSameSubs old.subs new.subs
