-- A message that was sent is found by the poll that comes to it, if the emitter was told of it.
use Rattle.std.specs.Prelude.{ℕ, ◌≡◌, ◌⊎◌, ◌<◌, ◌++◌, true, List, [], ◌∷◌, length, get_or, Contains, None}
use Rattle.afdx_plan.specs.Config.{Plan, IsPlan, link_plan_at}
use Rattle.afdx_plan.specs.Plan.{bag_micros}
use Rattle.afdx_frame.specs.Fragments.{blanked}
use Rattle.redundant_mux.specs.Lines.{Lines, any_up, entry}
use Rattle.vl_shaper.specs.Pace.{is_due, turn_of}
use Rattle.afdx_legal.specs.Streams.{latest}
use Rattle.subvl_queue.specs.Views.{Brought, ReceiverView, SenderView, HasAt, IsLast}
use Rattle.vl_link.specs.Seen.{receiving, taken_of, ports_of}
use Rattle.vl_link.specs.Links.{Held, held_at, link_at, message_fragments, sent_of}
use Rattle.afdx_tx.specs.DrainEnds.{stream_at}
use Rattle.afdx_tx.specs.Emitter.{Tx}
use Rattle.afdx_tx.specs.Gathering.{held_for}
use Rattle.afdx_tx.specs.Hearing.{place_of}
use Rattle.afdx_tx.specs.Ports.{PortView}
use Rattle.afdx_laws.specs.Runs.{EmitterPolls}
use Rattle.afdx_laws.specs.MessageInRun.{FindsIt, seen_of}

-- a message of one of these senders, and its index among the messages of that sender
abbrev pub HasAs : List Brought → ℕ → ℕ × List ℕ → Type 0
HasAs senders index item = (b : Brought) × Contains senders b × (index < length b.own)
    × (item ≡ (b.port, get_or b.own index []))

-- The message is the next one to take, by what the sub-VL's receiver was told: its place is the next, or the queue has
-- one sender, and the messages before it are taken.
pub record IsNextIn (held : Held) (item : ℕ × List ℕ) : Type 0 where
  pub receiver : ReceiverView
  pub receives : held.seen ≡ receiving receiver
  pub next : HasAt receiver.heard (length receiver.taken) item
      ⊎ ((receiver.ports ≡ 1) × HasAs receiver.heard (length receiver.taken) item)

-- sub-VL `s` of link `k` before a poll
abbrev pub held_before : {plan : Plan} {now : ℕ} {lines after : Lines} → EmitterPolls plan now lines after → (k s : ℕ)
    → Held
held_before poll k s = held_at (link_at poll.old.links k).subs s

-- Link `k` is due, and sub-VL `s` is the first in its turn, by the frames sent before.
pub record IsItsTurn (plan : Plan) (k s now : ℕ) (lines : Lines) : Type 0 where
  pub due : is_due (bag_micros (link_plan_at plan.links k).bag) (latest None (stream_at plan k lines)) now ≡ true
  pub first : turn_of (link_plan_at plan.links k).sub_vls (latest None (stream_at plan k lines)) 0 ≡ s

-- The poll released the first fragment of this message of a sub-VL, and nothing else of the link.
pub record ReleasesFirst (plan : Plan) (k now : ℕ) (held : Held) (item : ℕ × List ℕ) (lines after : Lines)
    : Type 0 where
  pub frame : List ℕ
  pub rest : List (List ℕ)
  pub first : message_fragments held.of (length (taken_of held.seen)) (sent_of held.ports item) ≡ blanked frame ∷ rest
  pub stream : stream_at plan k after ≡ stream_at plan k lines ++ entry now frame ∷ []

-- A poll at the turn of a sub-VL that has begun no message releases the first fragment of the next one, if the emitter
-- was told of it. A network that carries the link is up afterwards.
abbrev pub ReleasesHeard : Type 0
ReleasesHeard = (plan : Plan) (now : ℕ) (lines after : Lines) (k s : ℕ) (item : ℕ × List ℕ)
    (poll : EmitterPolls plan now lines after) → IsPlan plan → k < length plan.links
    → s < (link_plan_at plan.links k).sub_vls → (held_before poll k s).left ≡ [] → IsNextIn (held_before poll k s) item
    → IsItsTurn plan k s now lines → any_up (link_plan_at plan.links k).networks after ≡ true
    → ReleasesFirst plan k now (held_before poll k s) item lines after

-- A poll of an emitter finds the messages of a sub-VL (`FindsIt`), if it was told of the next one whenever it has begun
-- none and fewer than `many` of the fragments are sent.
abbrev pub HeardIsFound : Type 0
HeardIsFound = (plan : Plan) (now : ℕ) (lines after : Lines) (k s many : ℕ) (poll : EmitterPolls plan now lines after)
    → (length (seen_of s (stream_at plan k lines)) < many → (held_before poll k s).left ≡ []
    → (item : ℕ × List ℕ) × IsNextIn (held_before poll k s) item)
    → FindsIt plan k s many now lines after

-- The message that a port has just sent is the next of its sub-VL: its place is the next, or the queue has no other
-- port, and the port's earlier messages are taken.
abbrev pub IsSentNext : Held → (old new : SenderView) → Type 0
IsSentNext held old new = IsLast new.places (length (taken_of held.seen))
    ⊎ ((ports_of held.seen ≡ 1) × (length (taken_of held.seen) ≡ length old.own))

-- After a port accepted a message and the emitter was polled: if the message is the next of its sub-VL, which has begun
-- none, and it is the sub-VL's turn, the poll released the first fragment. A network that carries the link is up then.
abbrev pub FindsSent : (now : ℕ) (tx : Tx) (port : PortView) (bytes : List ℕ) (sent : PortView) (after : Tx) → Type 0
FindsSent now tx port bytes sent after = IsSentNext (held_for tx port.plan) port.sender sent.sender
    → (held_for tx port.plan).left ≡ [] → IsItsTurn tx.plan (place_of tx port) port.plan.sub now tx.lines
    → any_up (link_plan_at tx.plan.links (place_of tx port)).networks after.lines ≡ true
    → ReleasesFirst tx.plan (place_of tx port) now (held_for tx port.plan) (port.sender.port, bytes)
    tx.lines after.lines
