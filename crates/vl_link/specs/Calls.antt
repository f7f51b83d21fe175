-- The calls of a link beside its turn: its senders, the time at which it becomes due, closing, gathering, and the
-- messages left to send.
use Rattle.std.specs.Prelude.{ℕ, ◌≡◌, ◌<◌, ◌≤◌, length, slice_set, IfSome, ◌⊎◌, ◌^◌, true, false, List, [], Bool}
use Rattle.subvl_queue.specs.Views.{closed, SenderView, Brought, new_sender, one_more, taken_back, heard_from, AreBack, IsWhole, accepted_of}
use Rattle.vl_link.specs.Seen.{Seen, receiving, gathered, TellsDrained, ports_of, known_of, IsReceiving}
use Rattle.vl_link.specs.Links.{Held, LinkState, held_at, HasOwnItems}
use Rattle.afdx_plan.specs.declared.link_plan.LinkPlan.{LinkPlan}
use Rattle.redundant_mux.specs.Lines.{Lines}
use Rattle.vl_shaper.specs.Pace.{Pace}
use Rattle.vl_link.specs.Turn.{may_release}
use Rattle.subvl_queue.specs.Messages.{AreItems}

-- The queue is closed with this total, the final number of accepted messages. It has given at most this number, and if
-- it was closed before, the total is the same.
abbrev pub Closes : (total : ℕ) → (old new : Seen) → Type 0
Closes total (receiving old) new =
    (new ≡ receiving (closed old total))
    × (length old.taken ≤ total)
    × IfSome old.total (λ before. total ≡ before)
Closes total (gathered old) new = ⊥

-- a sub-VL whose queue changes in this way; all else is unchanged
pub record ChangesQueue (Change : Seen → Seen → Type 0) (old new : Held) : Type 0 where
  pub same : new ≡ record old { seen = new.seen }
  pub queue : Change old.seen new.seen

-- a link whose sub-VL with this index changes in this way; all else is unchanged
pub record ChangesSub (Change : Held → Held → Type 0) (sub : ℕ) (old new : LinkState) : Type 0 where
  pub within : sub < length old.subs
  pub same : new ≡ record old { subs = slice_set old.subs sub (held_at new.subs sub) }
  pub change : Change (held_at old.subs sub) (held_at new.subs sub)

-- the link may not release a frame from one time until another
abbrev pub RestsUntil : (from until : ℕ) → LinkPlan → Pace → Lines → Type 0
RestsUntil from until plan pace lines = (now : ℕ) → from ≤ now → now < until → may_release now plan pace lines ≡ false

-- the link may not release a frame now, and may first do so at `at`
pub record BecomesDue (now at : ℕ) (plan : LinkPlan) (pace : Pace) (lines : Lines) : Type 0 where
  pub few : at < 2 ^ 64
  pub rests : may_release now plan pace lines ≡ false
  pub until : RestsUntil now at plan pace lines
  pub due : may_release at plan pace lines ≡ true

-- the link may release a frame now, or at no later time of 64 bits
abbrev pub StaysAsIs : ℕ → LinkPlan → Pace → Lines → Type 0
StaysAsIs now plan pace lines = (may_release now plan pace lines ≡ true) ⊎ RestsUntil now (2 ^ 64) plan pace lines

-- true if no message is being sent, and it is known that none is left in the queue
abbrev pub TellsSubDone : Bool → Held → Type 0
TellsSubDone true held = (held.left ≡ []) × TellsDrained true held.seen
TellsSubDone false held = (held.left ≡ [] → ⊥) ⊎ TellsDrained false held.seen

-- a sub-VL isn't done
pub record HasSubLeft (subs : List Held) : Type 0 where
  pub sub : ℕ
  pub within : sub < length subs
  pub left : TellsSubDone false (held_at subs sub)

-- true if all sub-VLs are done
abbrev pub TellsSubsDone : Bool → List Held → Type 0
TellsSubsDone true subs = (s : ℕ) → s < length subs → TellsSubDone true (held_at subs s)
TellsSubsDone false subs = HasSubLeft subs

-- true if the link has lost no frame, and all its sub-VLs are done
abbrev pub TellsLinkDone : Bool → LinkState → Type 0
TellsLinkDone true link = (link.lost ≡ false) × TellsSubsDone true link.subs
TellsLinkDone false link = (link.lost ≡ true) ⊎ HasSubLeft link.subs

-- the queue has one more sender, with the next index and this limit of calls
abbrev pub MakesSender : (calls : ℕ) → SenderView → (old new : Seen) → Type 0
MakesSender calls sender (receiving old) new =
    (sender ≡ new_sender old.queue old.capacity old.most calls old.ports) × (new ≡ receiving (one_more old))
MakesSender calls sender (gathered old) new = ⊥

-- the queue has fewer than 64 senders, and none is back
abbrev pub MayHaveMore : Seen → Type 0
MayHaveMore (receiving r) = (r.ports < 64) × (r.back ≡ [])
MayHaveMore (gathered g) = ⊥

-- the queue took this sender back
abbrev pub TakesBack : SenderView → (old new : Seen) → Type 0
TakesBack sender (receiving old) new = new ≡ receiving (taken_back old sender)
TakesBack sender (gathered old) new = ⊥

-- the queue heard of this sender's messages
abbrev pub Hears : SenderView → (old new : Seen) → Type 0
Hears sender (receiving old) new = new ≡ receiving (heard_from old sender)
Hears sender (gathered old) new = ⊥

-- the messages that the returned senders brought
abbrev pub back_of : Seen → List Brought
back_of (receiving r) = r.back
back_of (gathered g) = []

-- the sub-VL has more ports than its queue has senders
pub record LacksSender (held : Held) : Type 0 where
  pub below : ports_of held.seen < length held.ports
  pub more : MayHaveMore held.seen

-- The accepted messages of the queue are known whole from now on: the taken ones, and the ones left. Each belongs to
-- one of its ports, and if the queue was closed, their number is its total.
abbrev pub BecomesWhole : (old new : Seen) → Type 0
BecomesWhole (receiving old) (gathered new) =
    (new.most ≡ old.most) × (new.taken ≡ old.taken) × (new.ports ≡ old.ports) × AreItems old.ports (accepted_of new)
    × IfSome old.total (λ total. total ≡ length (accepted_of new))
BecomesWhole (receiving old) (receiving new) = ⊥
BecomesWhole (gathered old) (receiving new) = ⊥
BecomesWhole (gathered old) (gathered new) = ⊥

-- all ends of a queue come together, and the part of each sender is its own list
pub record Gathers (old new : Seen) : Type 0 where
  pub queue : BecomesWhole old new
  pub whole : IsWhole (ports_of old) (back_of old) (known_of new)

-- the sender of each port of the sub-VL is back
pub record IsFullSub (held : Held) : Type 0 where
  pub receiving : IsReceiving held.seen
  pub every : AreBack (length held.ports) (back_of held.seen)

-- a sub-VL whose queue is gathered, with messages of its ports; all else is unchanged
pub record GathersSub (old new : Held) : Type 0 where
  pub same : new ≡ record old { seen = new.seen }
  pub gathers : Gathers old.seen new.seen
  pub items : HasOwnItems new

-- each sub-VL of a link is gathered
pub record GathersSubs (old new : List Held) : Type 0 where
  pub count : length new ≡ length old
  pub each : (s : ℕ) → s < length old → GathersSub (held_at old s) (held_at new s)

-- a link whose sub-VLs are gathered; all else is unchanged
pub record GathersLink (old new : LinkState) : Type 0 where
  pub same : new ≡ record old { subs = new.subs }
  pub subs : GathersSubs old.subs new.subs

-- the sender of each port of the link's sub-VLs is back
abbrev pub AreFullSubs : List Held → Type 0
AreFullSubs subs = (s : ℕ) → s < length subs → IsFullSub (held_at subs s)
