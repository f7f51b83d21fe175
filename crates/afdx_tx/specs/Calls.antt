-- The calls of an emitter beside its polls: closing, publishing, and the time at which a link becomes due.
use Rattle.std.specs.Prelude.{ℕ, ◌≡◌, ◌<◌, length, slice_set, ◌^◌, List, false, min, Option, Some, None, ◌↔◌, IsNone, IfSome}
use Rattle.afdx_plan.specs.Config.{Plan, link_plan_at}
use Rattle.vl_link.specs.Links.{link_at, LinkState}
use Rattle.vl_link.specs.Calls.{ChangesSub, ChangesQueue, Closes, RestsUntil, BecomesDue}
use Rattle.afdx_tx.specs.Emitter.{Tx, IsLinkAt, LacksLink}
use Rattle.redundant_mux.specs.Lines.{Lines}
use Rattle.vl_link.specs.Turn.{may_release}
use Rattle.status_board.specs.declared.counts.Counts.{Counts}
use Rattle.status_board.specs.Views.{NoFieldFalls, Published, published, last_of, with_entry}
use Rattle.afdx_legal.specs.Streams.{own_stream}
use Rattle.afdx_legal.specs.Counting.{counts_in}

-- the link at this place of the plan has this identifier, and a sub-VL with this index
pub record IsSubAt (plan : Plan) (vl sub place : ℕ) : Type 0 where
  pub within : place < length plan.links
  pub id : (link_plan_at plan.links place).id.0 ≡ vl
  pub below : sub < (link_plan_at plan.links place).sub_vls

-- no link of the plan has this identifier and a sub-VL with this index
abbrev pub LacksSub : Plan → ℕ → ℕ → Type 0
LacksSub plan vl sub = (place : ℕ) → IsSubAt plan vl sub place → ⊥

-- an emitter one of whose sub-VLs is closed with this total; all else is unchanged
pub record ClosesTx (old : Tx) (vl sub total : ℕ) (new : Tx) : Type 0 where
  pub place : ℕ
  pub at : IsSubAt old.plan vl sub place
  pub same : new ≡ record old { links = slice_set old.links place (link_at new.links place) }
  pub closes : ChangesSub (ChangesQueue (Closes total)) sub (link_at old.links place) (link_at new.links place)

-- none of the first `many` links that may not release a frame now may do so before this time
abbrev pub NoneDueBefore : (now : ℕ) → List LinkState → Lines → (many at : ℕ) → Type 0
NoneDueBefore now links lines many at = (k : ℕ) → k < many
    → may_release now (link_at links k).plan (link_at links k).pace lines ≡ false
    → RestsUntil now at (link_at links k).plan (link_at links k).pace lines

-- one of the first `many` links may not release a frame now, and may first do so at this time
pub record OneDueAt (now : ℕ) (links : List LinkState) (lines : Lines) (many at : ℕ) : Type 0 where
  pub place : ℕ
  pub within : place < many
  pub due : BecomesDue now at (link_at links place).plan (link_at links place).pace lines

-- The first time at which one of the first `many` links may release a frame and may not now. None:
-- there is no such time of 64 bits.
abbrev pub IsFirstDue : (now : ℕ) → List LinkState → Lines → (many : ℕ) → Option ℕ → Type 0
IsFirstDue now links lines many None = NoneDueBefore now links lines many (2 ^ 64)
IsFirstDue now links lines many (Some at) = OneDueAt now links lines many at × NoneDueBefore now links lines many at

-- the first time after the last poll at which a link of the emitter may release a frame and couldn't then
abbrev pub TellsNextDue : Tx → Option ℕ → Type 0
TellsNextDue tx next = IsFirstDue tx.moment tx.links tx.lines (length tx.links) next

-- the earlier of two times
abbrev pub earlier : Option ℕ → Option ℕ → Option ℕ
earlier None other = other
earlier (Some at) None = Some at
earlier (Some at) (Some other) = Some (min at other)

-- the board has these links, and the last published counts of each are at most the current ones
pub record Reaches (links : List LinkState) (board : List Published) : Type 0 where
  pub count : length board ≡ length links
  pub each : (k : ℕ) → k < length links → NoFieldFalls (last_of board k) (link_at links k).counts

-- the counts of each link were published, once
pub record PublishesCounts (links : List LinkState) (old new : List Published) : Type 0 where
  pub count : length new ≡ length old
  pub each : (k : ℕ) → k < length links
      → published new k ≡ with_entry (published old k) (link_at links k).counts

-- the counts of the own stream of the link at a place, the longer of its two
abbrev pub counts_at : Tx → ℕ → Counts
counts_at tx k = counts_in (own_stream (link_plan_at tx.plan.links k).id.0 tx.lines.a tx.lines.b)

-- the counts of the link with this identifier, as they would be published now; none exactly if there is no such link
pub record ShowsCounts (tx : Tx) (vl : ℕ) (shown : Option Counts) : Type 0 where
  pub missing : IsNone shown ↔ LacksLink tx.plan vl
  pub counts : IfSome shown (λ counts. counts ≡ counts_in (own_stream vl tx.lines.a tx.lines.b))
  pub as_published : IfSome shown (λ counts. (place : ℕ) → IsLinkAt tx.plan vl place → counts ≡ counts_at tx place)

-- An emitter whose board has one entry more of each link, in the order of the plan: the counts of
-- the link's own stream. No field falls; all else is unchanged.
pub record Publishes (old new : Tx) : Type 0 where
  pub same : new ≡ record old { board = new.board }
  pub count : length new.board ≡ length old.board
  pub each : (k : ℕ) → k < length old.plan.links
      → published new.board k ≡ with_entry (published old.board k) (counts_at old k)
  pub rises : (k : ℕ) → k < length old.plan.links → NoFieldFalls (last_of old.board k) (counts_at old k)
