-- One turn of a virtual link, for a view of its sub-VLs, and the turns of links in order.
use Rattle.std.specs.Prelude.{ℕ, zero, suc, ◌≡◌, ◌⊎◌, ◌+◌, ◌<◌, ◌≤◌, List, [], ◌∷◌, ◌++◌, Bool, true, false, ◌&&◌}
use Rattle.afdx_plan.specs.declared.link_plan.LinkPlan.{LinkPlan}
use Rattle.afdx_frame.specs.declared.net.Net.TheVariants.{A}
use Rattle.afdx_frame.specs.Header.{IsFrameOf}
use Rattle.redundant_mux.specs.Lines.{entry, logged_for, Lines, BothEndure, any_up}
use Rattle.vl_shaper.specs.Pace.{Pace, is_due, turn_of}
use Rattle.vl_link.specs.declared.link.Served.{Served}
use Rattle.vl_link.specs.declared.link.Served.TheVariants.{Nothing, Released, Lost}

-- A view of a link's sub-VLs in a turn, by their index: a sub-VL was polled and has nothing, wasn't
-- polled, or had something and gave this frame.
pub record TurnView : Type 1 where
  pub lacks : ℕ → Type 0
  pub rests : ℕ → Type 0
  pub gives : ℕ → List ℕ → Type 0

-- The round-robin choice: the first sub-VL that has something, in cyclic order after the one served last. The sub-VLs
-- before it have nothing, and the others aren't polled (ARINC 664 Part 7).
pub record IsChoice (pace : Pace) (has lacks rests : ℕ → Type 0) (sub : ℕ) : Type 0 where
  pub turn : ℕ
  pub within : turn < pace.sub_vls
  pub is : sub ≡ turn_of pace.sub_vls pace.last turn
  pub chosen : has sub
  pub before : (k : ℕ) → k < turn → lacks (turn_of pace.sub_vls pace.last k)
  pub others : (s : ℕ) → ((k : ℕ) → k ≤ turn → turn_of pace.sub_vls pace.last k ≡ s → ⊥) → rests s

-- each sub-VL was polled, and none has anything
pub record NoneHas (pace : Pace) (lacks rests : ℕ → Type 0) : Type 0 where
  pub each : (s : ℕ) → s < pace.sub_vls → lacks s
  pub others : (s : ℕ) → pace.sub_vls ≤ s → rests s

-- a link may release a frame: it is due, and a network that carries it is up
abbrev pub may_release : ℕ → LinkPlan → Pace → Lines → Bool
may_release now plan pace lines = is_due pace.gap pace.last now && any_up plan.networks lines

-- the chosen sub-VL gave a frame with this number, and a network that carries the link accepted it
pub record Releases (now : ℕ) (plan : LinkPlan) (pace : Pace) (view : TurnView) (sub number : ℕ)
    (lines after : Lines) : Type 0 where
  pub frame : List ℕ
  pub choice : IsChoice pace (λ s. view.gives s frame) view.lacks view.rests sub
  pub of : IsFrameOf plan.id.0 sub number A frame
  pub enters : after.logged ≡ lines.logged ++ logged_for plan.networks (entry now frame) ∷ []
  pub stands : any_up plan.networks after ≡ true
  pub stays_down : BothEndure lines after

-- the last network that carries the link failed with the chosen sub-VL's frame
pub record Loses (plan : LinkPlan) (pace : Pace) (view : TurnView) (lines after : Lines) : Type 0 where
  pub sub : ℕ
  pub frame : List ℕ
  pub choice : IsChoice pace (λ s. view.gives s frame) view.lacks view.rests sub
  pub same : after.logged ≡ lines.logged
  pub down : any_up plan.networks after ≡ false
  pub stays_down : BothEndure lines after

-- One turn of a link, by its outcome. A link that isn't due, or whose networks are all down, releases nothing and polls
-- no sub-VL. If no sub-VL has anything, it releases nothing either. Otherwise it releases one frame at `now` with the
-- next number, if the last network that carries it doesn't fail.
abbrev pub Turn : ℕ → LinkPlan → Pace → TurnView → (lines after : Lines) → Served → Type 0
Turn now plan pace view lines after Nothing =
    (((may_release now plan pace lines ≡ false) × ((s : ℕ) → view.rests s))
    ⊎ ((may_release now plan pace lines ≡ true) × NoneHas pace view.lacks view.rests))
    × (after ≡ lines)
Turn now plan pace view lines after (Released sub number) =
    (may_release now plan pace lines ≡ true)
    × (number ≡ pace.next)
    × Releases now plan pace view sub number lines after
Turn now plan pace view lines after Lost =
    (may_release now plan pace lines ≡ true) × Loses plan pace view lines after

-- true if the turn lost a frame with the last network that carries the link
abbrev pub is_lost : Served → Bool
is_lost Nothing = false
is_lost (Released sub number) = false
is_lost Lost = true

-- `many` links have their turns in order, from place k on
abbrev pub AreTurns : (ℕ → (lines after : Lines) → Served → Type 0) → (k many : ℕ)
    → (lines after : Lines) → Type 0
AreTurns IsTurn k zero lines after = after ≡ lines
AreTurns IsTurn k (suc many) lines after =
    (mid : Lines)
    × (did : Served)
    × IsTurn k lines mid did
    × AreTurns IsTurn (k + 1) many mid after
