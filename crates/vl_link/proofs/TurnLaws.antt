-- A turn of a link, for any view of its sub-VLs.
use Rattle.vl_link.proofs.Names.{ℕ, zero, suc, ◌≡◌, ◌≢◌, ◌⊎◌, ◌+◌, ◌<◌, ◌≤◌, List, true, arith, ⊎_elim, cases_eq, LinkPlan, Lines, BothEndure, Pace, turn_of, Served, TurnView, IsChoice, Turn, AreTurns, may_release, both_on}
use Rattle.vl_link.proofs.Choosing.{met}

-- The chosen sub-VL is one of the link's.
pub choice_below : (pace : Pace) (has lacks rests : ℕ → Type 0) (sub : ℕ) → IsChoice pace has lacks rests sub
    → sub < pace.sub_vls
choice_below pace has lacks rests sub c = grind arith

-- A sub-VL other than the chosen one has nothing, or wasn't polled.
pub choice_other : (pace : Pace) (has lacks rests : ℕ → Type 0) (sub : ℕ) → IsChoice pace has lacks rests sub
    → (s : ℕ) → s ≢ sub → lacks s ⊎ rests s
choice_other pace has lacks rests sub c s ne = ⊎_elim
    (grind arith) (grind arith)
    (met (turn_of pace.sub_vls pace.last) c.turn s)

-- what holds in one view holds in the other
pub record IsSeenIn (pace : Pace) (view other : TurnView) : Type 0 where
  pub lacks : (s : ℕ) → s < pace.sub_vls → view.lacks s → other.lacks s
  pub rests : (s : ℕ) → view.rests s → other.rests s
  pub gives : (s : ℕ) (frame : List ℕ) → s < pace.sub_vls → view.gives s frame → other.gives s frame

-- A turn in one view is a turn in another that says no more: of the sub-VLs that weren't polled,
-- and of the others if the link may release a frame.
pub turn_seen : (now : ℕ) (plan : LinkPlan) (pace : Pace) (view other : TurnView) (lines after : Lines) (did : Served)
    → ((s : ℕ) → view.rests s → other.rests s) → (may_release now plan pace lines ≡ true → IsSeenIn pace view other)
    → Turn now plan pace view lines after did → Turn now plan pace other lines after did
turn_seen now plan pace view other lines after did rests seen t = grind arith

-- A network that is down after a turn was down before it, or failed in it.
pub turn_endures : (now : ℕ) (plan : LinkPlan) (pace : Pace) (view : TurnView) (lines after : Lines) (did : Served)
    → Turn now plan pace view lines after did → BothEndure lines after
turn_endures now plan pace view lines after did t = grind arith

-- The same through a list of turns.
pub turns_endure : (P : ℕ → Lines → Lines → Served → Type 0) (k many : ℕ) (lines after : Lines)
    → ((i : ℕ) (before behind : Lines) (did : Served) → P i before behind did → BothEndure before behind)
    → AreTurns P k many lines after → BothEndure lines after
turns_endure P k zero lines after f r = grind arith
turns_endure P k (suc many) lines after f r =
    both_on lines r.0 after (f k lines r.0 r.1 r.2) (turns_endure P (k + 1) many r.0 after f r.3)

-- Turns of one kind are turns of another.
pub turns_seen : (P Q : ℕ → Lines → Lines → Served → Type 0) (k many : ℕ) (lines after : Lines)
    → ((i : ℕ) → k ≤ i → i < k + many → (before behind : Lines) (did : Served) → P i before behind did → Q i before behind did)
    → AreTurns P k many lines after → AreTurns Q k many lines after
turns_seen P Q k zero lines after f r = r
turns_seen P Q k (suc many) lines after f r = (
  r.0,
  r.1,
  grind arith,
  turns_seen P Q (k + 1) many r.0 after (grind arith) r.3,
)

-- One turn more at the end.
pub turns_push : (P : ℕ → Lines → Lines → Served → Type 0) (k many : ℕ) (lines mid after : Lines) (did : Served)
    → AreTurns P k many lines mid → P (k + many) mid after did
    → AreTurns P k (suc many) lines after
turns_push P k zero lines mid after did r t = let at : k + 0 ≡ k = omega arith in grind arith
turns_push P k (suc many) lines mid after did r t = (
  r.0,
  r.1,
  r.2,
  turns_push P (k + 1) many r.0 mid after did r.3 (grind arith),
)

-- A property that each turn shows holds at each place.
pub turns_each : (P : ℕ → Lines → Lines → Served → Type 0) (Q : ℕ → Type 0) (k many : ℕ) (lines after : Lines)
    → ((i : ℕ) (before behind : Lines) (did : Served) → P i before behind did → Q i)
    → AreTurns P k many lines after → (i : ℕ) → k ≤ i → i < k + many → Q i
turns_each P Q k zero lines after f r i le lt = absurd (omega arith)
turns_each P Q k (suc many) lines after f r i le lt = ⊎_elim
    (grind arith)
    (λ (ne : i ≢ k). turns_each P Q (k + 1) many r.0 after f r.3 i (omega arith) (omega arith))
    (cases_eq i k)
