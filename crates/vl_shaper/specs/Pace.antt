-- The regulation of a virtual link (ARINC 664 Part 7, bandwidth allocation gap and sub-VLs), and its choices in cyclic
-- order.
use Rattle.std.specs.Prelude.{ℕ, zero, suc, ◌+◌, ◌-◌, ◌%◌, ◌<◌, ◌≤◌, Bool, true, nat_le, Option, Some, None, ◌≡◌, ◌≢◌, List, [], ◌∷◌, false, nat_eq, count_by, if◌then◌else◌, min, ◌^◌}
use Rattle.vl_shaper.specs.declared.shaper.Stamp.{Stamp}

-- a link's gap in microseconds, its number of sub-VLs, its last release, and the next sequence number
pub record Pace : Type 0 where
  pub gap : ℕ
  pub sub_vls : ℕ
  pub last : Option Stamp
  pub next : ℕ

-- nothing was released, or the last release was at least a gap ago
abbrev pub is_due : ℕ → Option Stamp → ℕ → Bool
is_due gap None now = true
is_due gap (Some last) now = nat_le gap (now - last.at)

-- the time from which the link is due
abbrev pub due_from : ℕ → Option Stamp → ℕ
due_from gap None = 0
due_from gap (Some last) = last.at + gap

-- the time from which the link is due, or the greatest of 64 bits if that has more
abbrev pub waits_until : ℕ → Option Stamp → ℕ
waits_until gap last = min (due_from gap last) (2 ^ 64 - 1)

-- the time isn't before the last release
abbrev pub IsLater : Option Stamp → ℕ → Type 0
IsLater None now = Unit {0}
IsLater (Some last) now = last.at ≤ now

-- the sub-VL of turn number k, from 0: cyclic order after the last served sub-VL, at first from sub-VL 0
abbrev pub turn_of : ℕ → Option Stamp → ℕ → ℕ
turn_of sub_vls None k = k
turn_of sub_vls (Some last) k = (last.sub + 1 + k) % sub_vls

-- the last release belongs to one of these sub-VLs
abbrev pub IsBelow : ℕ → Option Stamp → Type 0
IsBelow sub_vls None = Unit {0}
IsBelow sub_vls (Some last) = last.sub < sub_vls

-- the invariant of a shaper
pub record IsShaped (gap sub_vls : ℕ) (last : Option Stamp) : Type 0 where
  pub some : 1 ≤ sub_vls
  pub few : sub_vls ≤ 4
  pub below : IsBelow sub_vls last

-- the sub-VLs that had something, and the chosen one
pub record Choice : Type 0 where
  pub has : ℕ → Bool
  pub sub : ℕ

-- the sub-VL of turn number k, from 0, after this last served sub-VL
abbrev pub next_turn : ℕ → ℕ → ℕ → ℕ
next_turn subs last k = (last + 1 + k) % subs

-- the chosen sub-VL is the first in the order of turns that had something
pub record IsChosen (subs : ℕ) (order : ℕ → ℕ) (choice : Choice) : Type 0 where
  pub turn : ℕ
  pub within : turn < subs
  pub is : choice.sub ≡ order turn
  pub had : choice.has choice.sub ≡ true
  pub before : (k : ℕ) → k < turn → choice.has (order k) ≡ false

-- each choice is the first in cyclic order that had something
abbrev pub AreChosen : ℕ → ℕ → List Choice → Type 0
AreChosen subs last [] = Unit {0}
AreChosen subs last (choice ∷ choices) =
    IsChosen subs (next_turn subs last) choice × AreChosen subs choice.sub choices

-- The number of a link's sub-VLs that use it. A sub-VL without a port never does.
abbrev pub users_among : ℕ → (ℕ → Bool) → ℕ
users_among zero uses = 0
users_among (suc subs) uses = if uses subs then suc (users_among subs uses) else users_among subs uses

-- each chosen sub-VL uses the link
abbrev pub AreOfUsers : (ℕ → Bool) → List Choice → Type 0
AreOfUsers uses [] = Unit {0}
AreOfUsers uses (choice ∷ choices) = (uses choice.sub ≡ true) × AreOfUsers uses choices

-- the sub-VL had something at each of these choices, and was never chosen
abbrev pub IsPassedOver : ℕ → List Choice → Type 0
IsPassedOver x [] = Unit {0}
IsPassedOver x (choice ∷ choices) = (choice.has x ≡ true) × (choice.sub ≢ x) × IsPassedOver x choices

-- Between two neighbouring choices of a sub-VL that had something at each choice between them, each
-- other sub-VL is chosen at most once.
abbrev pub OneEach : Type 0
OneEach = (subs x y : ℕ) (between : List Choice) → x < subs → AreChosen subs x between
    → IsPassedOver x between → count_by (λ (c : Choice). nat_eq c.sub y) between ≤ 1
