-- The wait of a message on its link, in choices among the link's sub-VLs.
use Rattle.std.specs.Prelude.{ℕ, Bool, ◌≡◌, ◌+◌, ◌-◌, ◌*◌, ◌<◌, ◌≤◌, List, [], ◌∷◌, true, nat_eq, count_by, length}
use Rattle.vl_shaper.specs.Pace.{Choice, AreChosen, AreOfUsers, users_among}

-- the number of choices of a sub-VL
abbrev pub turns_of : ℕ → List Choice → ℕ
turns_of x choices = count_by (λ (c : Choice). nat_eq c.sub x) choices

-- the sub-VL had something at each of these choices until it was chosen this often
abbrev pub HasUntil : ℕ → ℕ → List Choice → Type 0
HasUntil x many [] = Unit {0}
HasUntil x many (choice ∷ choices) =
    (1 ≤ many → choice.has x ≡ true) × HasUntil x (many - turns_of x (choice ∷ [])) choices

-- A message of `fragments` fragments, after `queued` fragments of its own sub-VL, is wholly released after `queued +
-- fragments` rounds of the sub-VLs that use the link, whatever the others of them send.
abbrev pub QueuedMessage : Type 0
QueuedMessage = (subs x last queued fragments : ℕ) (uses : ℕ → Bool) (choices : List Choice) → x < subs → last < subs
    → uses x ≡ true → AreChosen subs last choices → AreOfUsers uses choices
    → HasUntil x (queued + fragments) choices
    → users_among subs uses * (queued + fragments) ≤ length choices
    → queued + fragments ≤ turns_of x choices

-- One choice fewer is not enough. On each link there are choices, one fewer than these rounds, that
-- leave a fragment queued although the sub-VL had something at each of them.
abbrev pub BoundIsMet : Type 0
BoundIsMet = (subs x fragments : ℕ) → x < subs → 1 ≤ fragments → (choices : List Choice)
    × AreChosen subs x choices
    × HasUntil x fragments choices
    × (length choices + 1 ≡ subs * fragments)
    × (turns_of x choices < fragments)
