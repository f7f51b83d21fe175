-- The first time at which one link more becomes due.
use Rattle.afdx_tx.proofs.Names.{ℕ, ◌≡◌, ◌+◌, arith, inl, inr, false, LinkState, link_at, Lines, List, Option, Some, None, ◌^◌, min, cases_lt, MatchOption, may_release, RestsUntil, BecomesDue, StaysAsIs, NoneDueBefore, IsFirstDue, earlier}

-- One link more.
none_more : (now : ℕ) (links : List LinkState) (lines : Lines) (many until : ℕ) → NoneDueBefore now links lines many until
    → (may_release now (link_at links many).plan (link_at links many).pace lines ≡ false
    → RestsUntil now until (link_at links many).plan (link_at links many).pace lines)
    → NoneDueBefore now links lines (many + 1) until
none_more now links lines many until none own = grind arith

pub first_of_more : (now : ℕ) (links : List LinkState) (lines : Lines) (many : ℕ) (first own : Option ℕ)
    → IsFirstDue now links lines many first
    → MatchOption own (StaysAsIs now (link_at links many).plan (link_at links many).pace lines)
    (λ at. BecomesDue now at (link_at links many).plan (link_at links many).pace lines)
    → IsFirstDue now links lines (many + 1) (earlier first own)
first_of_more now links lines many None None none as_is =
    none_more now links lines many (2 ^ 64) none (grind arith)
first_of_more now links lines many None (Some at) none due = grind arith
first_of_more now links lines many (Some at) None first as_is = (
  grind arith,
  none_more now links lines many at first.1
      (grind arith),
)
first_of_more now links lines many (Some at) (Some other) first due = elim (cases_lt other at) [
  | inl lt ↦
      grind (arith, min)
  | inr ge ↦
      grind arith
]
