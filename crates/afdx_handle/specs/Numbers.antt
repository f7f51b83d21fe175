-- The numbers of the header, and the counts as C has them.
use Rattle.std.specs.Prelude.{ℕ, ◌≡◌, ◌⊎◌, List, [], ◌∷◌, Bool, true, false, Option, Some, None, nat_eq, if◌then◌else◌}
use Rattle.afdx_frame.specs.declared.net.Net.{Net}
use Rattle.afdx_frame.specs.declared.net.Net.TheVariants.{A, B}
use Rattle.redundant_mux.specs.Lines.{Entry, Lines}
use Rattle.status_board.specs.declared.counts.Counts.{Counts}
use Rattle.afdx_tx.specs.declared.fault.Refusal.{Refusal}
use Rattle.afdx_tx.specs.declared.fault.Refusal.TheVariants.{Empty, TooLong, Closed, Exhausted, Full}
use Rattle.afdx_handle.specs.declared.answer.LinkCounts.{LinkCounts}

-- the network with this number
abbrev pub net_of : ℕ → Option Net
net_of number = if nat_eq number 0 then Some A else if nat_eq number 1 then Some B else None

-- the frames that a network accepted
abbrev pub line_of : Net → Lines → List Entry
line_of A lines = lines.a
line_of B lines = lines.b

-- the number of a refusal
abbrev pub refusal_number : Refusal → ℕ
refusal_number Empty = 1
refusal_number TooLong = 2
refusal_number Closed = 3
refusal_number Exhausted = 4
refusal_number Full = 5

-- the networks that are up, as bits: 1 for A and 2 for B
abbrev pub standing_bits : (a b : Bool) → ℕ
standing_bits false false = 0
standing_bits true false = 1
standing_bits false true = 2
standing_bits true true = 3

-- the number is one of these
abbrev pub IsOneOf : ℕ → List ℕ → Type 0
IsOneOf number [] = ⊥
IsOneOf number (first ∷ rest) = (number ≡ first) ⊎ IsOneOf number rest

-- counts of a link, and the same counts in the layout of C
pub record AreCountsOf (counts : Counts) (written : LinkCounts) : Type 0 where
  pub frames : written.frames ≡ counts.frames
  pub bytes : written.bytes ≡ counts.bytes
  pub messages : written.messages ≡ counts.messages
  pub last : written.last ≡ counts.last
