-- The rule of a link's cell, over the value that it holds and the knowledge of each pass.
use Rattle.std.specs.Prelude.{◌≡◌, ℕ, ◌+◌, List, [], ◌∷◌, ◌++◌, map, true, false}
use mathlib.Core.Option.{some}
use lib.ListN.{get_elem?}
use Rattle.status_board.specs.declared.counts.Counts.{Counts}
use Rattle.status_board.specs.declared.rule.Stamped.{Stamped}
use Rattle.status_board.specs.declared.rule.View.{View}
use Rattle.status_board.specs.Views.{value_of, IsRising, StartsWith}

abbrev pub stamped : Counts → ℕ → Stamped
stamped counts loads = record { counts = counts; loads = loads }

abbrev pub counts_of : List Stamped → List Counts
counts_of entries = map (λ e. e.counts) entries

-- each was published after exactly `loads` loads of the monitor
abbrev pub AreAfter : ℕ → List Stamped → Type 0
AreAfter loads [] = Unit {0}
AreAfter loads (e ∷ es) = (e.loads ≡ loads) × AreAfter loads es

-- The knowledge of a pass is true. The writer's pass knows the whole history. The monitor's pass knows the number of
-- its loads: each entry that it has not seen was published after that many loads, so a load shows all that was
-- published before.
pub record Fits (writer monitor loads : ℕ) (history : List Stamped) (pass : ℕ) (v : View) : Type 0 where
  pub knows : StartsWith history v.history
  pub heard : StartsWith history v.heard
  pub as_writer : v.writes ≡ true → (pass ≡ writer) × (v.history ≡ history)
  pub as_monitor : v.reads ≡ true → (pass ≡ monitor) × (v.loads ≡ loads) × AreAfter loads knows.0

-- The cell holds the value of one history.
pub record KeepsHistory (value : Counts) (views : List View) : Type 0 where
  pub writer : ℕ
  pub monitor : ℕ
  pub loads : ℕ
  pub history : List Stamped
  pub value_is : value ≡ value_of (counts_of history)
  pub rising : IsRising (counts_of history)
  pub each : (pass : ℕ) (v : View) → get_elem? views pass ≡ some v → Fits writer monitor loads history pass v

pub record Adds (old : View) (before published : Counts) (new : View) : Type 0 where
  pub loads : ℕ
  pub is : new ≡ record old { history = old.history ++ stamped published loads ∷ [] }

-- One more load, which found the value of a history. The history begins with all that was seen, and all that was heard.
pub record FindsEntry (old : View) (before found : Counts) (new : View) : Type 0 where
  pub writes : new.writes ≡ old.writes
  pub reads : new.reads ≡ old.reads
  pub loads : new.loads ≡ old.loads + 1
  pub heard : new.heard ≡ old.heard
  pub begins : StartsWith new.history old.history
  pub told : StartsWith new.history old.heard
  pub rising : IsRising (counts_of new.history)
  pub value : found ≡ value_of (counts_of new.history)

-- the writer's heard history is a prefix of its published history
pub record Agrees (old : View) (before after : Counts) (new : View) : Type 0 where
  pub same : new ≡ old
  pub begins : StartsWith old.history old.heard

-- the view of the first pass: it may write, and make the monitor
abbrev pub opener : View
opener = record { writes = true; reads = true; history = []; loads = 0; heard = [] }

-- the writer, once another pass reads
abbrev pub without_reading : View → View
without_reading v = record v { reads = false }

-- the monitor that it makes
abbrev pub as_monitor : View → View
as_monitor v = record v { writes = false }

-- a pass that only carries knowledge of the history
abbrev pub as_told : View → View
as_told v = record v { writes = false; reads = false }

-- the first pass hears the history that the second knows
abbrev pub hearing : View → View → View
hearing v w = record v { heard = w.history }

-- the view of a pass that belongs to neither end
abbrev pub nobody : View
nobody = as_told opener
