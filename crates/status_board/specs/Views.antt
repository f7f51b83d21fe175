-- The views that contracts have of the ends of a board, and of all that was published of a link.
use Rattle.std.specs.Prelude.{◌≡◌, ◌≤◌, List, [], ◌∷◌, ◌++◌, ℕ, ◌+◌, length, slice_index_or}
use Rattle.status_board.specs.declared.counts.Counts.{Counts}
use Rattle.atomic_table.specs.Seated.{TableId}

abbrev pub zeros : Counts
zeros = record { frames = 0; bytes = 0; messages = 0; last = 0 }

pub record NoFieldFalls (before after : Counts) : Type 0 where
  pub frames : before.frames ≤ after.frames
  pub bytes : before.bytes ≤ after.bytes
  pub messages : before.messages ≤ after.messages
  pub last : before.last ≤ after.last

-- the last entry, or `counts` if there is none
abbrev pub last_or : Counts → List Counts → Counts
last_or counts [] = counts
last_or counts (next ∷ entries) = last_or next entries

-- the value of a history: its last entry, all zeros if it is empty
abbrev pub value_of : List Counts → Counts
value_of history = last_or zeros history

abbrev pub RisesFrom : Counts → List Counts → Type 0
RisesFrom counts [] = Unit {0}
RisesFrom counts (next ∷ entries) = NoFieldFalls counts next × RisesFrom next entries

-- no field falls from one entry to the next
abbrev pub IsRising : List Counts → Type 0
IsRising history = RisesFrom zeros history

abbrev pub StartsWith : {A : Type 0} → List A → List A → Type 0
StartsWith {A} all first = (rest : List A) × (all ≡ first ++ rest)

-- a link's cell, whose name callers only compare, and its history
pub record Published : Type 0 where
  pub cell : TableId
  pub history : List Counts

-- a link's cell, the part of its history that was seen, and the number of loads by which it was
pub record Watched : Type 0 where
  pub cell : TableId
  pub history : List Counts
  pub loads : ℕ

-- the name of no cell
abbrev pub no_cell : TableId
no_cell = record { words = 0; slots = 0; views_name = 0; atom = 0; block = 0; offset = 0; slot_names = [] }

abbrev pub published : List Published → ℕ → Published
published board link = slice_index_or board link (record { cell = no_cell; history = [] })

abbrev pub seen : List Watched → ℕ → Watched
seen monitor link = slice_index_or monitor link (record { cell = no_cell; history = []; loads = 0 })

abbrev pub last_of : List Published → ℕ → Counts
last_of board link = value_of (published board link).history

abbrev pub links_of : List Watched → ℕ
links_of monitor = length monitor

abbrev pub with_entry : Published → Counts → Published
with_entry link counts = record link { history = link.history ++ counts ∷ [] }

-- One more load. It found the value of a history that begins with all that was seen before, so no field falls from one
-- reading to the next.
pub record IsReading (before : Watched) (found : Counts) (after : Watched) : Type 0 where
  pub cell : after.cell ≡ before.cell
  pub loads : after.loads ≡ before.loads + 1
  pub begins : StartsWith after.history before.history
  pub rising : IsRising after.history
  pub value : found ≡ value_of after.history
  pub above : NoFieldFalls (value_of before.history) found

-- both ends of a link have one cell; nothing was published, and nothing seen
pub record IsNew (written : Published) (read : Watched) : Type 0 where
  pub cell : written.cell ≡ read.cell
  pub unpublished : written.history ≡ []
  pub unseen : read.history ≡ []
  pub unread : read.loads ≡ 0

abbrev pub AreNew : List Published → List Watched → Type 0
AreNew board monitor = (link : ℕ) → IsNew (published board link) (seen monitor link)
