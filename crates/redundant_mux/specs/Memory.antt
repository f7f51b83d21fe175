-- Networks in memory: two that keep all frames, one of them with all bytes in one buffer, and one that keeps the last.
use Rattle.std.specs.Prelude.{ℕ, List, [], Option, Some, None, All, take, drop, map, ◌≡◌, ◌≢◌, ◌⊎◌, ◌↔◌, ◌+◌, ◌-◌, ◌%◌, ◌^◌, ◌<◌, ◌≤◌, ◌∷◌, Bool, true, false, length, get_or}
use Rattle.std.specs.List.{sum_by}
use Rattle.std.specs.Borrow.{Bor}
use Rattle.afdx_frame.specs.declared.net.TheConstants.{GREATEST_FRAME}
use Rattle.redundant_mux.specs.Lines.{Entry, entry}
use Rattle.redundant_mux.specs.declared.frame_log.Mark.{Mark}
use Rattle.redundant_mux.specs.declared.memory.Handed.{Handed}
use Rattle.redundant_mux.specs.declared.outbox.Kept.{Kept}
use Rattle.redundant_mux.specs.declared.outbox.Latest.{Latest}

-- a network in memory: the accepted frames, its capacity in frames, the number of failures and of calls, and the number
-- of the call that fails, from 1
pub record Memory : Type 0 where
  pub handed : List Entry
  pub capacity : ℕ
  pub failures : ℕ
  pub asked : ℕ
  pub fails_at : Option ℕ

-- a network that has had no call
abbrev pub unused : Option ℕ → Memory
unused fails_at = record { handed = []; capacity = 0; failures = 0; asked = 0; fails_at = fails_at }

abbrev pub entry_of : Handed → Entry
entry_of one = entry one.at one.frame.items

abbrev pub entries : List Handed → List Entry
entries handed = map entry_of handed

-- an outbox: all accepted frames, its number of failures, and whether it was made to fail
pub record OutboxView : Type 0 where
  pub handed : List Entry
  pub failures : ℕ
  pub failing : Bool

-- an outbox that had no call
abbrev pub fresh_outbox : OutboxView
fresh_outbox = record { handed = []; failures = 0; failing = false }

-- A call fails exactly if the outbox was made to fail, or if 2^64 - 1 frames were accepted.
abbrev pub Refuses : OutboxView → (fails : Type 0) → Type 0
Refuses outbox fails = fails ↔ ((outbox.failing ≡ true) ⊎ (2 ^ 64 ≤ length outbox.handed + 1))

abbrev pub kept_entry : Kept → Entry
kept_entry one = entry one.at one.frame.value.items

-- the entry with this number, from 0
abbrev pub entry_at : List Entry → ℕ → Entry
entry_at handed number = get_or handed number (entry 0 [])

-- The entry with this number is one of the last 64. If the entries of earlier times aren't kept, each later entry has
-- the same time.
pub record IsKept (earlier : Bool) (handed : List Entry) (number : ℕ) : Type 0 where
  pub below : number < length handed
  pub late : length handed ≤ number + 64
  pub same : earlier ≡ false → (k : ℕ) → number ≤ k → k < length handed
      → (entry_at handed k).at ≡ (entry_at handed number).at

-- Of the accepted frames, the last 64 from number `first` on are kept, frame n in slot n - first modulo 64. If the
-- frames of earlier times are kept, `first` is 0. Otherwise all frames from `first` on have the last time.
pub record KeepsLast (earlier : Bool) (slots : List Kept) (latest : Latest) (count : ℕ) (handed : List Entry)
    : Type 0 where
  pub room : length slots ≡ 64
  pub counted : count ≡ length handed
  pub begun : latest.first ≤ count
  pub whole : earlier ≡ true → latest.first ≡ 0
  pub same : earlier ≡ false → (k : ℕ) → latest.first ≤ k → k < count → (entry_at handed k).at ≡ latest.at
  pub other : 0 < latest.first → (latest.first < count) × ((entry_at handed (latest.first - 1)).at ≢ latest.at)
  pub each : (number : ℕ) (slot : Kept) → latest.first ≤ number → number < count → count ≤ number + 64
      → kept_entry (get_or slots ((number - latest.first) % 64) slot) ≡ entry_at handed number

-- a log: its frames, the numbers of frames and of bytes that fit into its memory, and the number of failures
pub record FrameLog : Type 0 where
  pub handed : List Entry
  pub frames_capacity : ℕ
  pub bytes_capacity : ℕ
  pub failures : ℕ

-- the number of bytes of frames
abbrev pub bytes_in : List Entry → ℕ
bytes_in handed = sum_by (λ (e : Entry). length e.frame) handed

-- a log has no memory for one more frame, of `size` bytes
abbrev pub LacksRoom : FrameLog → ℕ → Type 0
LacksRoom log size =
    (log.frames_capacity ≤ length log.handed) ⊎ (log.bytes_capacity < bytes_in log.handed + size)

-- the frames whose bytes follow one another
abbrev pub spelled : List Mark → List ℕ → List Entry
spelled [] bytes = []
spelled (mark ∷ marks) bytes = entry mark.at (take mark.len bytes) ∷ spelled marks (drop mark.len bytes)

-- marks that cover exactly these bytes, each at most as long as the longest frame
pub record AreInLog (marks : List Mark) (bytes : List ℕ) : Type 0 where
  pub all : sum_by (λ (mark : Mark). mark.len) marks ≡ length bytes
  pub short : All (λ (mark : Mark). mark.len ≤ GREATEST_FRAME) marks

-- the time of the first frame
abbrev pub first_moment : List Entry → Option ℕ
first_moment [] = None
first_moment (e ∷ es) = Some e.at

-- the first frame is given, with its time, and the others are left
abbrev pub TakesFrame : List Entry → Option (ℕ × Bor (List ℕ)) → List Entry → Type 0
TakesFrame old None new = (old ≡ []) × (new ≡ [])
TakesFrame old (Some given) new =
    (old ≡ entry given.0 given.1.now ∷ new) × (length given.1.now ≤ GREATEST_FRAME)
