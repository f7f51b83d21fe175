-- Single frames before a judge.
use Rattle.std.specs.Prelude.{ℕ, ◌≡◌, ◌++◌, Bool, true, false, List, length}
use Rattle.byteorder.specs.Endian.{little_number}
use Rattle.judge.specs.CheckSequence.{check_sequence}

-- four bytes, the lowest first, that are the check sequence of a frame
pub record IsSequenceOf (frame sequence : List ℕ) : Type 0 where
  pub four : length sequence ≡ 4
  pub number : little_number 4 sequence ≡ check_sequence frame

-- the bytes of a recorded frame: with its check sequence, or without
abbrev pub IsRecordedAs : Bool → (frame bytes : List ℕ) → Type 0
IsRecordedAs false frame bytes = bytes ≡ frame
IsRecordedAs true frame bytes = (sequence : List ℕ) × IsSequenceOf frame sequence × (bytes ≡ frame ++ sequence)
