-- A capture that is read in windows, wherever they end, is read as a whole.
use Rattle.std.specs.Prelude.{ℕ, ◌+◌, ◌<◌, ◌≡◌, List, ◌++◌, length, drop, Ok, Err}
use Rattle.capture.specs.Recording.{Progress, Moved, next, stopped, with_packet, read_from}
use Rattle.capture.specs.declared.stop.CaptureEnd.TheVariants.{Broken}
use Rattle.capture.specs.declared.stop.Fault.{Fault}
use Rattle.capture.specs.declared.stop.NoStep.TheVariants.{More, Malformed}
use Rattle.capture.specs.declared.unit.TheConstants.{GREATEST_UNIT}

-- a step that isn't short of bytes is the same whatever follows the window
abbrev pub StepsAlike : Type 0
StepsAlike = (p : Progress) (window more : List ℕ) → (next p window ≡ Err More → ⊥)
    → next p (window ++ more) ≡ next p window

-- a reading from a place on gives the packet of a step over a window, and then the packets after the step's unit
abbrev pub StepsOn : Type 0
StepsOn = (at : ℕ) (p : Progress) (window more : List ℕ) (step : Moved) → next p window ≡ Ok step
    → read_from at p (window ++ more)
    ≡ with_packet step.content.packet (read_from (at + step.used) step.content.after (drop step.used window ++ more))

-- a fault in a window ends the recording there
abbrev pub StopsThere : Type 0
StopsThere = (at : ℕ) (p : Progress) (window more : List ℕ) (fault : Fault) → next p window ≡ Err (Malformed fault)
    → read_from at p (window ++ more) ≡ stopped p (Broken at fault)

-- a window of this length is never too short
abbrev pub IsRoomEnough : Type 0
IsRoomEnough = (p : Progress) (window : List ℕ) → next p window ≡ Err More → length window < GREATEST_UNIT
