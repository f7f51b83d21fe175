-- The meaning of a script's line, as C has it.
use Rattle.std.specs.Prelude.{ℕ, List, [], length, ◌≡◌}
use Rattle.script_text.specs.declared.line_meaning.Line.{Line}
use Rattle.script_text.specs.declared.line_meaning.Line.TheVariants.{Send, At, Close, Nothing}
use Rattle.afdx_handle.specs.declared.script.ScriptLine.{ScriptLine}
use Rattle.afdx_frame.specs.Header.{link_in, sub_in, number_in}
use Rattle.afdx_handle.specs.declared.answer.FrameRelease.{FrameRelease}

-- the message of a line, no bytes if it isn't a send
abbrev pub message_in : Line → List ℕ
message_in (Send port bytes) = bytes
message_in said = []

-- a line in the layout of C: fields that it doesn't need are 0
abbrev pub line_of : (kind sub id at size : ℕ) → ScriptLine
line_of kind sub id at size = record { kind = kind; sub = sub; id = id; at = at; size = size }

-- the meaning of a line in the layout of C: nothing, a send, a poll or a close
abbrev pub laid_out : Line → ScriptLine
laid_out Nothing = line_of 0 0 0 0 0
laid_out (Send port bytes) = line_of 1 0 port 0 (length bytes)
laid_out (At moment) = line_of 2 0 0 moment 0
laid_out (Close vl sub) = line_of 3 sub vl 0 0

-- the link, the sub-VL and the number of a frame, as the report of its poll has them (`release_of`)
pub record IsReleaseOf (frame : List ℕ) (written : FrameRelease) : Type 0 where
  pub vl : written.vl ≡ link_in frame
  pub sub : written.sub ≡ sub_in frame
  pub number : written.number ≡ number_in frame
