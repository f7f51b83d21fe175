-- The findings of a recording, as they are written for C.
use Rattle.std.specs.Prelude.{ℕ, ◌≡◌, ◌≤◌, ◌&&◌, nat_eq, nat_lt, if◌then◌else◌, Bool, List, length, map, take}
use Rattle.afdx_config.specs.Faults.{IsPlanOf}
use Rattle.capture.specs.Recording.{Recording, read_capture}
use Rattle.capture.specs.declared.stop.CaptureEnd.{CaptureEnd}
use Rattle.capture.specs.declared.stop.CaptureEnd.TheVariants.{Whole, CutOff, Broken}
use Rattle.judge.specs.Judging.{findings}
use Rattle.judge.specs.Merging.{from_places}
use Rattle.judge.specs.Types.{Plan}
use Rattle.judge.specs.declared.finding.Finding.{Finding}
use Rattle.afdx_handle.specs.Listing.{with_front}
use Rattle.afdx_handle.specs.Rows.{row_of, captured_of, options_of}
use Rattle.afdx_handle.specs.declared.answer.TheConstants.{DONE, MEMORY, SMALL_BUFFER, BAD_CAPTURE}
use Rattle.afdx_handle.specs.declared.judging.Judged.{Judged}
use Rattle.afdx_handle.specs.declared.judging.FindingRow.{FindingRow}
use Rattle.afdx_handle.specs.declared.judging.JudgeOptions.{JudgeOptions}

-- the answer to a caller who has this much room: a capture isn't read to its end, or findings have no room
abbrev pub answer_of : Judged → ℕ → ℕ
answer_of judged room =
    if nat_eq judged.a.end 0 && nat_eq judged.b.end 0
    then (if nat_lt room judged.findings then SMALL_BUFFER else DONE) else BAD_CAPTURE

-- the packets that the recorder of a capture lost, as it told up to the end of the reading, and the answer
abbrev pub lost_in : List ℕ → ℕ
lost_in capture = (read_capture capture).lost

abbrev pub ended_answer : CaptureEnd → ℕ
ended_answer Whole = DONE
ended_answer (CutOff place) = BAD_CAPTURE
ended_answer (Broken place fault) = BAD_CAPTURE

abbrev pub lost_answer : List ℕ → ℕ
lost_answer capture = ended_answer (read_capture capture).end

-- the number of a plan's fault, or of an allocation that failed
abbrev pub IsRefused : ℕ → Type 0
IsRefused answer = (1 ≤ answer) × (answer ≤ MEMORY)

-- The findings of two captures, each of one network alone, or twice of one of both, by a plan: as many as had room were
-- written over the front of a list, and beside them their number and the ends of reading.
pub record Judges (plan : Plan) (how : JudgeOptions) (alone : Bool) (a b : Recording) (old new : List FindingRow)
    (judged : Judged) : Type 0 where
  pub found : List Finding
  pub are : found ≡ findings plan (options_of how) (from_places alone a.packets 0 b.packets 0)
  pub rows : new ≡ with_front (take (length old) (map row_of found)) old
  pub count : judged.findings ≡ length found
  pub of_a : judged.a ≡ captured_of a
  pub of_b : judged.b ≡ captured_of b

-- the findings that are written for the text of a plan and the bytes of captures; a capture of both networks is `a`
-- alone
pub record IsJudged (text : List ℕ) (how : JudgeOptions) (alone : Bool) (a b : List ℕ) (old new : List FindingRow)
    (judged : Judged) : Type 0 where
  pub plan : Plan
  pub of : IsPlanOf text plan
  pub by : Judges plan how alone (read_capture a) (read_capture (if alone then b else a)) old new judged
