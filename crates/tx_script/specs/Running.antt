-- A run of a script while its streams are not yet written.
use Rattle.std.specs.Prelude.{◌≡◌, ℕ, true, false, ◌<◌, List, [], length, Option, Some, None, Result, Ok, Err, ⊤, ◌⊎◌}
use Rattle.std.specs.Io.KnownBytes.{Appends, Keeps}
use Rattle.afdx_plan.specs.Config.{Plan}
use Rattle.script_text.specs.Faults.{IsFirstFault, IsFaultless}
use Rattle.redundant_mux.specs.Memory.{FrameLog}
use Rattle.script_text.specs.Lines.{first_line, after_feed}
use Rattle.script_text.specs.Meaning.{meaning_of}
use Rattle.script_text.specs.Transcript.{streams, ends_writing}
use Rattle.script_text.specs.declared.line_meaning.Line.{Line as Said}
use Rattle.script_text.specs.declared.faults.LineFault.{LineFault}
use Rattle.script_text.specs.declared.faults.LineFault.TheVariants.{Memory as OutOfMemory}
use Rattle.script_text.specs.declared.faults.RunFault.{RunFault}
use Rattle.script_text.specs.declared.faults.RunFault.TheVariants.{Line, Lines, Read, Write, Memory}
use Rattle.script_text.specs.declared.transcript.Summary.{Summary as Sums}
use Rattle.tx_script.specs.AtBench.{AtBench, Matches, OnlyTakes, AreTold, OthersAreOpen, IsGathered}
use Rattle.tx_script.specs.Play.{AnsweredLine, play}
use Rattle.tx_script.specs.Run.{AreLines, Ends}
use Rattle.tx_script.specs.declared.script.Played.{Played}
use Rattle.tx_script.specs.declared.script.Played.TheVariants.{Whole, Broken}

-- a text's first line has no fault and says this, and the bytes after it are left
pub record SaysLine (text : List ℕ) (left : Option (List ℕ)) (said : Said) : Type 0 where
  pub some : 0 < length text
  pub faultless : IsFaultless (first_line text)
  pub said_is : said ≡ meaning_of (first_line text)
  pub behind : left ≡ Some (after_feed text)

-- the meaning of the next line of a text, line number `line`
abbrev pub ReadsLine : (text : List ℕ) → (left : Option (List ℕ)) → (line : ℕ) → Result (Option Said) RunFault
    → Type 0
ReadsLine text left line (Ok None) = text ≡ []
ReadsLine text left line (Ok (Some said)) = SaysLine text left said
ReadsLine text left line (Err (Line number fault)) =
    (0 < length text) × (number ≡ line) × IsFirstFault (first_line text) fault
ReadsLine text left line (Err Lines) = ⊥
ReadsLine text left line (Err Read) = ⊤
ReadsLine text left line (Err Write) = ⊥
ReadsLine text left line (Err Memory) = ⊤

-- lines of a text that were run, with their notes written, and a bench that matches
pub record Running (plan : Plan) (text : List ℕ) (old new : Option (List ℕ)) (bench : AtBench)
    (turns : List AnsweredLine) : Type 0 where
  pub lines : AreLines plan text turns
  pub matches : Matches (play plan turns).accepted (play plan turns).es bench
  pub told : AreTold bench.tx turns
  pub others : OthersAreOpen bench.tx turns
  pub wrote : Appends old new (play plan turns).notes

-- some lines of a text were run, and their notes are written; then an allocation failed
pub record Halted (plan : Plan) (text : List ℕ) (old new : Option (List ℕ)) (bench : AtBench) : Type 0 where
  pub before : AtBench
  pub turns : List AnsweredLine
  pub ran : Running plan text old new before turns
  pub since : OnlyTakes before bench

-- the state that the lines of a text leave, by their end; only their notes are written
abbrev pub Stops : Plan → List ℕ → (old new : Option (List ℕ)) → AtBench → Result Sums RunFault → Type 0
Stops plan text old new bench result =
    Ends plan text (Running plan text old new bench) (Halted plan text old new bench) result

-- the run fault of a line's fault
abbrev pub run_fault_of : ℕ → LineFault → RunFault
run_fault_of line OutOfMemory = Memory
run_fault_of line fault = Line line fault

-- the ports of a bench were taken back, its networks have these frames, and their streams were written
pub record HandsOver (bench : AtBench) (a b : FrameLog) (old new : Option (List ℕ)) : Type 0 where
  pub on_a : a.handed ≡ bench.tx.lines.a
  pub on_b : b.handed ≡ bench.tx.lines.b
  pub gathered : IsGathered bench
  pub wrote : Appends old new (streams bench.tx.lines.a bench.tx.lines.b)

-- the streams of a bench are written at an end, or the writer failed
abbrev pub Finishes : Result Sums RunFault → AtBench → (old new : Option (List ℕ)) → Played → Type 0
Finishes ended bench old new (Whole told a b) = (told ≡ ended) × HandsOver bench a b old new
Finishes ended bench old new (Broken told) = told ≡ Write

-- the text written after a fault: the streams, or nothing
abbrev pub EndsEarly : RunFault → AtBench → (old new : Option (List ℕ)) → Played → Type 0
EndsEarly fault bench old new played =
    ((ends_writing fault ≡ false) × Finishes (Err fault) bench old new played)
    ⊎ ((ends_writing fault ≡ true) × (played ≡ Broken fault) × Keeps old new × IsGathered bench)
