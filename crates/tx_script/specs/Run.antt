-- The end of a run of a script, its networks and its text.
use Rattle.std.specs.Prelude.{◌≡◌, ℕ, ◌+◌, ◌<◌, ◌≤◌, List, [], ◌∷◌, ◌++◌, length, Option, Result, Ok, Err, ⊤, true, false}
use Rattle.std.specs.Io.KnownBytes.{Appends}
use Rattle.afdx_plan.specs.Config.{Plan}
use Rattle.afdx_frame.specs.declared.net.Net.TheVariants.{A, B}
use Rattle.redundant_mux.specs.Lines.{Entry}
use Rattle.script_text.specs.Faults.{IsFirstFault, IsFaultless}
use Rattle.script_text.specs.Lines.{first_line, after_feed}
use Rattle.script_text.specs.Meaning.{meaning_of}
use Rattle.script_text.specs.Transcript.{ends_writing}
use Rattle.script_text.specs.declared.faults.RunFault.{RunFault}
use Rattle.script_text.specs.declared.faults.RunFault.TheVariants.{Line, Lines, Read, Write, Memory}
use Rattle.script_text.specs.declared.transcript.Summary.{Summary as Sums}
use Rattle.tx_script.specs.EndSystem.{handed}
use Rattle.tx_script.specs.Play.{AnsweredLine, Play, play, transcript, IsAnswer, FindsFirst, AreTotals}
use Rattle.tx_script.specs.declared.script.Played.{Played}
use Rattle.tx_script.specs.declared.script.Played.TheVariants.{Whole, Broken}

-- the rest of a text after some lines, the latest first
abbrev pub left_after : List ℕ → List AnsweredLine → List ℕ
left_after text [] = text
left_after text (turn ∷ before) = after_feed (left_after text before)

-- a text begins with a line, which has no fault, and to which this may be answered
pub record BeginsWith (text : List ℕ) (st : Play) (turn : AnsweredLine) : Type 0 where
  pub some : 0 < length text
  pub first : turn.line ≡ first_line text
  pub faultless : IsFaultless turn.line
  pub may : IsAnswer st.es (meaning_of turn.line) turn.answer

-- a text begins with some lines, listed with the latest first
abbrev pub AreLines : Plan → List ℕ → List AnsweredLine → Type 0
AreLines plan text [] = Unit {0}
AreLines plan text (turn ∷ before) =
    BeginsWith (left_after text before) (play plan before) turn × AreLines plan text before

-- lines of a text that were run
pub record AreRun (plan : Plan) (text : List ℕ) (turns : List AnsweredLine) : Type 0 where
  pub lines : AreLines plan text turns
  pub finds : FindsFirst (play plan turns)
  pub totals : AreTotals (play plan turns) turns

-- lines of a text that were run, and whose transcript was written
pub record HasRun (plan : Plan) (text : List ℕ) (old new : Option (List ℕ)) (turns : List AnsweredLine) : Type 0 where
  pub run : AreRun plan text turns
  pub wrote : Appends old new (transcript (play plan turns))

-- some lines of a text were run, and the written text begins their transcript
pub record HasBegun (plan : Plan) (text : List ℕ) (old new : Option (List ℕ)) : Type 0 where
  pub turns : List AnsweredLine
  pub run : AreRun plan text turns
  pub written : List ℕ
  pub unwritten : List ℕ
  pub begins : transcript (play plan turns) ≡ written ++ unwritten
  pub wrote : Appends old new written

-- a run stopped after some lines of a text: the knowledge of the lines, of the rest of the text, and of the play
pub record StopsAt (plan : Plan) (text : List ℕ) (Ran : List AnsweredLine → Type 0) (At : List ℕ → Play → Type 0)
    : Type 0 where
  pub turns : List AnsweredLine
  pub ran : Ran turns
  pub at : At (left_after text turns) (play plan turns)

-- The end of a run, by what is known of the lines that were run: no line is left; the next one has this
-- number, and this is its first fault; as many were run as a script may have, and there is one more; the
-- reader failed. After an allocation failed this much is known, and nothing after the writer failed.
abbrev pub Ends : Plan → List ℕ → (Ran : List AnsweredLine → Type 0) → (Begun : Type 0) → Result Sums RunFault → Type 0
Ends plan text Ran Begun (Ok sums) =
    StopsAt plan text Ran (λ rest st. (rest ≡ []) × (st.summary ≡ sums) × (st.count ≤ 1000000))
Ends plan text Ran Begun (Err (Line number fault)) = StopsAt plan text Ran (λ rest st.
    (0 < length rest) × (number ≡ st.count + 1) × (number ≤ 1000000) × IsFirstFault (first_line rest) fault)
Ends plan text Ran Begun (Err Lines) = StopsAt plan text Ran (λ rest st. (0 < length rest) × (st.count ≡ 1000000))
Ends plan text Ran Begun (Err Read) = StopsAt plan text Ran (λ rest st. st.count ≤ 1000000)
Ends plan text Ran Begun (Err Write) = ⊤
Ends plan text Ran Begun (Err Memory) = Begun

-- the text that a run leaves, by its end
abbrev pub Leaves : Plan → List ℕ → (old new : Option (List ℕ)) → Result Sums RunFault → Type 0
Leaves plan text old new result = Ends plan text (HasRun plan text old new) (HasBegun plan text old new) result

-- lines of a text that were run, with the lists sent to the networks: the streams that were written
pub record HasPlayed (plan : Plan) (text : List ℕ) (old new : Option (List ℕ)) (a b : List Entry)
    (turns : List AnsweredLine) : Type 0 where
  pub ran : HasRun plan text old new turns
  pub on_a : handed A (play plan turns).es ≡ a
  pub on_b : handed B (play plan turns).es ≡ b

-- an end after which the streams are written
abbrev pub IsWhole : Result Sums RunFault → Type 0
IsWhole (Ok sums) = ⊤
IsWhole (Err fault) = ends_writing fault ≡ false

-- the outcome of running a text: all of its transcript, with these networks, or the text written before the writer or
-- an allocation failed
abbrev pub Plays : Plan → List ℕ → (old new : Option (List ℕ)) → Played → Type 0
Plays plan text old new (Whole ended a b) =
    IsWhole ended × Ends plan text (HasPlayed plan text old new a.handed b.handed) ⊥ ended
Plays plan text old new (Broken fault) =
    (ends_writing fault ≡ true) × Leaves plan text old new (Err fault)
