-- The texts of a transcript.
use Rattle.std.specs.Prelude.{codes, ℕ, Bool, true, false, List, [], ◌∷◌, ◌++◌}
use Rattle.std.specs.Fmt.{decimal}
use Rattle.std.specs.List.{flat_map}
use Rattle.afdx_frame.specs.declared.net.Net.{Net}
use Rattle.afdx_frame.specs.declared.net.Net.TheVariants.{A, B}
use Rattle.hex.specs.Hex.{encode_lower}
use Rattle.redundant_mux.specs.Lines.{Entry}
use Rattle.script_text.specs.declared.transcript.Outcome.{Outcome}
use Rattle.script_text.specs.declared.transcript.Outcome.TheVariants as Became
use Rattle.script_text.specs.declared.faults.Refusal.{Refusal}
use Rattle.script_text.specs.declared.faults.Refusal.TheVariants.{Empty, TooLong, Closed, Exhausted, Full, NoPort, NoSub, TimeBack}
use Rattle.script_text.specs.declared.faults.RunFault.{RunFault}
use Rattle.script_text.specs.declared.faults.RunFault.TheVariants.{Write, Memory}

-- a refusal's name
abbrev pub refusal_name : Refusal → List ℕ
refusal_name Empty = codes "Empty"
refusal_name TooLong = codes "TooLong"
refusal_name Closed = codes "Closed"
refusal_name Exhausted = codes "Exhausted"
refusal_name Full = codes "Full"
refusal_name NoPort = codes "NoPort"
refusal_name NoSub = codes "NoSub"
refusal_name TimeBack = codes "TimeBack"

-- the note that a line adds to the transcript, if it was refused or closed a sub-VL, which accepted `total` messages
unfoldable pub note_of : ℕ → Outcome → List ℕ
note_of line (Became.Refused refusal) =
    codes "line " ++ decimal line ++ codes ": refused " ++ refusal_name refusal ++ 10 ∷ []
note_of line (Became.Closed total) = codes "line " ++ decimal line ++ codes ": closed " ++ decimal total ++ 10 ∷ []
note_of line _ = []

-- a network's name
abbrev pub net_name : Net → List ℕ
net_name A = codes "A"
net_name B = codes "B"

-- the line of a frame: the network, the time in microseconds, and the frame in lower case
-- hexadecimal
abbrev pub frame_line : Net → Entry → List ℕ
frame_line net e =
    net_name net ++ codes " " ++ decimal e.at ++ codes " " ++ encode_lower e.frame ++ 10 ∷ []

-- the lines of the frames of a network
unfoldable pub frame_lines : Net → List Entry → List ℕ
frame_lines net es = flat_map (frame_line net) es

-- the lines of A's frames, and then of B's
abbrev pub streams : List Entry → List Entry → List ℕ
streams a b = frame_lines A a ++ frame_lines B b

-- the run stops writing after the writer or an allocation failed
abbrev pub ends_writing : RunFault → Bool
ends_writing Write = true
ends_writing Memory = true
ends_writing fault = false
