-- The meaning of a line without a fault, and the counts of a run's lines.
use Rattle.std.specs.Prelude.{◌≡◌, ℕ, if◌then◌else◌, List, [], ◌∷◌, unwrap_or, None, ◌+◌, ◌≤◌, ⊤}
use Rattle.script_text.specs.Command.{command_of, is_send, is_at, is_close, port_number, moment_of, link_number, sub_number, message_of}
use Rattle.script_text.specs.Faults.{send_fault, at_fault, close_fault}
use Rattle.script_text.specs.declared.line_meaning.Line.{Line}
use Rattle.script_text.specs.declared.line_meaning.Line.TheVariants.{Send, At, Close, Nothing}
use Rattle.script_text.specs.declared.transcript.Outcome.{Outcome}
use Rattle.script_text.specs.declared.transcript.Outcome.TheVariants.{Quiet, Accepted, Refused, Released, Closed}
use Rattle.script_text.specs.declared.transcript.Summary.{Summary as Sums}

-- the meaning of the words after `send`
abbrev pub said_send : List (List ℕ) → Line
said_send (p ∷ m ∷ ws) = Send (unwrap_or (port_number p) 0) (unwrap_or (message_of m) [])
said_send _ = Nothing

-- the meaning of the words after `at`
abbrev pub said_at : List (List ℕ) → Line
said_at (t ∷ ws) = At (unwrap_or (moment_of t) 0)
said_at _ = Nothing

-- the meaning of the words after `close`
abbrev pub said_close : List (List ℕ) → Line
said_close (l ∷ s ∷ ws) = Close (unwrap_or (link_number l) 0) (unwrap_or (sub_number s) 0)
said_close _ = Nothing

-- the meaning of a command's words
abbrev pub said_by : List (List ℕ) → Line
said_by [] = Nothing
said_by (w ∷ ws) =
    if is_send w then said_send ws
    else if is_at w then said_at ws
    else if is_close w then said_close ws
    else Nothing

-- the meaning of a line
abbrev pub meaning_of : List ℕ → Line
meaning_of line = said_by (command_of line)

-- the words after `send` have no fault and say this
abbrev pub IsSaidSend : List (List ℕ) → Line → Type 0
IsSaidSend ws line = (send_fault ws ≡ None) × (line ≡ said_send ws)

-- the words after `at` have no fault and say this
abbrev pub IsSaidAt : List (List ℕ) → Line → Type 0
IsSaidAt ws line = (at_fault ws ≡ None) × (line ≡ said_at ws)

-- the words after `close` have no fault and say this
abbrev pub IsSaidClose : List (List ℕ) → Line → Type 0
IsSaidClose ws line = (close_fault ws ≡ None) × (line ≡ said_close ws)

-- the counts after one more line
unfoldable pub counted : Outcome → Sums → Sums
counted Quiet sums = sums
counted Accepted sums = record sums { accepted = sums.accepted + 1 }
counted (Refused refusal) sums = record sums { refused = sums.refused + 1 }
counted (Released frames) sums = record sums { frames = sums.frames + frames }
counted (Closed total) sums = sums

-- a line releases at most one frame of each of 64 links
abbrev pub HasFew : Outcome → Type 0
HasFew (Released frames) = frames ≤ 64
HasFew _ = ⊤
