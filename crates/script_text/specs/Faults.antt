-- The faults of a line.
use Rattle.std.specs.Prelude.{◌≡◌, ℕ, ◌<◌, Bool, true, false, ◌&&◌, ◌||◌, nat_lt, if◌then◌else◌, ◌+◌, is_none, List, [], ◌∷◌, length, Option, Some, None}
use Rattle.std.specs.Option.{option_map_or}
use Rattle.script_text.specs.Command.{command_of, is_send, is_at, is_close, port_number, moment_of, link_number, sub_number, message_of}
use Rattle.script_text.specs.declared.faults.LineFault.{LineFault}
use Rattle.script_text.specs.declared.faults.LineFault.TheVariants.{Word, Number, Hex, Extra, Long, Memory}

-- a fault's number
abbrev pub line_fault_number : LineFault → ℕ
line_fault_number Word = 1
line_fault_number Number = 2
line_fault_number Hex = 3
line_fault_number Extra = 4
line_fault_number Long = 5
line_fault_number Memory = 6

-- the number of words in the form that a first word begins
abbrev pub form_len : List ℕ → Option ℕ
form_len word =
    if is_send word then Some 3
    else if is_at word then Some 2
    else if is_close word then Some 3
    else None

-- a first word that has no form, or fewer words than its form has
abbrev pub lacks_word : List (List ℕ) → Bool
lacks_word [] = false
lacks_word (w ∷ ws) = option_map_or (λ n. nat_lt (length ws + 1) n) (form_len w) true

-- after a link, a sub-VL that is no number in its range
abbrev pub has_bad_sub : List (List ℕ) → Bool
has_bad_sub [] = false
has_bad_sub (s ∷ ws) = is_none (sub_number s)

-- a port, a time, a link or a sub-VL that is no number in its range
abbrev pub has_bad_number : List (List ℕ) → Bool
has_bad_number (w ∷ n ∷ ws) =
    if is_send w then is_none (port_number n)
    else if is_at w then is_none (moment_of n)
    else is_close w && (is_none (link_number n) || has_bad_sub ws)
has_bad_number _ = false

-- a message that is not hexadecimal
abbrev pub has_bad_hex : List (List ℕ) → Bool
has_bad_hex (w ∷ n ∷ h ∷ ws) = is_send w && is_none (message_of h)
has_bad_hex _ = false

-- more words than the form has
abbrev pub has_extra : List (List ℕ) → Bool
has_extra [] = false
has_extra (w ∷ ws) = option_map_or (λ n. nat_lt n (length ws + 1)) (form_len w) false

-- a line has a fault
abbrev pub has_fault : LineFault → List ℕ → Bool
has_fault Long line = nat_lt 20000 (length line)
has_fault Word line = lacks_word (command_of line)
has_fault Number line = has_bad_number (command_of line)
has_fault Hex line = has_bad_hex (command_of line)
has_fault Extra line = has_extra (command_of line)
has_fault Memory line = false

-- the order in which faults are reported
abbrev pub rank : LineFault → ℕ
rank Long = 0
rank Word = 1
rank Number = 2
rank Hex = 3
rank Extra = 4
rank Memory = 5

-- a line has this fault, and none that is reported before it
abbrev pub IsFirstFault : List ℕ → LineFault → Type 0
IsFirstFault line fault =
    (has_fault fault line ≡ true)
    × ((other : LineFault) → rank other < rank fault → has_fault other line ≡ false)

-- a line has no fault
abbrev pub IsFaultless : List ℕ → Type 0
IsFaultless line = (fault : LineFault) → has_fault fault line ≡ false

-- the first fault of the words after `send`
abbrev pub send_fault : List (List ℕ) → Option LineFault
send_fault (n ∷ h ∷ ws) =
    if is_none (port_number n) then Some Number
    else if is_none (message_of h) then Some Hex
    else if nat_lt 0 (length ws) then Some Extra
    else None
send_fault _ = Some Word

-- the first fault of the words after `at`
abbrev pub at_fault : List (List ℕ) → Option LineFault
at_fault (n ∷ ws) =
    if is_none (moment_of n) then Some Number
    else if nat_lt 0 (length ws) then Some Extra
    else None
at_fault _ = Some Word

-- the first fault of the words after `close`
abbrev pub close_fault : List (List ℕ) → Option LineFault
close_fault (n ∷ s ∷ ws) =
    if is_none (link_number n) || is_none (sub_number s) then Some Number
    else if nat_lt 0 (length ws) then Some Extra
    else None
close_fault _ = Some Word
