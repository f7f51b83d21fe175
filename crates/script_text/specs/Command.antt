-- The words of a line and of a command, and the numbers among them.
use Rattle.std.specs.Prelude.{ℕ, ◌+◌, ◌-◌, ◌*◌, Bool, not, ◌&&◌, ◌==◌, nat_le, if◌then◌else◌, List, [], ◌∷◌, length, Option, Some, None, ◌||◌, filter, codes, slice_index, Result, Ok, Err}
use Rattle.std.specs.List.{list_all, slice_split}
use Rattle.std.specs.Char.{is_ascii_digit}
use Rattle.std.specs.Str.{bytes_eq}
use Rattle.hex.specs.Hex.{decode_of}

-- the number whose digits are n's and then the list's
abbrev pub read_on : ℕ → List ℕ → ℕ
read_on n [] = n
read_on n (c ∷ cs) = read_on (n * 10 + (c - 48)) cs

-- one digit or more
abbrev pub is_numeral : List ℕ → Bool
is_numeral word = not (length word == 0) && list_all is_ascii_digit word

-- the number that a word writes in decimal digits alone, if it is at most the greatest
unfoldable pub number_of : ℕ → List ℕ → Option ℕ
number_of most word =
    if is_numeral word && nat_le (read_on 0 word) most then Some (read_on 0 word) else None

-- a space or a tab
abbrev pub is_blank : ℕ → Bool
is_blank c = (c == 32) || (c == 9)

-- a text of one byte at least
abbrev pub is_some_text : List ℕ → Bool
is_some_text text = not (length text == 0)

-- the words of a line: the texts between its blanks
unfoldable pub words_of : List ℕ → List (List ℕ)
words_of line = filter is_some_text (slice_split is_blank line)

-- no words if the first one begins with a number sign (35)
abbrev pub without_note : List (List ℕ) → List (List ℕ)
without_note [] = []
without_note (w ∷ ws) = if slice_index w 0 == 35 then [] else w ∷ ws

-- the words of a line's command: none at a blank line and at a comment
abbrev pub command_of : List ℕ → List (List ℕ)
command_of line = without_note (words_of line)

-- the word `send`
unfoldable pub is_send : List ℕ → Bool
is_send word = bytes_eq word (codes "send")

-- the word `at`
unfoldable pub is_at : List ℕ → Bool
is_at word = bytes_eq word (codes "at")

-- the word `close`
unfoldable pub is_close : List ℕ → Bool
is_close word = bytes_eq word (codes "close")

-- the port that a word names, by its identifier
abbrev pub port_number : List ℕ → Option ℕ
port_number word = number_of 65535 word

-- the time that a word names, in microseconds
abbrev pub moment_of : List ℕ → Option ℕ
moment_of word = number_of 18446744073709551615 word

-- the virtual link that a word names, by its identifier
abbrev pub link_number : List ℕ → Option ℕ
link_number word = number_of 65535 word

-- the sub-VL that a word names, by its index
abbrev pub sub_number : List ℕ → Option ℕ
sub_number word = number_of 255 word

-- the bytes of a text that was decoded
abbrev pub decoded : {E : Type 0} → Result (List ℕ) E → Option (List ℕ)
decoded (Ok bytes) = Some bytes
decoded (Err e) = None

-- the message that a word writes: a hyphen, or hexadecimal digits of either case
unfoldable pub message_of : List ℕ → Option (List ℕ)
message_of word = if bytes_eq word (codes "-") then Some [] else decoded (decode_of word)
