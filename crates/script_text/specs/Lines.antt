-- The lines of a text. A line ends with a line feed (10); the last one may lack it.
use Rattle.std.specs.Prelude.{◌≡◌, ℕ, ◌-◌, ◌<◌, ◌≤◌, ◌==◌, ◌&&◌, nat_lt, Bool, true, false, if◌then◌else◌, List, [], ◌∷◌, ◌++◌, length, take, drop, slice_index, Option, IfSome, Some}
use Rattle.std.specs.Io.KnownBytes.{Consumes}

-- the byte order mark of UTF-8 comes first
abbrev pub has_mark : List ℕ → Bool
has_mark text = (slice_index text 0 == 239) && (slice_index text 1 == 187) && (slice_index text 2 == 191)

-- a text without the byte order mark that an editor may have put before it
abbrev pub after_mark : List ℕ → List ℕ
after_mark text = if has_mark text then drop 3 text else text

-- the bytes before the first line feed
abbrev pub before_feed : List ℕ → List ℕ
before_feed [] = []
before_feed (x ∷ xs) = if x == 10 then [] else x ∷ before_feed xs

-- the bytes after it
abbrev pub after_feed : List ℕ → List ℕ
after_feed [] = []
after_feed (x ∷ xs) = if x == 10 then xs else after_feed xs

-- true if the text has a line feed
abbrev pub has_feed : List ℕ → Bool
has_feed [] = false
has_feed (x ∷ xs) = if x == 10 then true else has_feed xs

-- a text has no line feed
abbrev pub IsPlain : List ℕ → Type 0
IsPlain xs = has_feed xs ≡ false

-- bytes with no line feed were taken, and a line grew by them
pub record TakesPlain (old new : Option (List ℕ)) (line grown : List ℕ) : Type 0 where
  pub part : List ℕ
  pub plain : IsPlain part
  pub taken : Consumes old new part
  pub is : grown ≡ line ++ part

-- the bytes without a carriage return (13) at their end
abbrev pub without_return : List ℕ → List ℕ
without_return xs =
    if nat_lt 0 (length xs) && (slice_index xs (length xs - 1) == 13)
    then take (length xs - 1) xs
    else xs

-- the first line without its end, which is a line feed or a carriage return and a line feed
abbrev pub first_line : List ℕ → List ℕ
first_line text = if has_feed text then without_return (before_feed text) else before_feed text

-- a text is a line, which is short enough, and the text after its end
pub record Splits (text line : List ℕ) (left : Option (List ℕ)) : Type 0 where
  pub some : 0 < length text
  pub first : line ≡ first_line text
  pub short : length line ≤ 20000
  pub behind : left ≡ Some (after_feed text)

-- the bytes that are known lose their first line, which is short enough
abbrev pub TakesLine : Option (List ℕ) → Option (List ℕ) → List ℕ → Type 0
TakesLine old new line = IfSome old (λ text. Splits text line new)

-- the first line of the bytes that are known is too long
abbrev pub BeginsLong : Option (List ℕ) → Type 0
BeginsLong old = IfSome old (λ text. 20000 < length (first_line text))
