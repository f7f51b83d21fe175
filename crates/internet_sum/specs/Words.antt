-- The sum that a checksum of the internet is made with (RFC 1071).
use Rattle.std.specs.Prelude.{ℕ, ◌+◌, ◌*◌, List, [], ◌∷◌}

-- the sum of the 16-bit words; an odd last byte is followed by a zero byte
abbrev pub word_sum : List ℕ → ℕ
word_sum [] = 0
word_sum (a ∷ []) = 256 * a
word_sum (a ∷ b ∷ rest) = 256 * a + b + word_sum rest
