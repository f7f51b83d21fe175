-- The CRC-32 of IEEE 802.3, with which a table ends.
use Rattle.std.specs.Prelude.{ℕ, ◌/◌, ◌%◌, List, [], ◌∷◌, bit_xor, nat_eq, if◌then◌else◌}

-- the generator polynomial, its coefficient of x^31 in the lowest bit: x^26 + x^23 + x^22 + x^16 + x^12 + x^11 + x^10
-- + x^8 + x^7 + x^5 + x^4 + x^2 + x + 1, beside x^32
abbrev pub polynomial : ℕ
polynomial = 3988292384

-- all 32 bits
abbrev pub all_ones : ℕ
all_ones = 4294967295

-- the remainder times x: its lowest bit is the coefficient of x^31
abbrev pub shifted : ℕ → ℕ
shifted r = if nat_eq (r % 2) 1 then bit_xor (r / 2) polynomial else r / 2

-- the remainder after eight bits more
unfoldable pub shifted_8 : ℕ → ℕ
shifted_8 r = shifted (shifted (shifted (shifted (shifted (shifted (shifted (shifted r)))))))

-- the remainder after these bytes, from a remainder
abbrev pub remainder : ℕ → List ℕ → ℕ
remainder r [] = r
remainder r (byte ∷ bytes) = remainder (shifted_8 (bit_xor r byte)) bytes

-- the check of bytes: it starts with all ones, and is complemented
abbrev pub crc_32 : List ℕ → ℕ
crc_32 bytes = bit_xor (remainder all_ones bytes) all_ones
