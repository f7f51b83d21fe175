-- The frame check sequence of Ethernet (IEEE 802.3): the remainder of a division of polynomials over two elements. Bits
-- are sent lowest first, so a remainder has its highest power in its lowest bit.
use Rattle.std.specs.Prelude.{ℕ, ◌%◌, ◌/◌, nat_eq, if◌then◌else◌, List, [], ◌∷◌, bit_xor, ◌≡◌}

-- one division step: by x^32 + x^26 + x^23 + x^22 + x^16 + x^12 + x^11 + x^10 + x^8 + x^7 + x^5 + x^4 + x^2 + x + 1
abbrev pub divided : ℕ → ℕ
divided remainder = if nat_eq (remainder % 2) 1 then bit_xor (remainder / 2) 0xedb8_8320 else remainder / 2

abbrev pub divided_twice : ℕ → ℕ
divided_twice remainder = divided (divided remainder)

-- the remainder after one more byte
unfoldable pub with_byte : ℕ → ℕ → ℕ
with_byte remainder byte =
    divided_twice (divided_twice (divided_twice (divided_twice (bit_xor remainder byte))))

abbrev pub remainder_of : ℕ → List ℕ → ℕ
remainder_of remainder [] = remainder
remainder_of remainder (byte ∷ bytes) = remainder_of (with_byte remainder byte) bytes

-- the remainder begins with all bits set, and is sent with each bit turned
unfoldable pub check_sequence : List ℕ → ℕ
check_sequence bytes = bit_xor (remainder_of 0xffff_ffff bytes) 0xffff_ffff

abbrev pub ChecksDigits : Type 0
ChecksDigits =
    check_sequence (49 ∷ 50 ∷ 51 ∷ 52 ∷ 53 ∷ 54 ∷ 55 ∷ 56 ∷ 57 ∷ []) ≡ 0xcbf4_3926
