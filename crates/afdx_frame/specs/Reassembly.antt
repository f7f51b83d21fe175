-- Reassembly of a datagram (RFC 791, 3.2), by a buffer of byte positions. It is stated apart from
-- the cutting: it knows neither the room of a frame nor where a cut may lie.
use Rattle.std.specs.Prelude.{◌≡◌, ℕ, zero, suc, ◌+◌, ◌-◌, ◌*◌, ◌/◌, ◌≤◌, ◌&&◌, ◌↔◌, Bool, nat_le, nat_lt, if◌then◌else◌, Option, Some, None, List, [], ◌∷◌, length, map, take, drop, slice_index, Contains}
use Rattle.afdx_frame.specs.declared.field.Piece.{Piece}
use Rattle.afdx_frame.specs.Cutting.{cutting, pieces_from}

-- the content of a fragment: its offset in units of 8 bytes, the flag of more fragments, and its data
pub record Fragment : Type 0 where
  pub offset : ℕ
  pub more : Bool
  pub bytes : List ℕ

-- the bytes received, by their position in the datagram, and its length once it is known
pub record Buffer : Type 0 where
  pub byte_at : ℕ → Option ℕ
  pub total : Option ℕ

-- the buffer before any fragment
abbrev pub empty : Buffer
empty = record { byte_at = λ i. None; total = None }

-- the position after a fragment's last byte
abbrev pub end_of : Fragment → ℕ
end_of fragment = 8 * fragment.offset + length fragment.bytes

-- the position lies within the fragment
abbrev pub covers : Fragment → ℕ → Bool
covers fragment i = nat_le (8 * fragment.offset) i && nat_lt i (end_of fragment)

-- A fragment's bytes go to its offset, and a fragment without the flag fixes the length.
abbrev pub put : Buffer → Fragment → Buffer
put buffer fragment = record {
  byte_at = λ i.
      if covers fragment i
      then Some (slice_index fragment.bytes (i - 8 * fragment.offset))
      else buffer.byte_at i;
  total = if fragment.more then buffer.total else Some (end_of fragment);
}

-- the buffer after these fragments, in the order in which they come
abbrev pub put_all : Buffer → List Fragment → Buffer
put_all buffer [] = buffer
put_all buffer (fragment ∷ later) = put_all (put buffer fragment) later

-- a byte before others, if all of them are known
abbrev pub joined : Option ℕ → Option (List ℕ) → Option (List ℕ)
joined None rest = None
joined (Some x) None = None
joined (Some x) (Some xs) = Some (x ∷ xs)

-- the bytes of `n` positions from `start` on, if all of them are known
abbrev pub bytes_from : (ℕ → Option ℕ) → ℕ → ℕ → Option (List ℕ)
bytes_from byte_at start zero = Some []
bytes_from byte_at start (suc n) = joined (byte_at start) (bytes_from byte_at (start + 1) n)

-- the bytes of the datagram, if its length and all of them are known
abbrev pub bytes_to : (ℕ → Option ℕ) → Option ℕ → Option (List ℕ)
bytes_to byte_at None = None
bytes_to byte_at (Some n) = bytes_from byte_at 0 n

-- the datagram, once its length and each of its bytes are known
abbrev pub datagram_in : Buffer → Option (List ℕ)
datagram_in buffer = bytes_to buffer.byte_at buffer.total

-- the fragment that carries a piece of a datagram
abbrev pub fragment_of : List ℕ → Piece → Fragment
fragment_of datagram piece = record {
  offset = piece.start / 8;
  more = piece.more;
  bytes = take piece.len (drop piece.start datagram);
}

-- the fragments of a datagram, each of at most `room` bytes
abbrev pub fragments_of : ℕ → List ℕ → List Fragment
fragments_of room datagram =
    map (fragment_of datagram) (pieces_from 0 (cutting room (length datagram)))

-- The fragments of a datagram give it back, in any order and with any repetition.
abbrev pub AnyOrder : Type 0
AnyOrder = (room : ℕ) (datagram : List ℕ) (came : List Fragment) → 8 ≤ room → 1 ≤ length datagram
    → ((fragment : Fragment)
    → Contains came fragment ↔ Contains (fragments_of room datagram) fragment)
    → datagram_in (put_all empty came) ≡ Some datagram

-- While a fragment is missing, nothing is given back.
abbrev pub NotBefore : Type 0
NotBefore = (room : ℕ) (datagram : List ℕ) (came : List Fragment) (missing : Fragment)
    → 8 ≤ room → 1 ≤ length datagram
    → ((fragment : Fragment)
    → Contains came fragment → Contains (fragments_of room datagram) fragment)
    → Contains (fragments_of room datagram) missing → (Contains came missing → ⊥)
    → datagram_in (put_all empty came) ≡ None
