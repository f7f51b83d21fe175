-- Frames whose constant field or interface bytes are a maker's own: which byte becomes which, so that they are judged
-- as frames of the profile.
use Rattle.std.specs.Prelude.{ℕ, ◌≡◌, ◌≢◌, ◌≤◌, ◌<◌, ◌↔◌, nat_eq, nat_lt, Bool, if◌then◌else◌, List, [], ◌∷◌, ◌++◌, length, slice_index, slice_set, Result, Ok, Err}
use Rattle.byteorder.specs.Endian.{little_bytes}
use Rattle.afdx_frame.specs.Frame.{interface_byte}
use Rattle.afdx_frame.specs.declared.net.Net.TheVariants.{A, B}
use Rattle.judge.specs.CheckSequence.{check_sequence}
use Rattle.judge.specs.Rules.{checked}
use Rattle.judge.specs.declared.finding.FindingKind.{FindingKind}
use Rattle.judge.specs.declared.finding.Finding.{Finding}
use Rattle.judge.specs.declared.finding.FindingKind.TheVariants.{Network}
use Rattle.judge.specs.declared.addressing.Addressing.{Addressing}

-- two bytes are exchanged, and each other one stays
abbrev pub exchanged : ℕ → ℕ → ℕ → ℕ
exchanged one other byte = if nat_eq byte one then other else (if nat_eq byte other then one else byte)

-- B's own interface byte after the exchange of A's
abbrev pub b_left : Addressing → ℕ
b_left own = exchanged own.a (interface_byte A) own.b

-- an interface byte as the profile's: A's bytes are exchanged, and then B's
abbrev pub interface_as : Addressing → ℕ → ℕ
interface_as own byte = exchanged (b_left own) (interface_byte B) (exchanged own.a (interface_byte A) byte)

-- the interface byte that becomes this one
abbrev pub interface_from : Addressing → ℕ → ℕ
interface_from own byte = exchanged own.a (interface_byte A) (exchanged (b_left own) (interface_byte B) byte)

-- a number that a finding has for an interface byte
abbrev pub number_from : Addressing → ℕ → ℕ
number_from own number = if nat_lt number 256 then interface_from own number else number

-- the constant field of the profile
abbrev pub constant_field : List ℕ
constant_field = 3 ∷ 0 ∷ 0 ∷ 0 ∷ []

-- a frame's byte at a place as the profile has it: bytes of the constant field are exchanged, and the interface byte
abbrev pub byte_as : Addressing → ℕ → ℕ → ℕ
byte_as own k byte =
    if nat_lt k 4 then exchanged (slice_index own.constant k) (slice_index constant_field k) byte
    else (if nat_eq k 11 then interface_as own byte else byte)

abbrev pub with_byte : Addressing → ℕ → List ℕ → List ℕ
with_byte own k f = slice_set f k (byte_as own k (slice_index f k))

-- A frame as the profile's. One without an interface byte stays as it is.
unfoldable pub frame_as : Addressing → List ℕ → List ℕ
frame_as own f =
    if nat_lt (length f) 12 then f
    else with_byte own 11 (with_byte own 3 (with_byte own 2 (with_byte own 1 (with_byte own 0 f))))

-- the frame with its check sequence, if it was read before a right one; otherwise the bytes that were read
abbrev pub sealed : {E : Type 0} → Addressing → List ℕ → Result (List ℕ) E → List ℕ
sealed own bytes (Ok frame) = frame_as own frame ++ little_bytes 4 (check_sequence (frame_as own frame))
sealed own bytes (Err why) = bytes

-- a packet's bytes, which may end with a check sequence, as the profile has them
unfoldable pub packet_as : Addressing → Bool → List ℕ → List ℕ
packet_as own has_check bytes = if has_check then sealed own bytes (checked bytes) else frame_as own bytes

-- a number that a finding wants: 0 stays, which says that the network doesn't carry the link
abbrev pub wanted_from : Addressing → ℕ → ℕ
wanted_from own number = if nat_eq number 0 then 0 else number_from own number

-- a finding at a frame as it was recorded: only a Network has interface bytes
abbrev pub with_bytes : Addressing → Finding → FindingKind → Finding
with_bytes own finding Network = record finding {
  seen = number_from own finding.seen;
  wanted = wanted_from own finding.wanted;
}
with_bytes own finding kind = finding

abbrev pub told_as : Addressing → Finding → Finding
told_as own finding = with_bytes own finding finding.kind

-- ---- laws

-- The fields of a frame are the profile's exactly if they were the addressing's before, and its other bytes stay.
pub record AreKept (own : Addressing) (f : List ℕ) : Type 0 where
  pub size : length (frame_as own f) ≡ length f
  pub constant : (k : ℕ) → k < 4
      → (slice_index (frame_as own f) k ≡ slice_index constant_field k) ↔ (slice_index f k ≡ slice_index own.constant k)
  pub a : (slice_index (frame_as own f) 11 ≡ interface_byte A) ↔ (slice_index f 11 ≡ own.a)
  pub b : (slice_index (frame_as own f) 11 ≡ interface_byte B) ↔ (slice_index f 11 ≡ own.b)
  pub others : (k : ℕ) → 4 ≤ k → k ≢ 11 → slice_index (frame_as own f) k ≡ slice_index f k

abbrev pub OwnAsProfile : Type 0
OwnAsProfile = (own : Addressing) (f : List ℕ) → own.a ≢ own.b → 12 ≤ length f → AreKept own f

-- No two frames become one.
abbrev pub OneToOne : Type 0
OneToOne = (own : Addressing) (f g : List ℕ) → frame_as own f ≡ frame_as own g → f ≡ g

-- An interface byte of a finding is the one that was recorded.
abbrev pub InterfaceTold : Type 0
InterfaceTold = (own : Addressing) (byte : ℕ) → interface_from own (interface_as own byte) ≡ byte
