-- Worked cases of the laws, by subject: a header and a cutting, fragments, a reassembly, UDP checksums.
use Rattle.std.specs.Prelude.{◌≡◌, ℕ, ◌+◌, List, [], ◌∷◌, ◌≤◌, false, ◌++◌, length, map, replicate, slice_index, ◌↔◌, true, Some, None, Contains}
use Rattle.std.specs.List.{AllByRecursion}
use Rattle.afdx_frame.specs.Checksum.{IsChecksum, word_sum, checksum, IsUdpChecksum, udp_checksum}
use Rattle.afdx_frame.specs.Cutting.{IsCutting, cutting, pieces_from, piece_at, Cutting}
use Rattle.afdx_frame.specs.ReadBack.{IsPiece, Says, PassesUdpCheck, IsWordChanged}
use Rattle.afdx_plan.specs.Demo.{demo_port}
use Rattle.afdx_plan.specs.Plan.{IsPort}
use Rattle.afdx_frame.specs.declared.net.Net.{Net}
use Rattle.afdx_frame.specs.declared.net.Net.TheVariants.{A, B}
use Rattle.afdx_frame.specs.declared.field.Piece.{Piece}
use Rattle.afdx_frame.specs.Frame.{frame_of, addresses, datagram, greatest_message}
use Rattle.afdx_frame.specs.Fragments.{Sent, fragments, fragments_at, fragments_left}
use Rattle.afdx_frame.specs.Header.{twin_of}
use Rattle.afdx_frame.specs.Reassembly.{Fragment, empty, put_all, datagram_in, fragments_of}
use Rattle.afdx_plan.specs.declared.port_plan.UdpSum.TheVariants.{Generated}
use Rattle.afdx_plan.specs.declared.port_plan.PortPlan.{PortPlan}

-- the demonstration port's internet header for a message of one byte, without its checksum
abbrev pub demo_header : List ℕ
demo_header =
    (0x45 ∷ 0x00 ∷ 0x00 ∷ 0x1d ∷ 0x00 ∷ 0x00 ∷ 0x00 ∷ 0x00 ∷ 0x01 ∷
    0x11 ∷ 0x0a ∷ 0x00 ∷ 0x01 ∷ 0x01 ∷ 0xe0 ∷ 0xe0 ∷ 0x00 ∷ 0x01 ∷ [])

-- The header's checksum is 0xcdee, and 0xcdef is none. The checksum of a multiple of 65,535 is 0 and not 65,535, though
-- both sums are multiples.
pub record ChecksOneHeader : Type 0 where
  pub is : IsChecksum (word_sum demo_header) 0xcdee
  pub computed : checksum (word_sum demo_header) ≡ 0xcdee
  pub next : IsChecksum (word_sum demo_header) 0xcdef → ⊥
  pub zero : checksum 65535 ≡ 0
  pub full : IsChecksum 65535 65535 → ⊥

-- A datagram of 49 bytes is cut in two. A third piece of one byte would fit into the second. With
-- room for 7 bytes a step is empty, and there is no cutting.
pub record CutsInTwo : Type 0 where
  pub cut : cutting 25 49 ≡ 24 ∷ 25 ∷ []
  pub is : IsCutting 25 49 (24 ∷ 25 ∷ [])
  pub loose : IsCutting 25 49 (24 ∷ 24 ∷ 1 ∷ []) → ⊥
  pub narrow : IsCutting 7 9 (cutting 7 9) → ⊥

-- Each of the two pieces fits into a frame. With room for 7 bytes some pieces don't, and with room for 1,480 bytes one
-- doesn't.
pub record KeepsTwoPieces : Type 0 where
  pub pieces : pieces_from 0 (cutting 25 (8 + 41)) ≡ piece_at 25 49 0 ∷ piece_at 25 49 24 ∷ []
  pub each : AllByRecursion (IsPiece 41) (pieces_from 0 (cutting 25 (8 + 41)))
  pub narrow : AllByRecursion (IsPiece 1) (pieces_from 0 (cutting 7 (8 + 1))) → ⊥
  pub wide : AllByRecursion (IsPiece 1472) (pieces_from 0 (cutting 1480 (8 + 1472))) → ⊥

-- the first message
abbrev pub long_sent : Sent
long_sent = record { port = demo_port; bytes = replicate 41 0xaa }

-- the second message
abbrev pub short_sent : Sent
short_sent = record { port = demo_port; bytes = 1 ∷ [] }

-- the frame of a piece of the first message, with sequence number 1
abbrev pub long_frame : Piece → Net → List ℕ
long_frame piece net = frame_of 1 demo_port long_sent.bytes 0 piece net 1

-- The frames of its second piece for networks A and B are twins, and differ.
pub record TurnsOneFrame : Type 0 where
  pub turned : twin_of B (long_frame (piece_at 25 49 24) A) ≡ long_frame (piece_at 25 49 24) B
  pub on_a : slice_index (long_frame (piece_at 25 49 24) A) 11 ≡ 32
  pub on_b : slice_index (long_frame (piece_at 25 49 24) B) 11 ≡ 64
  pub other : long_frame (piece_at 25 49 24) A ≡ long_frame (piece_at 25 49 24) B → ⊥

-- an empty piece after the first eight bytes
abbrev pub no_bytes : Piece
no_bytes = record { start = 8; len = 0; more = false }

-- The frame of the second piece carries link 1, identification 0, sub-VL 0 and number 1. An empty
-- piece is no piece of a message, and its frame isn't of the profile.
pub record SaysItsFields : Type 0 where
  pub port : IsPort demo_port
  pub most : length long_sent.bytes ≤ greatest_message
  pub piece : IsPiece (length long_sent.bytes) (piece_at 25 49 24)
  pub says : Says (long_frame (piece_at 25 49 24) A) 1 0 0 (piece_at 25 49 24) 1
  pub empty : IsPiece (length long_sent.bytes) no_bytes → ⊥
  pub unsaid : Says (long_frame no_bytes A) 1 0 0 no_bytes 1 → ⊥

-- The second message adds its one fragment, as the message at place 1, not at place 0.
pub record GrowsByOne : Type 0 where
  pub grows : fragments 1 25 A (long_sent ∷ short_sent ∷ [])
      ≡ fragments 1 25 A (long_sent ∷ []) ++ fragments_at 1 25 A 1 short_sent
  pub count : length (fragments 1 25 A (long_sent ∷ short_sent ∷ [])) ≡ 3
  pub place : fragments 1 25 A (long_sent ∷ short_sent ∷ [])
      ≡ fragments 1 25 A (long_sent ∷ []) ++ fragments_at 1 25 A 0 short_sent → ⊥

-- a cut of the first message, after this many bytes of its datagram were given
abbrev pub cut_from : ℕ → Cutting
cut_from given = record {
  port = demo_port;
  place = 0;
  bytes = long_sent.bytes;
  start = given;
}

-- A cut has both fragments left before it gives the first, and one afterwards.
pub record CutsBoth : Type 0 where
  pub whole : fragments_left 1 25 A (cut_from 0) ≡ fragments_at 1 25 A 0 long_sent
  pub both : length (fragments_left 1 25 A (cut_from 0)) ≡ 2
  pub one : length (fragments_left 1 25 A (cut_from 24)) ≡ 1

-- The fragments of both messages for network A become the fragments for B, and differ from them before.
pub record TurnsThreeFragments : Type 0 where
  pub turned : map (twin_of B) (fragments 1 25 A (long_sent ∷ short_sent ∷ []))
      ≡ fragments 1 25 B (long_sent ∷ short_sent ∷ [])
  pub other : fragments 1 25 A (long_sent ∷ short_sent ∷ [])
      ≡ fragments 1 25 B (long_sent ∷ short_sent ∷ []) → ⊥

-- the first fragment of the bytes 1 to 20
abbrev pub first_bytes : Fragment
first_bytes = record {
  offset = 0;
  more = true;
  bytes = 1 ∷ 2 ∷ 3 ∷ 4 ∷ 5 ∷ 6 ∷ 7 ∷ 8 ∷ [];
}

-- the second fragment
abbrev pub middle_bytes : Fragment
middle_bytes = record {
  offset = 1;
  more = true;
  bytes = 9 ∷ 10 ∷ 11 ∷ 12 ∷ 13 ∷ 14 ∷ 15 ∷ 16 ∷ [];
}

-- the last fragment
abbrev pub last_bytes : Fragment
last_bytes = record { offset = 2; more = false; bytes = 17 ∷ 18 ∷ 19 ∷ 20 ∷ [] }

-- the datagram
abbrev pub twenty_bytes : List ℕ
twenty_bytes = first_bytes.bytes ++ middle_bytes.bytes ++ last_bytes.bytes

-- the fragments out of order, one of them twice
abbrev pub four_came : List Fragment
four_came = last_bytes ∷ first_bytes ∷ last_bytes ∷ middle_bytes ∷ []

-- three fragments, without the second of the datagram
abbrev pub three_came : List Fragment
three_came = last_bytes ∷ first_bytes ∷ last_bytes ∷ []

-- The four fragments are the datagram's. Out of order and repeated they give it back; without the second one they
-- don't.
pub record ThreePieces : Type 0 where
  pub cut : fragments_of 10 twenty_bytes ≡ first_bytes ∷ middle_bytes ∷ last_bytes ∷ []
  pub each : (fragment : Fragment)
      → Contains four_came fragment ↔ Contains (fragments_of 10 twenty_bytes) fragment
  pub given : datagram_in (put_all empty four_came) ≡ Some twenty_bytes
  pub missing : datagram_in (put_all empty three_came) ≡ None

-- a fragment of another datagram, at the positions of the second one
abbrev pub foreign_bytes : Fragment
foreign_bytes = record { offset = 1; more = true; bytes = replicate 8 0 }

-- While the second fragment is missing, nothing is given back. With a fragment of another datagram
-- in its place, another datagram is.
pub record MissesTheMiddle : Type 0 where
  pub among : (fragment : Fragment)
      → Contains three_came fragment → Contains (fragments_of 10 twenty_bytes) fragment
  pub middle : Contains (fragments_of 10 twenty_bytes) middle_bytes
  pub missing : Contains three_came middle_bytes → ⊥
  pub none : datagram_in (put_all empty three_came) ≡ None
  pub foreign : Contains (fragments_of 10 twenty_bytes) foreign_bytes → ⊥
  pub another : datagram_in (put_all empty (foreign_bytes ∷ three_came))
      ≡ Some (first_bytes.bytes ++ replicate 8 0 ++ last_bytes.bytes)

-- the demonstration port, with checksums
abbrev pub summing_port : PortPlan
summing_port = record demo_port { checksum = Generated }

-- the datagram of its message 01
abbrev pub first_datagram : List ℕ
first_datagram = 0x03 ∷ 0xe8 ∷ 0x07 ∷ 0xd0 ∷ 0x00 ∷ 0x09 ∷ 0x07 ∷ 0x42 ∷ 0x01 ∷ []

-- the datagram of 01 with another last byte
abbrev pub damaged_datagram : List ℕ
damaged_datagram = 0x03 ∷ 0xe8 ∷ 0x07 ∷ 0xd0 ∷ 0x00 ∷ 0x09 ∷ 0x07 ∷ 0x42 ∷ 0x02 ∷ []

-- The datagram of 01 passes and the damaged one fails. The computed checksum of 0840 is zero, and
-- is sent as ffff. The datagram of 01 without a checksum fails.
pub record ChecksThreeDatagrams : Type 0 where
  pub first : datagram 1 summing_port (0x01 ∷ []) ≡ first_datagram
  pub passes : PassesUdpCheck (addresses 1 summing_port) first_datagram
  pub changed : IsWordChanged first_datagram damaged_datagram
  pub refused : PassesUdpCheck (addresses 1 summing_port) damaged_datagram → ⊥
  pub full : datagram 1 summing_port (0x08 ∷ 0x40 ∷ [])
      ≡ 0x03 ∷ 0xe8 ∷ 0x07 ∷ 0xd0 ∷ 0x00 ∷ 0x0a ∷ 0xff ∷ 0xff ∷ 0x08 ∷ 0x40 ∷ []
  pub never_zero : IsUdpChecksum 65535 0 → ⊥
  pub computed : udp_checksum 65535 ≡ 65535
  pub none : PassesUdpCheck (addresses 1 demo_port) (datagram 1 demo_port (0x01 ∷ [])) → ⊥
