-- The rules of a frame's layout, in their order (ARINC 664 Part 7, frame structure; RFC 791).
use Rattle.std.specs.Prelude.{ℕ, ◌+◌, ◌-◌, ◌*◌, ◌%◌, ◌≤◌, ◌==◌, nat_eq, nat_lt, nat_le, not, ◌&&◌, ◌||◌, Bool, if◌then◌else◌, max, List, length, slice_index, slice_range, Option, Some, None, option_map, position}
use Rattle.std.specs.Option.{option_or}
use Rattle.afdx_frame.specs.Checksum.{word_sum}
use Rattle.afdx_frame.specs.Frame.{greatest_datagram, offset_modulus}
use Rattle.afdx_frame.specs.Profile.{total_length, fragment_field, dont_fragment, has_more, is_icmp}
use Rattle.afdx_frame.specs.declared.layout.Breach.{Breach}
use Rattle.afdx_frame.specs.declared.layout.Layout.{Layout}
use Rattle.afdx_frame.specs.declared.layout.Layout.TheVariants.{Length, DestinationMac, SourceMac, Interface, EtherType, Version, TotalLength, Fragment, Protocol, HeaderSum, SourceAddress, DestinationAddress, Padding}

abbrev pub breach : Layout → ℕ → ℕ → Breach
breach rule seen wanted = record { rule = rule; seen = seen; wanted = wanted }

-- a rule whose field begins at a byte, and the rules after it
abbrev pub kept_then : Bool → Layout → ℕ → Option Breach → Option Breach
kept_then kept rule byte later = if kept then later else Some (breach rule byte 0)

-- the byte at a place is this one
abbrev pub has_byte : List ℕ → ℕ → ℕ → Bool
has_byte frame place byte = nat_eq (slice_index frame place) byte

-- 60 to 1,514 bytes, the constant fields of the MAC addresses, the interface identifier and the type
unfoldable pub link_broken : List ℕ → Option Breach
link_broken f =
    if nat_lt (length f) 60 then Some (breach Length (length f) 60) else (
    if nat_lt 1514 (length f) then Some (breach Length (length f) 1514) else (
    kept_then (has_byte f 0 3 && has_byte f 1 0 && has_byte f 2 0 && has_byte f 3 0) DestinationMac 0 (
    kept_then (has_byte f 6 2 && has_byte f 7 0 && has_byte f 8 0) SourceMac 6 (
    kept_then (has_byte f 11 32 || has_byte f 11 64) Interface 11 (
    kept_then (has_byte f 12 8 && has_byte f 13 0) EtherType 12 None)))))

-- the length of a frame with this total length: a short one is padded to 60 bytes
abbrev pub framed : ℕ → ℕ
framed total = max (15 + total) 60

-- the total length: some bytes of a piece, and the frame's length
abbrev pub has_total : List ℕ → Bool
has_total f = nat_le 21 (total_length f) && nat_eq (length f) (framed (total_length f))

-- The flags: none but more fragments. By ARINC 664 alone don't fragment may stand in a frame that has a whole datagram,
-- with neither more fragments nor an offset.
abbrev pub has_flags : Bool → List ℕ → Bool
has_flags arinc f = nat_lt (fragment_field f) dont_fragment || arinc && nat_eq (fragment_field f) dont_fragment

-- a piece that more follow has whole units of 8 bytes (RFC 791, 3.2)
abbrev pub has_units : List ℕ → Bool
has_units f = not (has_more f) || nat_eq ((total_length f - 20) % 8) 0

-- the flags, which fit the piece, and an offset at which the piece ends within the greatest datagram
abbrev pub has_fragment : Bool → List ℕ → Bool
has_fragment arinc f = has_flags arinc f && has_units f
    && nat_le (8 * (fragment_field f % offset_modulus) + total_length f) (20 + greatest_datagram)

-- UDP (RFC 768), and by ARINC 664 alone also ICMP (RFC 792)
abbrev pub has_protocol : Bool → List ℕ → Bool
has_protocol arinc f = has_byte f 23 17 || arinc && is_icmp f

-- The internet header: version 4, a header of 20 bytes and type of service 0; time to live 1 and the protocol. The type
-- of service and the time to live are this project's choice.
unfoldable pub internet_broken : Bool → List ℕ → Option Breach
internet_broken arinc f =
    kept_then (has_byte f 14 69 && (arinc || has_byte f 15 0)) Version 14 (
    kept_then (has_total f) TotalLength 16 (
    kept_then (has_fragment arinc f) Fragment 20 (
    kept_then ((arinc || has_byte f 22 1) && has_protocol arinc f) Protocol 22 (
    kept_then (nat_eq (word_sum (slice_range f 14 34) % 65535) 0) HeaderSum 24 None))))

-- 10, the end system of the source MAC address, a partition from 0 to 31
abbrev pub has_source : List ℕ → Bool
has_source f = has_byte f 26 10 && has_byte f 27 (slice_index f 9) && has_byte f 28 (slice_index f 10)
    && nat_le (slice_index f 29) 31

-- 224.224 and the link of the destination MAC address, or a unicast address
abbrev pub has_destination : List ℕ → Bool
has_destination f = has_byte f 30 224 && has_byte f 31 224 && has_byte f 32 (slice_index f 4)
    && has_byte f 33 (slice_index f 5) || has_byte f 30 10

-- the bytes between the piece and the sequence number, and the first one that isn't zero
abbrev pub padding_of : List ℕ → List ℕ
padding_of f = slice_range f (14 + total_length f) (length f - 1)

abbrev pub first_nonzero : List ℕ → Option ℕ
first_nonzero bytes = position (λ byte. not (byte == 0)) bytes

-- the addresses, and the padding: its zeros are this project's choice
unfoldable pub end_broken : Bool → List ℕ → Option Breach
end_broken arinc f =
    kept_then (has_source f) SourceAddress 26 (
    kept_then (has_destination f) DestinationAddress 30 (
    if arinc then None
    else option_map (λ place. breach Padding (14 + total_length f + place) 0) (first_nonzero (padding_of f))))

-- The rules in their order. By ARINC 664 alone (`arinc`), the choices of this project aren't rules.
unfoldable pub layout_broken : Bool → List ℕ → Option Breach
layout_broken arinc f = option_or (link_broken f) (option_or (internet_broken arinc f) (end_broken arinc f))

-- a frame whose headers, and whose piece before its sequence number, can be read
pub record IsReadable (frame : List ℕ) : Type 0 where
  pub least : 60 ≤ length frame
  pub most : length frame ≤ 1514
  pub some : 21 ≤ total_length frame
  pub piece : 15 + total_length frame ≤ length frame
