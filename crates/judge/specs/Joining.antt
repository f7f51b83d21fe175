-- The message of a sub-VL on a network, as its pieces come: the next piece, and the faults of a whole message.
use Rattle.std.specs.Prelude.{ℕ, ◌+◌, ◌-◌, ◌*◌, ◌%◌, nat_eq, nat_lt, nat_le, not, ◌&&◌, ◌||◌, Bool, true, false, if◌then◌else◌, List, find, option_map, option_and_then, Option, Some, None}
use Rattle.std.specs.Option.{option_map_or}
use Rattle.afdx_plan.specs.Address.{destination_address}
use Rattle.afdx_plan.specs.Plan.{step_of}
use Rattle.afdx_plan.specs.declared.port_plan.UdpSum.TheVariants.{Generated}
use Rattle.afdx_frame.specs.Frame.{udp_field}
use Rattle.afdx_frame.specs.Profile.{word_at}
use Rattle.judge.specs.Deviations.{deviation, first_of}
use Rattle.judge.specs.Types.{Deviation, Ending, Fields, Flow, Head, Joining, FragmentMisfit, PieceIn, PortPlan}
use Rattle.judge.specs.declared.finding.Ending.TheVariants.{UdpLength, Size as TooLong, UdpChecksum}
use Rattle.judge.specs.declared.finding.FindingKind.TheVariants.{Fragment, Message}
use Rattle.judge.specs.declared.finding.FragmentMisfit.TheVariants.{Offset, Identification, Repeated, Addresses, Length}
use Rattle.judge.specs.declared.joining.Joining.TheVariants.{Any, Between, After, Within}

-- ---- ports

-- an address as a number of 32 bits
abbrev pub address_number : List ℕ → ℕ
address_number address = 65536 * word_at address 0 + word_at address 2

-- a piece has the partition and the destination of a port
abbrev pub is_towards : Flow → PortPlan → Bool
is_towards flow port = nat_eq flow.partition port.partition
    && nat_eq flow.address (address_number (destination_address port))

-- a first piece of a link belongs to a port: it has the port's UDP ports and, if the identification gives the sub-VL,
-- its sub-VL
abbrev pub is_of_port : Bool → ℕ → ℕ → Flow → PortPlan → Bool
is_of_port arinc vl sub flow port = nat_eq port.vl.0 vl && (arinc || nat_eq port.sub sub)
    && nat_eq flow.source port.source && nat_eq flow.destination port.destination && is_towards flow port

abbrev pub port_of : Bool → List PortPlan → ℕ → ℕ → Flow → Option PortPlan
port_of arinc ports vl sub flow = find (is_of_port arinc vl sub flow) ports

-- ---- the message

-- The head of a port's message, from its first piece. The sum covers the words of the addresses and the piece, the
-- checksum taken as zero, modulo 65,535.
abbrev pub head_of : PortPlan → Fields → Head
head_of port fields = record {
  port = port;
  udp_len = fields.udp_len;
  udp_sum = fields.udp_sum;
  sum = (fields.ends + fields.sum + (65535 - fields.udp_sum)) % 65535;
}

-- the head after one more piece
abbrev pub head_with : Head → Fields → Head
head_with head fields = record head { sum = (head.sum + fields.sum) % 65535 }

-- the byte at which the next piece begins, and its identification, if they are known
abbrev pub next_of : Joining → Option ℕ
next_of Any = None
next_of (Within message) = Some message.next
next_of _ = Some 0

abbrev pub ident_of : Joining → Option ℕ
ident_of (Between ident) = Some ident
ident_of (Within message) = Some message.ident
ident_of _ = None

-- the head of the message that was begun, if it is known
abbrev pub begun : Joining → Option Head
begun (Within message) = message.head
begun _ = None

-- the identification that the next message doesn't have
abbrev pub ident_before : Joining → Option ℕ
ident_before (After before) = before
ident_before _ = None

-- a piece has the addresses of its message, if they are known
abbrev pub has_addresses : Option Head → Flow → Bool
has_addresses head flow = option_map_or (λ (h : Head). is_towards flow h.port) head true

abbrev pub misfit : FragmentMisfit → ℕ → ℕ → Option Deviation
misfit how seen wanted = Some (deviation (Fragment how) seen wanted)

-- a misfit if a number isn't the wanted one, if one is wanted
abbrev pub misfit_if : FragmentMisfit → Option ℕ → ℕ → Option Deviation
misfit_if how wanted seen =
    option_and_then (λ wanted. if nat_eq seen wanted then None else misfit how seen wanted) wanted

-- a message of one frame is put together by no identification
abbrev pub repeated_if : Option ℕ → PieceIn → Option Deviation
repeated_if before piece = option_and_then
    (λ before. if piece.more && nat_eq piece.ident before then misfit Repeated piece.ident 0 else None) before

abbrev pub addresses_deviation : Option Head → Flow → Option Deviation
addresses_deviation head flow = if has_addresses head flow then None else misfit Addresses 0 0

-- The length that the cutting gives a piece: as much as fits into a frame, in units of 8 bytes; of the last piece more
-- than fitted beside the one before. A frame that is too long is another finding.
unfoldable pub length_deviation : ℕ → PieceIn → Option Deviation
length_deviation room piece =
    if piece.more
    then (if nat_le piece.len room && not (nat_eq piece.len (step_of room)) then misfit Length piece.len (step_of room)
    else None)
    else (if nat_lt 0 piece.start && nat_le piece.len (room - step_of room)
    then misfit Length piece.len (room - step_of room + 1) else None)

-- a piece goes on with a message in progress: it has its identification and its addresses (RFC 791, 3.2, reassembly)
abbrev pub goes_on : Fields → Joining → Bool
goes_on fields (Within message) = nat_eq fields.piece.ident message.ident && has_addresses message.head fields.flow
goes_on fields _ = false

-- the deviation of a piece that isn't the next one; by ARINC 664 alone a message may be cut anywhere
unfoldable pub fragment_deviation : Bool → ℕ → Fields → Joining → Option Deviation
fragment_deviation arinc room fields joining = first_of (misfit_if Offset (next_of joining) fields.piece.start)
    (first_of (misfit_if Identification (ident_of joining) fields.piece.ident)
    (first_of (repeated_if (ident_before joining) fields.piece)
    (first_of (addresses_deviation (begun joining) fields.flow)
    (if arinc then None else length_deviation room fields.piece))))

-- the head of the message after one more piece
abbrev pub head_after : Option Head → Fields → Option Head
head_after head fields = option_map (λ head. head_with head fields) head

unfoldable pub head_now : Option PortPlan → Fields → Joining → Option Head
head_now port fields joining =
    if nat_eq fields.piece.start 0 then option_map (λ port. head_of port fields) port
    else head_after (begun joining) fields

-- The right checksum of a datagram of this length, from the sum without it: the pseudo header adds protocol 17 and the
-- length (RFC 768).
abbrev pub right_sum : Head → ℕ → ℕ
right_sum head len = udp_field head.port.checksum (head.sum + 17 + len)

-- a checksum that is right though the plan has none
abbrev pub is_summed : Head → ℕ → Bool
is_summed head len = nat_eq head.udp_sum (udp_field Generated (head.sum + 17 + len))

abbrev pub ending : Ending → ℕ → ℕ → Option Deviation
ending how seen wanted = Some (deviation (Message how) seen wanted)

-- The deviation of a message whose datagram has this length. By ARINC 664 alone it may have no bytes, and a checksum
-- though the plan has none.
unfoldable pub message_deviation : Bool → ℕ → Head → Option Deviation
message_deviation arinc len head =
    if not (nat_eq head.udp_len len) then ending UdpLength head.udp_len len
    else (if nat_lt len (if arinc then 8 else 9) || nat_lt head.port.max (len - 8)
    then ending TooLong (len - 8) head.port.max
    else (if nat_eq head.udp_sum (right_sum head len) || arinc && is_summed head len then None
    else ending UdpChecksum head.udp_sum (right_sum head len)))

-- the deviation of the message that a piece ends, if its head is known
abbrev pub if_known : Bool → ℕ → Option Head → Option Deviation
if_known arinc len head = option_and_then (message_deviation arinc len) head

abbrev pub end_deviation : Bool → PieceIn → Option Head → Option Deviation
end_deviation arinc piece head = if piece.more then None else if_known arinc (piece.start + piece.len) head

-- The state after a piece: the next message's identification follows. By ARINC 664 alone it is another one, if both
-- messages are cut.
abbrev pub joined : Bool → PieceIn → Option Head → Joining
joined arinc piece head =
    if piece.more then Within (record { ident = piece.ident; next = piece.start + piece.len; head = head })
    else (if arinc then After (if nat_lt 0 piece.start then Some piece.ident else None)
    else Between ((piece.ident + 4) % 65536))
