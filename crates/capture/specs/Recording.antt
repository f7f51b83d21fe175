-- Reading a capture: the effect of each unit on a reading, and the packets and the losses of all units.
use Rattle.std.specs.Prelude.{ℕ, Bool, false, zero, suc, ◌+◌, ◌-◌, ◌*◌, ◌%◌, ◌^◌, ◌≡◌, nat_eq, nat_lt, ◌||◌, if◌then◌else◌, List, [], ◌∷◌, ◌++◌, length, map, take, drop, slice_range, option_map, Option, Some, None, Result, Ok, Err}
use Rattle.afdx_frame.specs.declared.net.Net.{Net}
use Rattle.afdx_frame.specs.declared.net.Net.TheVariants.{A}
use Rattle.capture.specs.Interfaces.{◌>>=◌, fcs_in, fcs_on, plain, with_options, time_of, known, network_of}
use Rattle.capture.specs.Losses.{counted, lost_on, with_losses, with_packet_losses, with_statistics}
use Rattle.capture.specs.Units.{number_at, unit_of, size_of}
use Rattle.capture.specs.declared.stop.CaptureEnd.{CaptureEnd}
use Rattle.capture.specs.declared.stop.CaptureEnd.TheVariants.{Whole, CutOff, Broken}
use Rattle.capture.specs.declared.interface.Interface.{Interface}
use Rattle.capture.specs.declared.interface.TheConstants.{MOST_INTERFACES}
use Rattle.capture.specs.declared.losses.Losses.{Losses}
use Rattle.capture.specs.declared.order.Order.{Order}
use Rattle.capture.specs.declared.packet.Packet.{Packet}
use Rattle.capture.specs.declared.reading.Recording.{Recording as ReadRecording}
use Rattle.capture.specs.declared.stop.Fault.{Fault}
use Rattle.capture.specs.declared.stop.Fault.TheVariants.{Version, Length, EndLength, LinkType, Interfaces, Obsolete, Captured}
use Rattle.capture.specs.declared.stop.NoStep.{NoStep}
use Rattle.capture.specs.declared.stop.NoStep.TheVariants.{More, Malformed}
use Rattle.capture.specs.declared.unit.Clock.{Clock}
use Rattle.capture.specs.declared.unit.Clock.TheVariants.{Micros, Nanos}
use Rattle.capture.specs.declared.unit.Format.{Format}
use Rattle.capture.specs.declared.unit.Format.TheVariants.{Unknown, Blocks, Records}
use Rattle.capture.specs.declared.unit.TheConstants.{UNIT_FRONT}
use Rattle.capture.specs.declared.unit.Unit.{Unit as CaptureUnit}
use Rattle.capture.specs.declared.unit.Unit.TheVariants.{Section, Block, Header, Record}

-- a packet: its interface and its network, its time in nanoseconds since 1970, its length, its captured bytes, and
-- whether its capture says that it ends with its check sequence, or doesn't
pub record Recorded : Type 0 where
  pub interface : ℕ
  pub network : Option Net
  pub at : Option ℕ
  pub original : ℕ
  pub bytes : List ℕ
  pub fcs : Option Bool

-- a packet, with the bytes that it borrows
abbrev pub recorded : Packet → Recorded
recorded p = record {
  interface = p.interface;
  network = p.network;
  at = p.at;
  original = p.original;
  bytes = p.bytes.now;
  fcs = p.fcs;
}

abbrev pub recorded_if : Option Packet → Option Recorded
recorded_if packet = option_map recorded packet

-- a packet that was read, or the fault
abbrev pub Gives : Result Packet Fault → Result Recorded Fault → Type 0
Gives (Ok packet) wanted = wanted ≡ Ok (recorded packet)
Gives (Err fault) wanted = wanted ≡ Err fault

-- ---- packets

-- An enhanced packet block: the interface, the time with its high word first, the captured and the original length, and
-- the bytes. Padding and options are left.
unfoldable pub enhanced : Order → List Interface → List ℕ → Result Recorded Fault
enhanced order interfaces body =
    let interface = number_at order 4 0 body in
    let captured = number_at order 4 12 body in
    if nat_lt (length body) 20 then Err Length
    else known interfaces interface >>= (λ described.
    if nat_lt (length body) (20 + captured) then Err Captured
    else time_of described (number_at order 4 4 body * 2 ^ 32 + number_at order 4 8 body) >>= (λ at.
    Ok (record {
      interface = interface;
      network = network_of interfaces interface;
      at = Some at;
      original = number_at order 4 16 body;
      bytes = slice_range body 20 (20 + captured);
      fcs = described.fcs;
    })))

-- the number of bytes that are captured of a packet: at most the limit, if there is one
abbrev pub captured_of : ℕ → ℕ → ℕ
captured_of limit original = if nat_eq limit 0 || nat_lt original limit then original else limit

-- A simple packet block: the original length, and the bytes. It belongs to the first interface, and has no time.
unfoldable pub simple : Order → List Interface → List ℕ → Result Recorded Fault
simple order interfaces body =
    let original = number_at order 4 0 body in
    if nat_lt (length body) 4 then Err Length
    else known interfaces 0 >>= (λ described.
    if nat_lt (length body) (4 + captured_of described.limit original) then Err Captured
    else Ok (record {
      interface = 0;
      network = network_of interfaces 0;
      at = None;
      original = original;
      bytes = slice_range body 4 (4 + captured_of described.limit original);
      fcs = described.fcs;
    }))

-- nanoseconds in a unit of the second part of a record's time
abbrev pub nanos_in : Clock → ℕ
nanos_in Micros = 1000
nanos_in Nanos = 1

-- A record: its time in seconds and their parts, the captured and the original length. Its interface is the only one,
-- so it belongs to network A.
unfoldable pub from_record : Order → Clock → Option Bool → List ℕ → Recorded
from_record order clock fcs whole = record {
  interface = 0;
  network = Some A;
  at = Some (number_at order 4 0 whole * 10 ^ 9 + number_at order 4 4 whole * nanos_in clock);
  original = number_at order 4 12 whole;
  bytes = drop 16 whole;
  fcs = fcs;
}

-- ---- steps

-- the progress of a reading: the format that was found, the interfaces of the section, in their order, and the number
-- of packets that were lost in earlier sections
pub record Progress : Type 0 where
  pub format : Format
  pub interfaces : List Interface
  pub lost_before : ℕ

abbrev pub at_start : Progress
at_start = record { format = Unknown; interfaces = []; lost_before = 0 }

-- the number of packets that were lost so far
abbrev pub lost_by : Progress → ℕ
lost_by p = counted p.lost_before (lost_on p.interfaces)

-- the content of a unit: the progress of the reading after it, and its packet, if it has one
pub record Content : Type 0 where
  pub after : Progress
  pub packet : Option Recorded

abbrev pub content : Progress → Option Recorded → Content
content after packet = record { after = after; packet = packet }

abbrev pub no_packet : Progress → Content
no_packet after = content after None

-- the result of reading a unit: its content; a fault leaves the reading unchanged
abbrev pub Does : Progress → Progress → Result (Option Packet) Fault → Result Content Fault → Type 0
Does old new (Ok packet) wanted = wanted ≡ Ok (content new (recorded_if packet))
Does old new (Err fault) wanted = (wanted ≡ Err fault) × (new ≡ old)

-- the body of a block, between its type and first length, and its last length, which is that length once more
unfoldable pub body_of : Order → List ℕ → Result (List ℕ) Fault
body_of order whole =
    if nat_eq (number_at order 4 (length whole - 4) whole) (length whole)
    then Ok (slice_range whole 8 (length whole - 4))
    else Err EndLength

-- A section header: version 1 of the format, and the section's length, which isn't needed. Interfaces begin anew.
unfoldable pub section_content : Progress → Order → List ℕ → Result Content Fault
section_content p order body =
    if nat_lt (length body) 16 then Err Length
    else (if nat_eq (number_at order 2 4 body) 1
    then Ok (no_packet (record { format = Blocks order; interfaces = []; lost_before = lost_by p }))
    else Err Version)

-- an interface description block: Ethernet, the limit of captured bytes, and options
unfoldable pub interface_content : Progress → Order → List ℕ → Result Content Fault
interface_content p order body =
    if nat_lt (length body) 8 then Err Length
    else (if nat_eq (number_at order 2 0 body) 1
    then (if nat_lt (length p.interfaces) MOST_INTERFACES
    then with_options order (length (drop 8 body)) (drop 8 body) (plain (number_at order 4 4 body))
    >>= (λ i. Ok (no_packet (record p { interfaces = p.interfaces ++ i ∷ [] })))
    else Err Interfaces)
    else Err LinkType)

-- the losses of an interface changed
abbrev pub telling : ℕ → (Losses → Losses) → Progress → Progress
telling number change p = record p { interfaces = with_losses number change p.interfaces }

-- an interface statistics block: its interface, its time, and options. One that is too short tells nothing.
unfoldable pub statistics_content : Progress → Order → List ℕ → Content
statistics_content p order body =
    if nat_lt (length body) 12 then no_packet p
    else no_packet (telling (number_at order 4 0 body) (with_statistics order body) p)

-- an enhanced packet block, whose options may tell of losses on its interface
unfoldable pub enhanced_content : Progress → Order → List ℕ → Result Content Fault
enhanced_content p order body =
    enhanced order p.interfaces body >>= (λ packet.
    Ok (content (telling packet.interface (with_packet_losses order body) p) (Some packet)))

-- A block by its type: 1 describes an interface, 3 and 6 are packets, and 5 is statistics. 2 is a packet in a form that
-- the format has given up, which would be lost. Others are skipped.
unfoldable pub block_content : Progress → Order → ℕ → List ℕ → Result Content Fault
block_content p order kind body =
    if nat_eq kind 1 then interface_content p order body
    else (if nat_eq kind 2 then Err Obsolete
    else (if nat_eq kind 3 then simple order p.interfaces body >>= (λ packet. Ok (content p (Some packet)))
    else (if nat_eq kind 5 then Ok (statistics_content p order body)
    else (if nat_eq kind 6 then enhanced_content p order body
    else Ok (no_packet p)))))

-- The header of a pcap file: version 2 of the format, and Ethernet, in the low 16 bits of its last word, which may tell
-- of check sequences. All records belong to one interface.
unfoldable pub header_content : Progress → Order → Clock → List ℕ → Result Content Fault
header_content p order clock whole =
    if nat_eq (number_at order 2 4 whole) 2
    then (if nat_eq (number_at order 4 20 whole % 2 ^ 16) 1
    then Ok (no_packet (record p {
      format = Records order clock;
      interfaces = record (plain (number_at order 4 16 whole)) { fcs = fcs_in (number_at order 4 20 whole) } ∷ [];
    }))
    else Err LinkType)
    else Err Version

-- the content of a whole unit
unfoldable pub content_of : Progress → CaptureUnit → List ℕ → Result Content Fault
content_of p (Section order) whole = body_of order whole >>= section_content p order
content_of p (Block order) whole = body_of order whole >>= block_content p order (number_at order 4 0 whole)
content_of p (Header order clock) whole = header_content p order clock whole
content_of p (Record order clock) whole = Ok (content p (Some (from_record order clock (fcs_on p.interfaces 0) whole)))

-- a fault stops a reading
abbrev pub or_stop : {X : Type 0} → Result X Fault → Result X NoStep
or_stop (Ok x) = Ok x
or_stop (Err fault) = Err (Malformed fault)

-- there are as many bytes, or more are needed
abbrev pub with_bytes : {X : Type 0} → ℕ → List ℕ → Result X NoStep → Result X NoStep
with_bytes len bytes inside = if nat_lt (length bytes) len then Err More else inside

-- the result of a step: the content of its unit, and the number of the unit's bytes
pub record Moved : Type 0 where
  pub content : Content
  pub used : ℕ

abbrev pub moved : ℕ → Content → Moved
moved used does = record { content = does; used = used }

-- the next unit of these bytes
unfoldable pub next : Progress → List ℕ → Result Moved NoStep
next p bytes =
    with_bytes UNIT_FRONT bytes (or_stop (unit_of p.format bytes) >>= (λ unit.
    or_stop (size_of unit bytes) >>= (λ size.
    with_bytes size bytes (or_stop (content_of p unit (take size bytes)) >>= (λ does. Ok (moved size does))))))

-- ---- recordings

-- the packets that were read of a capture, in their order, the number of packets that were lost, and the end of the
-- reading
pub record Recording : Type 0 where
  pub packets : List Recorded
  pub lost : ℕ
  pub end : CaptureEnd

-- a recording that was read, with the bytes that its packets borrow
abbrev pub recording_of : ReadRecording → Recording
recording_of r = record { packets = map recorded r.packets.items; lost = r.lost; end = r.end }

-- nothing is left of a capture of a known format
abbrev pub is_end : Format → List ℕ → Bool
is_end Unknown bytes = false
is_end (Blocks order) bytes = nat_eq (length bytes) 0
is_end (Records order clock) bytes = nat_eq (length bytes) 0

-- the end of a capture at which a reading stops: `at` bytes of it were read, and these are left
abbrev pub ended : Format → ℕ → List ℕ → NoStep → CaptureEnd
ended format at bytes More = if is_end format bytes then Whole else CutOff at
ended format at bytes (Malformed fault) = Broken at fault

-- a recording with one more packet in front, if there is one
abbrev pub with_packet : Option Recorded → Recording → Recording
with_packet None rest = rest
with_packet (Some packet) rest = record rest { packets = packet ∷ rest.packets }

-- no more packets: the losses so far, and the end
abbrev pub stopped : Progress → CaptureEnd → Recording
stopped p end = record { packets = []; lost = lost_by p; end = end }

-- a step, and the recording after it; or the end
abbrev pub then_read : Progress → ℕ → List ℕ → (Progress → ℕ → Recording) → Result Moved NoStep → Recording
then_read p at bytes more (Ok step) = with_packet step.content.packet (more step.content.after step.used)
then_read p at bytes more (Err stop) = stopped p (ended p.format at bytes stop)

-- all that is read from a place on, in at most `most` steps
unfoldable pub read_within : ℕ → ℕ → Progress → List ℕ → Recording
read_within zero at p bytes = stopped p (CutOff at)
read_within (suc most) at p bytes =
    then_read p at bytes (λ after used. read_within most (at + used) after (drop used bytes)) (next p bytes)

-- each step takes 12 bytes at least, so that these steps suffice
abbrev pub read_from : ℕ → Progress → List ℕ → Recording
read_from at p bytes = read_within (suc (length bytes)) at p bytes

-- the recording in these bytes, from their first one on
abbrev pub read_capture : List ℕ → Recording
read_capture bytes = read_from 0 at_start bytes
