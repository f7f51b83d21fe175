-- A capture is a row of units: the blocks of pcapng, or the header and the records of pcap. From the first
-- 12 bytes of a unit its kind and its length are known.
use Rattle.std.specs.Prelude.{ℕ, ◌+◌, ◌%◌, nat_eq, nat_lt, ◌||◌, not, if◌then◌else◌, List, drop, Result, Ok, Err}
use Rattle.byteorder.specs.Endian.{little_number, big_number}
use Rattle.capture.specs.declared.order.Order.{Order}
use Rattle.capture.specs.declared.order.Order.TheVariants.{Little, Big}
use Rattle.capture.specs.declared.stop.Fault.{Fault}
use Rattle.capture.specs.declared.stop.Fault.TheVariants.{Format as BadFormat, ByteOrder, Length, TooLong}
use Rattle.capture.specs.declared.unit.TheConstants.{GREATEST_UNIT}
use Rattle.capture.specs.declared.unit.Clock.TheVariants.{Micros, Nanos}
use Rattle.capture.specs.declared.unit.Format.{Format}
use Rattle.capture.specs.declared.unit.Format.TheVariants.{Unknown, Blocks, Records}
use Rattle.capture.specs.declared.unit.Unit.{Unit as CaptureUnit}
use Rattle.capture.specs.declared.unit.Unit.TheVariants.{Section, Block, Header, Record}

-- the number in the n bytes from place i, in an order of bytes
abbrev pub number_at : Order → ℕ → ℕ → List ℕ → ℕ
number_at Little n i bytes = little_number n (drop i bytes)
number_at Big n i bytes = big_number n (drop i bytes)

-- the type of a section header block reads the same in both orders
abbrev pub section_type : ℕ
section_type = 0x0a0d0d0a

-- a section header block: its byte-order magic says the order of the section
unfoldable pub section_unit : List ℕ → Result CaptureUnit Fault
section_unit front =
    if nat_eq (number_at Little 4 8 front) 0x1a2b3c4d then Ok (Section Little)
    else (if nat_eq (number_at Big 4 8 front) 0x1a2b3c4d then Ok (Section Big) else Err ByteOrder)

-- the header of a pcap file: its magic number is a1b2c3d4 for times in microseconds, and a1b23c4d for
-- nanoseconds, in the order of the file
unfoldable pub header_unit : List ℕ → Result CaptureUnit Fault
header_unit front =
    if nat_eq (number_at Little 4 0 front) 0xa1b2c3d4 then Ok (Header Little Micros)
    else (if nat_eq (number_at Little 4 0 front) 0xa1b23c4d then Ok (Header Little Nanos)
    else (if nat_eq (number_at Big 4 0 front) 0xa1b2c3d4 then Ok (Header Big Micros)
    else (if nat_eq (number_at Big 4 0 front) 0xa1b23c4d then Ok (Header Big Nanos) else Err BadFormat)))

-- the unit that begins with these bytes: a section header may stand before any block
unfoldable pub unit_of : Format → List ℕ → Result CaptureUnit Fault
unit_of (Records order clock) front = Ok (Record order clock)
unit_of (Blocks order) front =
    if nat_eq (number_at Little 4 0 front) section_type then section_unit front else Ok (Block order)
unit_of Unknown front =
    if nat_eq (number_at Little 4 0 front) section_type then section_unit front else header_unit front

-- the total length of a block is a multiple of 4, and counts its type and both its lengths
unfoldable pub block_size : ℕ → Result ℕ Fault
block_size len =
    if nat_lt len 12 || not (nat_eq (len % 4) 0) then Err Length
    else (if nat_lt GREATEST_UNIT len then Err TooLong else Ok len)

-- a record is its header of 16 bytes, and the captured ones
unfoldable pub record_size : ℕ → Result ℕ Fault
record_size captured = if nat_lt GREATEST_UNIT (16 + captured) then Err TooLong else Ok (16 + captured)

-- the length of a unit
unfoldable pub size_of : CaptureUnit → List ℕ → Result ℕ Fault
size_of (Section order) front = block_size (number_at order 4 4 front)
size_of (Block order) front = block_size (number_at order 4 4 front)
size_of (Header order clock) front = Ok 24
size_of (Record order clock) front = record_size (number_at order 4 8 front)

-- the least length of a unit
abbrev pub least_size : CaptureUnit → ℕ
least_size (Section order) = 12
least_size (Block order) = 12
least_size (Header order clock) = 24
least_size (Record order clock) = 16
