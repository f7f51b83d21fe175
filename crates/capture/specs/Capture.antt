-- The bytes of a capture: pcapng, version 1.0, each number with its lowest byte first.
use Rattle.std.specs.Prelude.{codes, ℕ, ◌+◌, ◌-◌, ◌/◌, ◌%◌, ◌^◌, List, [], ◌++◌, length, replicate}
use Rattle.std.specs.List.{flat_map}
use Rattle.byteorder.specs.Endian.{little_bytes}
use Rattle.afdx_frame.specs.declared.net.Net.{Net}
use Rattle.afdx_frame.specs.declared.net.Net.TheVariants.{A, B}
use Rattle.afdx_frame.specs.declared.net.TheConstants.{GREATEST_FRAME}
use Rattle.redundant_mux.specs.Lines.{Entry}
use Rattle.capture.specs.Order.{Captured, in_order}

-- numbers of 16 and of 32 bits
unfoldable pub half : ℕ → List ℕ
half x = little_bytes 2 x

unfoldable pub word : ℕ → List ℕ
word x = little_bytes 4 x

-- the padding of `len` bytes to a multiple of 4
abbrev pub fill : ℕ → ℕ
fill len = (4 - len % 4) % 4

-- bytes with their padding
abbrev pub filled : List ℕ → List ℕ
filled bytes = bytes ++ replicate (fill (length bytes)) 0

-- a block: its type, its length, its body, and its length once more
abbrev pub block : ℕ → List ℕ → List ℕ
block kind body = word kind ++ (word (12 + length body) ++ (body ++ word (12 + length body)))

-- an option of a block: its code, its length and its value
abbrev pub option : ℕ → List ℕ → List ℕ
option code value = half code ++ (half (length value) ++ filled value)

-- The section header block: the byte-order magic, version 1.0, and a section of unknown length.
abbrev pub section_body : List ℕ
section_body = word 0x1a2b3c4d ++ (half 1 ++ (half 0 ++ replicate 8 255))

unfoldable pub section_block : List ℕ
section_block = block 0x0a0d0d0a section_body

-- An interface description block: Ethernet, the longest frame, and the option of its name.
abbrev pub interface_body : List ℕ → List ℕ
interface_body name = half 1 ++ (half 0 ++ (word GREATEST_FRAME ++ (option 2 name ++ option 0 [])))

unfoldable pub interface_block : List ℕ → List ℕ
interface_block name = block 1 (interface_body name)

-- the number of a network's interface, and its name
abbrev pub interface_of : Net → ℕ
interface_of A = 0
interface_of B = 1

-- An enhanced packet block: the interface, the time in microseconds with its high word first, the captured and the
-- original length, and the frame.
abbrev pub packet_body : ℕ → Entry → List ℕ
packet_body interface e =
    word interface ++ (word (e.at / 2 ^ 32) ++ (word (e.at % 2 ^ 32)
    ++ (word (length e.frame) ++ (word (length e.frame) ++ filled e.frame))))

unfoldable pub packet_block : Captured → List ℕ
packet_block c = block 6 (packet_body (interface_of c.net) c.entry)

-- the front of an enhanced packet block, up to the frame: `len` bytes in a block of `whole`
abbrev pub packet_front : ℕ → ℕ → ℕ → ℕ → List ℕ
packet_front interface at len whole =
    word 6 ++ word whole ++ word interface ++ word (at / 2 ^ 32) ++ word (at % 2 ^ 32) ++ word len ++ word len

-- the packets, one after the other
unfoldable pub packet_blocks : List Captured → List ℕ
packet_blocks cs = flat_map packet_block cs

-- the blocks before the packets: interface 0 is network A, and 1 is B
unfoldable pub header_blocks : List ℕ
header_blocks = section_block ++ (interface_block (codes "A") ++ interface_block (codes "B"))

-- the capture of the frames of network A and of network B
abbrev pub capture_bytes : List Entry → List Entry → List ℕ
capture_bytes a b = header_blocks ++ packet_blocks (in_order a b)
