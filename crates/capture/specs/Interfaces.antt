-- Interfaces as a section describes them, and the times of their packets.
use Rattle.std.specs.Prelude.{ℕ, Bool, true, false, zero, suc, ◌+◌, ◌-◌, ◌*◌, ◌/◌, ◌%◌, ◌^◌, nat_eq, nat_lt, if◌then◌else◌, List, [], ◌∷◌, length, drop, slice_get, slice_range, ok_or, option_and_then, Option, Some, None, Result, Ok, Err}
use Rattle.std.specs.List.{list_any}
use Rattle.std.specs.Option.{is_some}
use Rattle.afdx_frame.specs.declared.net.Net.{Net}
use Rattle.afdx_frame.specs.declared.net.Net.TheVariants.{A, B}
use Rattle.capture.specs.Capture.{fill}
use Rattle.capture.specs.Units.{number_at}
use Rattle.capture.specs.declared.interface.Interface.{Interface}
use Rattle.capture.specs.declared.interface.OptionFront.{OptionFront}
use Rattle.capture.specs.declared.losses.Losses.{Losses}
use Rattle.capture.specs.declared.order.Order.{Order}
use Rattle.capture.specs.declared.stop.Fault.{Fault}
use Rattle.capture.specs.declared.stop.Fault.TheVariants.{BadOption, NoInterface, Time}

-- a step that may fail, and the steps after it
infixl 10 ◌>>=◌
abbrev pub ◌>>=◌ : {X Y E : Type 0} → Result X E → (X → Result Y E) → Result Y E
Ok x >>= f = f x
Err why >>= f = Err why

-- losses before anything is told
abbrev pub nothing_lost : Losses
nothing_lost = record { before_packets = 0; by_interface = 0; by_system = 0 }

-- an interface without options: its times are in microseconds since 1970
abbrev pub plain : ℕ → Interface
plain limit = record { name = None; limit = limit; resolution = 6; offset = 0; fcs = None; losses = nothing_lost }

-- the network with this name, A or B
abbrev pub name_of : List ℕ → Option Net
name_of (letter ∷ []) =
    if nat_eq letter 65 then Some A else (if nat_eq letter 66 then Some B else None)
name_of _ = None

-- the resolution of times is one byte
abbrev pub with_resolution : List ℕ → Interface → Result Interface Fault
with_resolution (byte ∷ []) i = Ok (record i { resolution = byte })
with_resolution _ i = Err BadOption

-- Packets end with their check sequence, or they don't, by the length of one: Ethernet's has 4 bytes. Another length
-- tells nothing.
abbrev pub fcs_of : ℕ → Option Bool
fcs_of len = if nat_eq len 0 then Some false else (if nat_eq len 4 then Some true else None)

-- the length of check sequences is one byte: in bytes, or 32, which is in bits
abbrev pub with_fcs : List ℕ → Interface → Result Interface Fault
with_fcs (len ∷ []) i = Ok (record i { fcs = fcs_of (if nat_eq len 32 then 4 else len) })
with_fcs _ i = Err BadOption

-- the name is option 2, the resolution of times 9, the length of check sequences 13, and the offset that is added to
-- times 14; others are skipped
unfoldable pub with_option : Order → ℕ → List ℕ → Interface → Result Interface Fault
with_option order code value i =
    if nat_eq code 2 then Ok (record i { name = name_of value })
    else (if nat_eq code 9 then with_resolution value i
    else (if nat_eq code 13 then with_fcs value i
    else (if nat_eq code 14
    then (if nat_eq (length value) 8 then Ok (record i { offset = number_at order 8 0 value }) else Err BadOption)
    else Ok i)))

-- an option: its code, the length of its value, and its value with padding to a multiple of 4
unfoldable pub first_option : Order → List ℕ → Result OptionFront Fault
first_option order bytes =
    let len = number_at order 2 2 bytes in
    if nat_lt (length bytes) 4 then Err BadOption
    else (if nat_lt (length bytes) (4 + (len + fill len)) then Err BadOption
    else Ok (record { code = number_at order 2 0 bytes; len = len }))

-- options, at most `most`, up to option 0 or the end of the bytes
unfoldable pub with_options : Order → ℕ → List ℕ → Interface → Result Interface Fault
with_options order most [] i = Ok i
with_options order zero (byte ∷ bytes) i = Ok i
with_options order (suc most) (byte ∷ bytes) i =
    first_option order (byte ∷ bytes) >>= (λ front. if nat_eq front.code 0 then Ok i
    else with_option order front.code (slice_range (byte ∷ bytes) 4 (4 + front.len)) i
    >>= with_options order most (drop (4 + (front.len + fill front.len)) (byte ∷ bytes)))

-- the last word of a pcap header: bit 26 says that the four highest bits are the length of check sequences, in words of
-- 16 bits
abbrev pub fcs_in : ℕ → Option Bool
fcs_in word = if nat_eq (word / 2 ^ 26 % 2) 1 then fcs_of (2 * (word / 2 ^ 28)) else None

-- the check sequences of an interface's packets
abbrev pub fcs_on : List Interface → ℕ → Option Bool
fcs_on interfaces number = option_and_then (λ (i : Interface). i.fcs) (slice_get interfaces number)

-- units of time in a second: a power of ten, or of two if the highest bit is set
abbrev pub per_second : ℕ → ℕ
per_second resolution = if nat_lt resolution 128 then 10 ^ resolution else 2 ^ (resolution - 128)

-- a time with seconds added, in two's complement of 64 bits; it isn't before 1970
abbrev pub shifted : ℕ → ℕ → Result ℕ Fault
shifted offset nanos =
    if nat_lt offset (2 ^ 63) then Ok (nanos + offset * 10 ^ 9)
    else (if nat_lt nanos ((2 ^ 64 - offset) * 10 ^ 9) then Err Time
    else Ok (nanos - (2 ^ 64 - offset) * 10 ^ 9))

-- nanoseconds since 1970
unfoldable pub time_of : Interface → ℕ → Result ℕ Fault
time_of i ticks = shifted i.offset (ticks * 10 ^ 9 / per_second i.resolution)

-- the interface of a number
abbrev pub known : List Interface → ℕ → Result Interface Fault
known interfaces number = ok_or (slice_get interfaces number) NoInterface

-- the network that an interface is named after
abbrev pub network_named : Option Interface → Option Net
network_named interface = option_and_then (λ (i : Interface). i.name) interface

-- without names the first interface is network A, and the second B
abbrev pub network_numbered : ℕ → Option Net
network_numbered number =
    if nat_eq number 0 then Some A else (if nat_eq number 1 then Some B else None)

-- the network of an interface: the network that it is named after, if any interface that the section has described so
-- far has the name of a network
abbrev pub network_of : List Interface → ℕ → Option Net
network_of interfaces number =
    if list_any (λ (i : Interface). is_some i.name) interfaces then network_named (slice_get interfaces number)
    else network_numbered number
