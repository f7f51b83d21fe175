-- The packets that a recorder lost, as it tells in the options of its blocks.
use Rattle.std.specs.Prelude.{ℕ, zero, suc, ◌+◌, ◌-◌, ◌^◌, nat_eq, ◌&&◌, if◌then◌else◌, min, max, List, [], ◌∷◌, length, drop, slice_get, slice_set, slice_range, unwrap_or, Option, Some, None, Result, Ok, Err}
use Rattle.std.specs.List.{sum_by}
use Rattle.std.specs.Option.{option_map_or}
use Rattle.capture.specs.Capture.{fill}
use Rattle.capture.specs.Interfaces.{first_option}
use Rattle.capture.specs.Units.{number_at}
use Rattle.capture.specs.declared.interface.Interface.{Interface}
use Rattle.capture.specs.declared.interface.OptionFront.{OptionFront}
use Rattle.capture.specs.declared.losses.Losses.{Losses}
use Rattle.capture.specs.declared.order.Order.{Order}
use Rattle.capture.specs.declared.stop.Fault.{Fault}

-- an option: its code and its value
pub record Valued : Type 0 where
  pub code : ℕ
  pub value : List ℕ

-- the options from the front of the first one on: none, if it is option 0 or runs past the bytes
abbrev pub from_front : List ℕ → (List ℕ → List Valued) → Result OptionFront Fault → List Valued
from_front bytes more (Err fault) = []
from_front bytes more (Ok front) =
    if nat_eq front.code 0 then []
    else record { code = front.code; value = slice_range bytes 4 (4 + front.len) }
    ∷ more (drop (4 + (front.len + fill front.len)) bytes)

-- the options in these bytes, at most `most`
unfoldable pub options_in : Order → ℕ → List ℕ → List Valued
options_in order zero bytes = []
options_in order (suc most) bytes = from_front bytes (options_in order most) (first_option order bytes)

-- the count of 64 bits in the first option with this code; options of other lengths are left alone
abbrev pub count_under : Order → ℕ → List Valued → Option ℕ
count_under order code [] = None
count_under order code (o ∷ others) =
    if nat_eq o.code code && nat_eq (length o.value) 8 then Some (number_at order 8 0 o.value)
    else count_under order code others

-- the count that the options in these bytes tell
abbrev pub count_in : Order → ℕ → List ℕ → Option ℕ
count_in order code bytes = count_under order code (options_in order (length bytes) bytes)

-- a count stops at 2^64 - 1
abbrev pub counted : ℕ → ℕ → ℕ
counted count more = min (count + more) (2 ^ 64 - 1)

-- the options of an enhanced packet block follow its captured bytes and their padding
abbrev pub packet_options : Order → List ℕ → List ℕ
packet_options order body = let captured = number_at order 4 12 body in drop (20 + (captured + fill captured)) body

-- epb_dropcount, option 4: the packets that were lost between this packet and the one before it
unfoldable pub with_packet_losses : Order → List ℕ → Losses → Losses
with_packet_losses order body l =
    record l { before_packets = counted l.before_packets (unwrap_or (count_in order 4 (packet_options order body)) 0) }

-- The options of an interface statistics block follow its interface and its time. isb_ifdrop is option 5 and isb_osdrop
-- option 7: the packets that the interface and the operating system have lost since the recording began.
unfoldable pub with_statistics : Order → List ℕ → Losses → Losses
with_statistics order body l = record l {
  by_interface = unwrap_or (count_in order 5 (drop 12 body)) l.by_interface;
  by_system = unwrap_or (count_in order 7 (drop 12 body)) l.by_system;
}

-- interfaces after the losses of one of them changed; a number that no interface has changes none
abbrev pub with_losses : ℕ → (Losses → Losses) → List Interface → List Interface
with_losses number change interfaces =
    option_map_or (λ (i : Interface). slice_set interfaces number (record i { losses = change i.losses }))
    (slice_get interfaces number) interfaces

-- The packets that an interface lost. Its packets and its statistics tell of the same losses, and either may be left
-- out, so the greater count holds.
abbrev pub lost_of : Losses → ℕ
lost_of l = max l.before_packets (counted l.by_interface l.by_system)

abbrev pub lost_on : List Interface → ℕ
lost_on interfaces = sum_by (λ (i : Interface). lost_of i.losses) interfaces
