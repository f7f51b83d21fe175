-- Ranges and units of the numbers of a plan, the numbers that messages and frames carry, and the networks of a link.
use Rattle.std.specs.Prelude.{◌≡◌, ℕ, ◌+◌, ◌*◌, ◌<◌, ◌≤◌, List, length, slice_index, sum_by, IfSome, ◌-◌, ◌%◌, nat_eq, if◌then◌else◌, ◌/◌, Bool, true, false, ◌&&◌}
use Rattle.afdx_plan.specs.declared.link_plan.Bag.{Bag}
use Rattle.afdx_plan.specs.declared.link_plan.Bag.TheVariants.{Ms1, Ms2, Ms4, Ms8, Ms16, Ms32, Ms64, Ms128}
use Rattle.afdx_plan.specs.declared.link_plan.LinkPlan.{LinkPlan}
use Rattle.afdx_plan.specs.declared.port_plan.PortPlan.{PortPlan}
use Rattle.afdx_plan.specs.declared.link_plan.Networks.{Networks}
use Rattle.afdx_plan.specs.declared.link_plan.Networks.TheVariants.{Both, OnlyA, OnlyB}

-- the bandwidth allocation gap in milliseconds
abbrev pub bag_ms : Bag → ℕ
bag_ms Ms1 = 1
bag_ms Ms2 = 2
bag_ms Ms4 = 4
bag_ms Ms8 = 8
bag_ms Ms16 = 16
bag_ms Ms32 = 32
bag_ms Ms64 = 64
bag_ms Ms128 = 128

-- the bandwidth allocation gap in microseconds
abbrev pub bag_micros : Bag → ℕ
bag_micros bag = 1000 * bag_ms bag

-- an IPv4 address in 10.0.0.0/8
pub record IsUnicast (address : List ℕ) : Type 0 where
  pub four : length address ≡ 4
  pub bytes : (i : ℕ) → slice_index address i < 256
  pub first : slice_index address 0 ≡ 10

-- the numbers of a link are in their ranges
pub record IsLink (link : LinkPlan) : Type 0 where
  pub id : link.id.0 < 65536
  pub lmax : (64 ≤ link.lmax) × (link.lmax ≤ 1518)
  pub sub_vls : (1 ≤ link.sub_vls) × (link.sub_vls ≤ 4)
  pub capacity : (1 ≤ link.capacity) × (link.capacity ≤ 256)

-- the numbers and the address of a port are in their ranges
pub record IsPort (port : PortPlan) : Type 0 where
  pub id : port.id.0 < 65536
  pub vl : port.vl.0 < 65536
  pub sub : port.sub < 4
  pub partition : port.partition < 32
  pub source : (1 ≤ port.source) × (port.source < 65536)
  pub destination : (1 ≤ port.destination) × (port.destination < 65536)
  pub max : (1 ≤ port.max) × (port.max ≤ 8192)
  pub unicast : IfSome port.unicast IsUnicast

-- the port sends on a sub-VL of this link
pub record SendsOver (port : PortPlan) (link : LinkPlan) : Type 0 where
  pub id : link.id ≡ port.vl
  pub sub : port.sub < link.sub_vls

-- the jitter in nanoseconds: 40,000, and 80 for each byte of each greatest frame and the 20 bytes around it
abbrev pub jitter_of : List LinkPlan → ℕ
jitter_of links = 40000 + 80 * sum_by (λ link. 20 + link.lmax) links

-- the identification (RFC 791, 3.1) of message number `place` of a sub-VL. By our choice its two lowest
-- bits are the sub-VL.
abbrev pub identification : ℕ → ℕ → ℕ
identification place sub = (4 * place + sub) % 65536

-- the sequence number of frame number `i` of a link (ARINC 664 Part 7, redundancy): 0, then 1 to 255,
-- and after 255 again 1
abbrev pub sequence_number : ℕ → ℕ
sequence_number i = if nat_eq i 0 then 0 else (i - 1) % 255 + 1

-- the most bytes of a datagram in a frame of at most `lmax` bytes. The frame needs 14 bytes of link
-- header, 20 of internet header, 1 of sequence number and 4 of check sequence.
abbrev pub room_of : ℕ → ℕ
room_of lmax = lmax - 39

-- the room in a frame rounded down to whole units of 8 bytes (RFC 791, 3.2)
abbrev pub step_of : ℕ → ℕ
step_of room = 8 * (room / 8)

-- network A carries the link
abbrev pub carries_a : Networks → Bool
carries_a Both = true
carries_a OnlyA = true
carries_a OnlyB = false

-- network B carries the link
abbrev pub carries_b : Networks → Bool
carries_b Both = true
carries_b OnlyA = false
carries_b OnlyB = true

-- both networks carry the link
abbrev pub is_both : Networks → Bool
is_both networks = carries_a networks && carries_b networks
