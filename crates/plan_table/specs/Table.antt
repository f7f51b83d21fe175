-- The table of a plan: numbers of 16 bits, the high byte first, and the check of these bytes.
use Rattle.std.specs.Prelude.{◌≡◌, ℕ, codes, ◌+◌, ◌*◌, ◌/◌, ◌%◌, ◌<◌, List, [], ◌∷◌, ◌++◌, length, get_or, Option, Some, None, All}
use Rattle.std.specs.List.{flat_map}
use Rattle.std.specs.Int.{to_be_bytes, w32}
use Rattle.afdx_plan.specs.Config.{Plan}
use Rattle.afdx_plan.specs.Plan.{bag_ms, IsLink, IsPort}
use Rattle.afdx_plan.specs.declared.link_plan.LinkPlan.{LinkPlan}
use Rattle.afdx_plan.specs.declared.link_plan.Networks.{Networks}
use Rattle.afdx_plan.specs.declared.link_plan.Networks.TheVariants.{Both, OnlyA, OnlyB}
use Rattle.afdx_plan.specs.declared.port_plan.Kind.{Kind}
use Rattle.afdx_plan.specs.declared.port_plan.Kind.TheVariants.{Sampling, Queuing}
use Rattle.afdx_plan.specs.declared.port_plan.PortPlan.{PortPlan}
use Rattle.afdx_plan.specs.declared.port_plan.UdpSum.{UdpSum}
use Rattle.afdx_plan.specs.declared.port_plan.UdpSum.TheVariants.{Omitted, Generated}
use Rattle.plan_table.specs.Sum.{crc_32}

-- the networks of a link, a port's kind and its checksum
abbrev pub networks_cell : Networks → ℕ
networks_cell Both = 0
networks_cell OnlyA = 1
networks_cell OnlyB = 2

abbrev pub kind_cell : Kind → ℕ
kind_cell Sampling = 0
kind_cell Queuing = 1

abbrev pub checksum_cell : UdpSum → ℕ
checksum_cell Omitted = 0
checksum_cell Generated = 1

-- two halves of a unicast address; zeros if the destination is the multicast address of the link
abbrev pub address_high : Option (List ℕ) → ℕ
address_high None = 0
address_high (Some address) = 256 * get_or address 0 0 + get_or address 1 0

abbrev pub address_low : Option (List ℕ) → ℕ
address_low None = 0
address_low (Some address) = 256 * get_or address 2 0 + get_or address 3 0

-- the cells of a link: the identifier, the gap in milliseconds, the greatest frame, the number of sub-VLs, the capacity
-- of each queue, the networks
abbrev pub link_cells : LinkPlan → List ℕ
link_cells link = link.id.0 ∷ bag_ms link.bag ∷ link.lmax ∷ link.sub_vls ∷ link.capacity
    ∷ networks_cell link.networks ∷ []

-- the cells of a port: the identifier, its link, the sub-VL, the partition, the kind, the UDP ports of source and
-- destination, the greatest message, the unicast address, the checksum
abbrev pub port_cells : PortPlan → List ℕ
port_cells port = port.id.0 ∷ port.vl.0 ∷ port.sub ∷ port.partition ∷ kind_cell port.kind ∷ port.source
    ∷ port.destination ∷ port.max ∷ address_high port.unicast ∷ address_low port.unicast
    ∷ checksum_cell port.checksum ∷ []

-- the cells of a plan, of which the first is the version of the layout
unfoldable pub plan_cells : Plan → List ℕ
plan_cells plan = 1 ∷ plan.end_system ∷ length plan.links ∷ length plan.ports
    ∷ (flat_map link_cells plan.links ++ flat_map port_cells plan.ports)

-- a number of 16 bits, the high byte first
abbrev pub half : ℕ → List ℕ
half n = n / 256 % 256 ∷ n % 256 ∷ []

-- bytes, and their check, the high byte first
abbrev pub checked : List ℕ → List ℕ
checked bytes = bytes ++ to_be_bytes w32 (crc_32 bytes)

-- the table of a plan
abbrev pub table_of : Plan → List ℕ
table_of plan = checked (codes "AFDXPLAN" ++ flat_map half (plan_cells plan))

-- the numbers of links and ports are in their ranges, and so are the counts
pub record IsInRange (plan : Plan) : Type 0 where
  pub end_system : plan.end_system < 65536
  pub links : All IsLink plan.links
  pub ports : All IsPort plan.ports
  pub few_links : length plan.links < 65536
  pub few_ports : length plan.ports < 65536

-- the bytes are the table of a plan whose numbers are in their ranges
pub record IsTableOf (bytes : List ℕ) (plan : Plan) : Type 0 where
  pub ranges : IsInRange plan
  pub table : bytes ≡ table_of plan
