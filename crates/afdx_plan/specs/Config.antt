-- Plans of end systems, which are valid, and messages that a receiver could mistake for each other.
use Rattle.std.specs.Prelude.{◌≡◌, ℕ, ◌-◌, ◌<◌, ◌≤◌, List, length, get_or, count_by, nat_eq, ◌&&◌, Some, None, All, Contains, ◌==◌, unwrap_or, position, ◌%◌}
use Rattle.afdx_plan.specs.declared.link_plan.Bag.TheVariants.{Ms1}
use Rattle.afdx_plan.specs.declared.port_plan.Kind.TheVariants.{Sampling, Queuing}
use Rattle.afdx_plan.specs.declared.port_plan.UdpSum.TheVariants.{Omitted}
use Rattle.afdx_plan.specs.declared.link_plan.LinkPlan.{LinkPlan}
use Rattle.afdx_plan.specs.declared.link_plan.Networks.TheVariants.{Both}
use Rattle.afdx_plan.specs.declared.port_plan.PortPlan.{PortPlan}
use Rattle.afdx_plan.specs.Address.{destination_address, source_address}
use Rattle.afdx_plan.specs.Plan.{IsLink, IsPort, SendsOver, identification}

-- the plan of an end system
pub record Plan : Type 0 where
  pub end_system : ℕ
  pub links : List LinkPlan
  pub ports : List PortPlan

-- the plan of these parts
abbrev pub plan_of_parts : ℕ → List LinkPlan → List PortPlan → Plan
plan_of_parts number virtual_links senders = record {
  end_system = number;
  links = virtual_links;
  ports = senders;
}

-- the link at an index; past the end, a plan that no link has
abbrev pub link_plan_at : List LinkPlan → ℕ → LinkPlan
link_plan_at links k = get_or links k (record {
  id = record { 0 = 0 };
  bag = Ms1;
  lmax = 64;
  sub_vls = 0;
  capacity = 0;
  networks = Both;
})

-- the port at an index; past the end, a plan that no port has
abbrev pub port_plan_at : List PortPlan → ℕ → PortPlan
port_plan_at ports k = get_or ports k (record {
  id = record { 0 = 0 };
  vl = record { 0 = 0 };
  sub = 0;
  partition = 0;
  kind = Queuing;
  source = 0;
  destination = 0;
  max = 0;
  unicast = None;
  checksum = Omitted;
})

-- a port sends on a sub-VL of the link at index `at`
pub record HasLink (links : List LinkPlan) (port : PortPlan) : Type 0 where
  pub at : ℕ
  pub within : at < length links
  pub over : SendsOver port (link_plan_at links at)

-- two ports agree in link, partition, both UDP ports and destination
pub record AreSameFlow (p q : PortPlan) : Type 0 where
  pub vl : p.vl ≡ q.vl
  pub partition : p.partition ≡ q.partition
  pub source : p.source ≡ q.source
  pub destination : p.destination ≡ q.destination
  pub address : destination_address p ≡ destination_address q

-- the number of ports on a sub-VL
abbrev pub ports_on : List PortPlan → ℕ → ℕ → ℕ
ports_on ports vl sub =
    count_by (λ (port : PortPlan). nat_eq port.vl.0 vl && nat_eq port.sub sub) ports

-- A valid plan. Each number is in its range. No two links share an identifier, nor do two ports. The
-- link and the sub-VL of each port exist, and the greatest message of a sampling port fits into one
-- frame of its link. No two ports agree in link, partition, both UDP ports and destination. Ports on
-- different links never share both a partition and a unicast address.
pub record IsPlan (plan : Plan) : Type 0 where
  pub end_system : plan.end_system < 65536
  pub links : (1 ≤ length plan.links) × (length plan.links ≤ 64)
  pub ports : (1 ≤ length plan.ports) × (length plan.ports ≤ 256)
  pub each_link : All IsLink plan.links
  pub each_port : All IsPort plan.ports
  pub links_apart : (i j : ℕ) → i < length plan.links → j < length plan.links
      → (link_plan_at plan.links i).id ≡ (link_plan_at plan.links j).id → i ≡ j
  pub ports_apart : (i j : ℕ) → i < length plan.ports → j < length plan.ports
      → (port_plan_at plan.ports i).id ≡ (port_plan_at plan.ports j).id → i ≡ j
  pub linked : All (HasLink plan.links) plan.ports
  pub sampling : (p : PortPlan) (link : LinkPlan) → Contains plan.ports p → Contains plan.links link
      → p.kind ≡ Sampling → link.id ≡ p.vl → p.max ≤ link.lmax - 47
  pub flows_apart : (p q : PortPlan) → Contains plan.ports p → Contains plan.ports q
      → AreSameFlow p q → p ≡ q
  pub unicasts_apart : (p q : PortPlan) → Contains plan.ports p → Contains plan.ports q
      → (address : List ℕ) → p.unicast ≡ Some address → q.unicast ≡ Some address
      → p.partition ≡ q.partition → p.vl ≡ q.vl
  pub few_ports : (vl sub : ℕ) → ports_on plan.ports vl sub ≤ 64

-- the index of a port's link in the plan
abbrev pub link_place : Plan → PortPlan → ℕ
link_place plan port = unwrap_or (position (λ (link : LinkPlan). link.id.0 == port.vl.0) plan.links) 0

-- Two messages of a plan's ports, number i and number j of their sub-VLs, share both addresses and the identification
-- only if they belong to one sub-VL and i and j differ by a multiple of 16,384.
abbrev pub FlowsApart : Plan → Type 0
FlowsApart plan = (p q : PortPlan) (i j : ℕ) → Contains plan.ports p → Contains plan.ports q
    → source_address plan.end_system p.partition ≡ source_address plan.end_system q.partition
    → destination_address p ≡ destination_address q
    → identification i p.sub ≡ identification j q.sub
    → (p.vl ≡ q.vl) × (p.sub ≡ q.sub) × (i % 16384 ≡ j % 16384)
