-- The numbers of the faults, and the faults of plans.
use Rattle.std.specs.Prelude.{◌≡◌, ℕ, ◌+◌, ◌-◌, codes, List, [], ◌∷◌, length, count_by, Bool, true, false, ◌||◌, ◌&&◌, ◌==◌, not, is_none, is_some, nat_eq, nat_lt, nat_le, bytes_eq, Option, Some, None, find, map, take}
use Rattle.std.specs.List.{list_any}
use Rattle.std.specs.Option.{option_map_or}
use Rattle.afdx_plan.specs.declared.link_plan.LinkPlan.{LinkPlan}
use Rattle.afdx_plan.specs.declared.port_plan.PortPlan.{PortPlan}
use Rattle.afdx_plan.specs.declared.port_plan.Kind.{Kind}
use Rattle.afdx_plan.specs.declared.port_plan.Kind.TheVariants.{Sampling, Queuing}
use Rattle.afdx_plan.specs.declared.rows.LinkRow.{LinkRow}
use Rattle.afdx_plan.specs.declared.rows.PortRow.{PortRow}
use Rattle.afdx_plan.specs.declared.rows.Misfit.{Misfit}
use Rattle.afdx_plan.specs.declared.rows.Misfit.TheVariants.{NoLink, NoSub, TooLong}
use Rattle.afdx_plan.specs.Config.{Plan, IsPlan}
use Rattle.afdx_plan.specs.declared.fault.ConfigFault.{ConfigFault}
use Rattle.afdx_plan.specs.declared.fault.ConfigFault.TheVariants.{Toml, MissingKey, UnknownKey, WrongKind, OutOfRange, BadBag, DuplicateVl, DuplicatePort, NoSuchVl, NoSuchSub, SamplingTooLong, SameFlow, SharedUnicast, Limit, Memory}

-- the number of a fault
abbrev pub fault_number : ConfigFault → ℕ
fault_number Toml = 1
fault_number MissingKey = 2
fault_number UnknownKey = 3
fault_number WrongKind = 4
fault_number OutOfRange = 5
fault_number BadBag = 6
fault_number DuplicateVl = 7
fault_number DuplicatePort = 8
fault_number NoSuchVl = 9
fault_number NoSuchSub = 10
fault_number SamplingTooLong = 11
fault_number SameFlow = 12
fault_number SharedUnicast = 13
fault_number Limit = 14
fault_number Memory = 15

-- two elements of the list, at different indices, are related
abbrev pub has_pair : {A : Type 0} → (A → A → Bool) → List A → Bool
has_pair related [] = false
has_pair related (x ∷ xs) = list_any (related x) xs || has_pair related xs

-- both values are without fault, and the test holds of them
abbrev pub both : {A B : Type 0} → (A → B → Bool) → Option A → Option B → Bool
both test None b = false
both test (Some a) None = false
both test (Some a) (Some b) = test a b

-- two links have the same identifier
abbrev pub same_link : LinkRow → LinkRow → Bool
same_link a b = both nat_eq a.id b.id

-- two ports have the same identifier
abbrev pub same_port : PortRow → PortRow → Bool
same_port a b = both nat_eq a.id b.id

-- both ports have a unicast address, and it is the same
abbrev pub are_one_address : Option (List ℕ) → Option (List ℕ) → Bool
are_one_address (Some a) (Some b) = bytes_eq a b
are_one_address (Some a) None = false
are_one_address None _ = false

-- the destinations of two ports on one link are the same
abbrev pub are_one_destination : Option (List ℕ) → Option (List ℕ) → Bool
are_one_destination None None = true
are_one_destination None (Some b) = false
are_one_destination (Some a) other = are_one_address (Some a) other

-- two ports agree in link, partition, both UDP ports and destination
abbrev pub same_flow : PortRow → PortRow → Bool
same_flow a b = both nat_eq a.vl b.vl
    && both nat_eq a.partition b.partition
    && both nat_eq a.source b.source
    && both nat_eq a.destination b.destination
    && both are_one_destination a.unicast b.unicast

-- two ports on different links agree in partition and unicast address
abbrev pub share_unicast : PortRow → PortRow → Bool
share_unicast a b = both (λ x y. not (x == y)) a.vl b.vl
    && both nat_eq a.partition b.partition
    && both are_one_address a.unicast b.unicast

-- the link has the identifier that the port names
abbrev pub is_row_of : PortRow → LinkRow → Bool
is_row_of port link = both nat_eq link.id port.vl

-- the port is a sampling port
abbrev pub is_sampling : Kind → Bool
is_sampling Sampling = true
is_sampling Queuing = false

-- the values of links and ports that the rules of plans read, and whether the two lists have no fault
pub record Cells : Type 0 where
  pub links : List LinkRow
  pub ports : List PortRow
  pub has_links : Bool
  pub has_ports : Bool

-- the list of links and their identifiers have no fault
abbrev pub all_named : Cells → Bool
all_named cells = cells.has_links && not (list_any (λ (link : LinkRow). is_none link.id) cells.links)

-- a port does not fit its link: no link has its identifier although all are named, its sub-VL is not below the number
-- of its link's, or it is a sampling port and its greatest message does not fit into a frame
abbrev pub misfits : Bool → Option LinkRow → Misfit → PortRow → Bool
misfits named link NoLink port = (named && is_some port.vl) && is_none link
misfits named link NoSub port = option_map_or (λ (l : LinkRow). both nat_le l.sub_vls port.sub) link false
misfits named link TooLong port = option_map_or is_sampling port.kind false
    && option_map_or (λ (l : LinkRow). both (λ lmax most. nat_lt (lmax - 47) most) l.lmax port.max) link false

-- the port does not fit its link in this way
abbrev pub is_misfit : Misfit → Cells → PortRow → Bool
is_misfit misfit cells port = misfits (all_named cells) (find (is_row_of port) cells.links) misfit port

-- two ports are on the same sub-VL
abbrev pub on_sub_of : PortRow → PortRow → Bool
on_sub_of a b = both nat_eq b.vl a.vl && both nat_eq b.sub a.sub

-- port k is past the 64th on its sub-VL
abbrev pub is_past_limit : List PortRow → ℕ → PortRow → Bool
is_past_limit ports k port = nat_le 64 (count_by (on_sub_of port) (take (k - 1) ports))

-- some row passes, with its number, from k on
abbrev pub any_row : {A : Type 0} → (ℕ → A → Bool) → ℕ → List A → Bool
any_row test k [] = false
any_row test k (x ∷ xs) = test k x || any_row test (k + 1) xs

-- the count is 0 or more than `most`
abbrev pub is_no_count : ℕ → ℕ → Bool
is_no_count most n = n == 0 || nat_lt most n

-- a case that a rule forbids: two links or two ports that clash, a port that does not fit its link, a wrong number of
-- links or of ports, too many ports on a sub-VL
pub data Rule : Type 0 where
  links_clash : (LinkRow → LinkRow → Bool) → Rule
  ports_clash : (PortRow → PortRow → Bool) → Rule
  port_misfits : Misfit → Rule
  link_count : Rule
  port_count : Rule
  sub_is_packed : Rule

-- a rule, the fault of breaking it, and the key that its findings name
pub record PlanRule : Type 0 where
  pub fault : ConfigFault
  pub key : List ℕ
  pub forbids : Rule

abbrev pub rule : ConfigFault → List ℕ → Rule → PlanRule
rule which name what = record { fault = which; key = name; forbids = what }

-- the rules of links and ports, in the order of the numbers of their faults
abbrev pub plan_rules : List PlanRule
plan_rules = rule DuplicateVl (codes "id") (links_clash same_link)
    ∷ rule DuplicatePort (codes "id") (ports_clash same_port)
    ∷ rule NoSuchVl (codes "vl") (port_misfits NoLink)
    ∷ rule NoSuchSub (codes "sub") (port_misfits NoSub)
    ∷ rule SamplingTooLong (codes "max") (port_misfits TooLong)
    ∷ rule SameFlow (codes "destination") (ports_clash same_flow)
    ∷ rule SharedUnicast (codes "dest_ip") (ports_clash share_unicast)
    ∷ rule Limit (codes "vl") link_count
    ∷ rule Limit (codes "port") port_count
    ∷ rule Limit (codes "sub") sub_is_packed
    ∷ []

-- links and ports break a rule
abbrev pub breaks : Cells → Rule → Bool
breaks cells (links_clash clash) = has_pair clash cells.links
breaks cells (ports_clash clash) = has_pair clash cells.ports
breaks cells (port_misfits misfit) = list_any (is_misfit misfit cells) cells.ports
breaks cells link_count = cells.has_links && is_no_count 64 (length cells.links)
breaks cells port_count = cells.has_ports && is_no_count 256 (length cells.ports)
breaks cells sub_is_packed = any_row (is_past_limit cells.ports) 1 cells.ports

-- links and ports have a fault of 7 to 14
abbrev pub cells_show : ConfigFault → Cells → Bool
cells_show fault cells =
    list_any (λ (r : PlanRule). fault_number fault == fault_number r.fault && breaks cells r.forbids) plan_rules

-- the values of a link and of a port of a plan
abbrev pub link_whole : LinkPlan → LinkRow
link_whole link = record {
  id = Some link.id.0;
  bag = Some link.bag;
  lmax = Some link.lmax;
  sub_vls = Some link.sub_vls;
  capacity = Some link.capacity;
  networks = Some link.networks;
}

abbrev pub port_whole : PortPlan → PortRow
port_whole port = record {
  id = Some port.id.0;
  vl = Some port.vl.0;
  sub = Some port.sub;
  partition = Some port.partition;
  kind = Some port.kind;
  source = Some port.source;
  destination = Some port.destination;
  max = Some port.max;
  unicast = Some port.unicast;
  checksum = Some port.checksum;
}

-- the values of a plan: none has a fault
abbrev pub whole : Plan → Cells
whole plan = record {
  links = map link_whole plan.links;
  ports = map port_whole plan.ports;
  has_links = true;
  has_ports = true;
}

-- a plan has a fault
abbrev pub plan_shows : ConfigFault → Plan → Bool
plan_shows fault plan = cells_show fault (whole plan)

-- a valid plan has none of the faults of plans
abbrev pub ValidPlansShowNoFault : Type 0
ValidPlansShowNoFault =
    (plan : Plan) (fault : ConfigFault) → IsPlan plan → plan_shows fault plan ≡ false
