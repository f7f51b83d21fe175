-- The memory of an end system: what opening it takes and holds.
use Rattle.std.specs.Prelude.{ℕ, Bool, ◌≡◌, ◌+◌, ◌*◌, ◌<◌, ◌≤◌, ◌↔◌, ◌&&◌, nat_eq, List, [], ◌∷◌, length, map, max, count_by, flat_map, sum_by, Option, None, IsNone, IfSome, All, Contains, if◌then◌else◌}
use Rattle.std.specs.List.{list_any, range_with_len}
use Rattle.afdx_plan.specs.Config.{Plan}
use Rattle.afdx_plan.specs.declared.link_plan.LinkPlan.{LinkPlan}
use Rattle.afdx_plan.specs.declared.port_plan.PortPlan.{PortPlan}
use Rattle.plan_analysis.specs.declared.memory.Memory.{Memory}
use Rattle.plan_analysis.specs.declared.memory.SubRow.{SubRow}
use Rattle.plan_analysis.specs.Wait.{is_on}

-- the greatest message of a port if it sends on this sub-VL of the link, else 0
abbrev pub max_on : LinkPlan → ℕ → PortPlan → ℕ
max_on link sub port = if is_on link sub port then port.max else 0

-- the greatest message of the ports on a sub-VL of a link, in bytes; 0 without ports
abbrev pub greatest_on : LinkPlan → ℕ → List PortPlan → ℕ
greatest_on link sub [] = 0
greatest_on link sub (port ∷ ports) = max (max_on link sub port) (greatest_on link sub ports)

-- a partition has a port on a sub-VL of a link
abbrev pub has_partition : LinkPlan → ℕ → List PortPlan → ℕ → Bool
has_partition link sub ports partition =
    list_any (λ (port : PortPlan). is_on link sub port && nat_eq port.partition partition) ports

-- the number of partitions, of 0 to 31, that have a port on a sub-VL of a link
unfoldable pub partitions_on : LinkPlan → ℕ → List PortPlan → ℕ
partitions_on link sub ports = count_by (has_partition link sub ports) (range_with_len 0 32)

-- The bytes of a sub-VL with a queue for `capacity` messages of at most `greatest` bytes: each place of the queue has
-- room for a message, the message in transmission has one, and each port one of its own.
abbrev pub sub_bytes : (capacity ports greatest : ℕ) → ℕ
sub_bytes capacity ports greatest = 312 + 40 * capacity + (capacity + 1 + ports) * greatest

-- the bytes of an end system outside its sub-VLs, whose lists have room for so many links and ports
abbrev pub base_bytes : (links ports link_room port_room : ℕ) → ℕ
base_bytes links ports link_room port_room =
    207953 + 280 * links + 24 * link_room + 392 * ports + 32 * port_room

-- the row of a sub-VL of a link
abbrev pub sub_row : List PortPlan → LinkPlan → ℕ → SubRow
sub_row ports link sub = record {
  vl = link.id;
  sub = sub;
  capacity = link.capacity;
  ports = count_by (is_on link sub) ports;
  partitions = partitions_on link sub ports;
  greatest = greatest_on link sub ports;
  bytes = sub_bytes link.capacity (count_by (is_on link sub) ports) (greatest_on link sub ports);
}

-- the rows of the sub-VLs of a link
abbrev pub rows_of_link : List PortPlan → LinkPlan → List SubRow
rows_of_link ports link = map (sub_row ports link) (range_with_len 0 link.sub_vls)

-- the rows of the sub-VLs of a plan
abbrev pub sub_rows : Plan → List SubRow
sub_rows plan = flat_map (rows_of_link plan.ports) plan.links

-- a row with the most bytes; there is none only if there are no rows
pub record IsHeaviest (rows : List SubRow) (heaviest : Option SubRow) : Type 0 where
  pub empty : IsNone heaviest ↔ (rows ≡ [])
  pub listed : IfSome heaviest (Contains rows)
  pub most : IfSome heaviest (λ row. All (λ (other : SubRow). other.bytes ≤ row.bytes) rows)

-- the bytes of the end system of a plan whose lists have room for so many links and ports
abbrev pub bytes_with : (link_room port_room : ℕ) → Plan → ℕ
bytes_with link_room port_room plan = base_bytes (length plan.links) (length plan.ports) link_room port_room
    + sum_by (λ (row : SubRow). row.bytes) (sub_rows plan)

-- the bytes of the end system of a plan: opened from a text, its lists have room for at least four links and ports
abbrev pub bytes_of : Plan → ℕ
bytes_of plan = bytes_with (max 4 (length plan.links)) (max 4 (length plan.ports)) plan

-- the bytes of the end system of a plan that is opened from its table, whose lists have room for just its own
abbrev pub table_bytes : Plan → ℕ
table_bytes plan = bytes_with (length plan.links) (length plan.ports) plan

-- the memory of the end system of a plan; a sub-VL that holds the most is named if all is 64 MiB or more
pub record IsMemoryOf (plan : Plan) (memory : Memory) : Type 0 where
  pub subs : memory.subs.items ≡ sub_rows plan
  pub bytes : memory.bytes ≡ bytes_of plan
  pub small : memory.bytes < 67108864 → memory.large ≡ None
  pub large : 67108864 ≤ memory.bytes → IsHeaviest memory.subs.items memory.large
