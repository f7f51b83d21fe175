-- The internet addresses of a port (ARINC 664 Part 7, addressing).
use Rattle.std.specs.Prelude.{ℕ, List, [], ◌∷◌, ◌++◌, Option, Some, None}
use Rattle.std.specs.Int.{bytes_high_first}
use Rattle.afdx_plan.specs.declared.port_plan.PortPlan.{PortPlan}

-- a number in two bytes, the higher first
abbrev pub two_bytes : ℕ → List ℕ
two_bytes n = bytes_high_first 2 n

-- the source address, unicast: 10, the end system, the partition
abbrev pub source_address : ℕ → ℕ → List ℕ
source_address end_system partition = 10 ∷ two_bytes end_system ++ partition ∷ []

-- the destination address: the given unicast address, else 224.224 and the identifier of the virtual
-- link (multicast)
abbrev pub destination_of : ℕ → Option (List ℕ) → List ℕ
destination_of vl None = 224 ∷ 224 ∷ two_bytes vl
destination_of vl (Some address) = address

-- the destination address of a port
abbrev pub destination_address : PortPlan → List ℕ
destination_address port = destination_of port.vl.0 port.unicast
