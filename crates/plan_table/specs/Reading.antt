-- The reading of a table.
use Rattle.std.specs.Prelude.{◌≡◌, ◌≢◌, ℕ, codes, zero, suc, ◌+◌, ◌*◌, ◌/◌, ◌%◌, ◌-◌, ◌≤◌, ◌&&◌, min, max, List, [], ◌∷◌, length, take, drop, get_or, Option, Some, None, nat_eq, if◌then◌else◌, Bool, false, true, bytes_eq}
use Rattle.std.specs.Int.{to_be_bytes, w32}
use Rattle.plan_table.specs.Sum.{crc_32}
use Rattle.afdx_plan.specs.Config.{Plan}
use Rattle.afdx_plan.specs.PlanFaults.{fault_number}
use Rattle.afdx_plan.specs.declared.fault.ConfigFault.TheVariants.{Memory}
use Rattle.afdx_plan.specs.declared.link_plan.Bag.{Bag}
use Rattle.afdx_plan.specs.declared.link_plan.Bag.TheVariants.{Ms1, Ms2, Ms4, Ms8, Ms16, Ms32, Ms64, Ms128}
use Rattle.afdx_plan.specs.declared.link_plan.LinkPlan.{LinkPlan}
use Rattle.afdx_plan.specs.declared.link_plan.Networks.TheVariants.{Both, OnlyA, OnlyB}
use Rattle.afdx_plan.specs.declared.port_plan.Kind.TheVariants.{Sampling, Queuing}
use Rattle.afdx_plan.specs.declared.port_plan.PortPlan.{PortPlan}
use Rattle.afdx_plan.specs.declared.port_plan.UdpSum.TheVariants.{Omitted, Generated}
use Rattle.plan_table.specs.Rules.{IsLeastShown}
use Rattle.plan_table.specs.Table.{IsTableOf}
use Rattle.plan_table.specs.declared.fault.TableFault.{TableFault}
use Rattle.plan_table.specs.declared.fault.TableFault.TheVariants.{Plan as OfPlan, NoTable, OtherLayout, WrongLength, WrongSum, WrongValue}

-- the number of a fault
abbrev pub table_fault_number : TableFault → ℕ
table_fault_number (OfPlan fault) = fault_number fault
table_fault_number NoTable = 16
table_fault_number OtherLayout = 17
table_fault_number WrongLength = 18
table_fault_number WrongSum = 19
table_fault_number WrongValue = 20

-- the numbers of 16 bits in bytes
abbrev pub cells_of : List ℕ → List ℕ
cells_of [] = []
cells_of (high ∷ []) = []
cells_of (high ∷ low ∷ bytes) = (256 * high + low) ∷ cells_of bytes

abbrev pub bag_from : ℕ → Bag
bag_from n = if nat_eq n 2 then Ms2 else if nat_eq n 4 then Ms4 else if nat_eq n 8 then Ms8
    else if nat_eq n 16 then Ms16 else if nat_eq n 32 then Ms32 else if nat_eq n 64 then Ms64
    else if nat_eq n 128 then Ms128 else Ms1

-- none of two zeros, else an address in 10.0.0.0/8
abbrev pub address_from : ℕ → ℕ → Option (List ℕ)
address_from high low = if nat_eq high 0 && nat_eq low 0 then None
    else Some (10 ∷ high % 256 ∷ low / 256 % 256 ∷ low % 256 ∷ [])

-- the link of these numbers, each in its range
unfoldable pub link_from : List ℕ → LinkPlan
link_from cells = record {
  id = record { 0 = get_or cells 0 0 };
  bag = bag_from (get_or cells 1 0);
  lmax = min (max (get_or cells 2 0) 64) 1518;
  sub_vls = min (max (get_or cells 3 0) 1) 4;
  capacity = min (max (get_or cells 4 0) 1) 256;
  networks = get_or (Both ∷ OnlyA ∷ OnlyB ∷ []) (min (get_or cells 5 0) 2) OnlyB;
}

-- the port of these numbers, each in its range
unfoldable pub port_from : List ℕ → PortPlan
port_from cells = record {
  id = record { 0 = get_or cells 0 0 };
  vl = record { 0 = get_or cells 1 0 };
  sub = min (get_or cells 2 0) 3;
  partition = min (get_or cells 3 0) 31;
  kind = get_or (Sampling ∷ Queuing ∷ []) (min (get_or cells 4 0) 1) Queuing;
  source = max (get_or cells 5 0) 1;
  destination = max (get_or cells 6 0) 1;
  max = min (max (get_or cells 7 0) 1) 8192;
  unicast = address_from (get_or cells 8 0) (get_or cells 9 0);
  checksum = get_or (Omitted ∷ Generated ∷ []) (min (get_or cells 10 0) 1) Generated;
}

-- `many` parts, each of `width` numbers
abbrev pub parts_from : {P : Type 0} → (List ℕ → P) → (width many : ℕ) → List ℕ → List P
parts_from from width zero cells = []
parts_from from width (suc many) cells = from cells ∷ parts_from from width many (drop width cells)

-- the numbers of links and of ports
abbrev pub link_count : List ℕ → ℕ
link_count bytes = get_or (cells_of bytes) 6 0

abbrev pub port_count : List ℕ → ℕ
port_count bytes = get_or (cells_of bytes) 7 0

-- the links and the ports
abbrev pub links_from : List ℕ → List LinkPlan
links_from bytes = parts_from link_from 6 (link_count bytes) (drop 8 (cells_of bytes))

abbrev pub ports_from : List ℕ → List PortPlan
ports_from bytes = parts_from port_from 11 (port_count bytes) (drop (8 + 6 * link_count bytes) (cells_of bytes))

-- bytes begin with "AFDXPLAN", and end with their check
abbrev pub starts : List ℕ → Bool
starts bytes = bytes_eq (take 8 bytes) (codes "AFDXPLAN")

abbrev pub ends : List ℕ → Bool
ends bytes = bytes_eq (drop (length bytes - 4) bytes) (to_be_bytes w32 (crc_32 (take (length bytes - 4) bytes)))

-- bytes begin as a table does; with this version of the layout; and are as many as the counts want
abbrev pub HasFront : List ℕ → Type 0
HasFront bytes = (20 ≤ length bytes) × (starts bytes ≡ true)

abbrev pub HasLayout : List ℕ → Type 0
HasLayout bytes = HasFront bytes × (get_or (cells_of bytes) 4 0 ≡ 1)

abbrev pub HasLength : List ℕ → Type 0
HasLength bytes = HasLayout bytes × (length bytes ≡ 20 + 12 * link_count bytes + 22 * port_count bytes)

-- The fault of bytes: of their own faults the one of the least number. Without one they are the table of a plan, and
-- its fault is the one that its text would have.
abbrev pub IsFaultOf : List ℕ → TableFault → Type 0
IsFaultOf bytes NoTable = ¬ HasFront bytes
IsFaultOf bytes OtherLayout = HasFront bytes × (get_or (cells_of bytes) 4 0 ≢ 1)
IsFaultOf bytes WrongLength = HasLayout bytes × (length bytes ≢ 20 + 12 * link_count bytes + 22 * port_count bytes)
IsFaultOf bytes WrongSum = HasLength bytes × (ends bytes ≡ false)
IsFaultOf bytes WrongValue = HasLength bytes × (ends bytes ≡ true) × ((plan : Plan) → ¬ IsTableOf bytes plan)
IsFaultOf bytes (OfPlan fault) = fault ≢ Memory → (plan : Plan) × IsTableOf bytes plan × IsLeastShown fault plan
