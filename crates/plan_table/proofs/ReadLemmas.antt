-- A table is read as the plan that it is of.
use Rattle.std.proofs.Common.{◌≡◌, ℕ, codes, ◌+◌, ◌*◌, ◌/◌, ◌%◌, ◌<◌, List, [], ◌∷◌, ◌++◌, length, drop, get_or, refl, sym, ◌∙◌, ap, arith, append_assoc, Some, None, Option, IfSome}
use Rattle.std.specs.List.{flat_map, AllByRecursion}
use Rattle.std.specs.Int.{to_be_bytes, w32}
use Rattle.std.proofs.lemmas.List.{drop-drop}
use Rattle.std.proofs.lemmas.Bool.Decides.{nat_tests}
use Rattle.std.proofs.Math.Seq.{drop-append-add}
use Rattle.plan_table.specs.Sum.{crc_32}
use Rattle.std.proofs.lemmas.List.Elements.{recursion_from_All}
use Rattle.afdx_plan.specs.Config.{Plan}
use Rattle.afdx_plan.specs.Plan.{bag_ms, IsLink, IsPort, IsUnicast}
use Rattle.afdx_plan.specs.declared.link_plan.Bag.{Bag}
use Rattle.afdx_plan.specs.declared.link_plan.LinkPlan.{LinkPlan}
use Rattle.afdx_plan.specs.declared.port_plan.PortPlan.{PortPlan}
use Rattle.plan_table.specs.Table.{address_high, address_low, half, IsInRange, IsTableOf, link_cells, plan_cells, port_cells, table_of}
use Rattle.plan_table.specs.Reading.{address_from, bag_from, cells_of, link_from, links_from, parts_from, port_from, ports_from, link_count, port_count}

-- a number of 16 bits
abbrev pub IsSmall : ℕ → Type 0
IsSmall n = n < 65536

-- numbers are read as they were written
pub cells_back : (cells : List ℕ) (rest : List ℕ) → AllByRecursion IsSmall cells → cells_of (flat_map half cells ++ rest) ≡ cells ++ cells_of rest
cells_back [] rest small = refl
cells_back (n ∷ cells) rest small =
    let number : 256 * (n / 256 % 256) + n % 256 ≡ n = let below = small.0 in omega arith in
    rw (number, cells_back cells rest small.1) refl

-- so are parts
parts_back : {P : Type 0} (from : List ℕ → P) (cells : P → List ℕ) (width : ℕ) (Is : P → Type 0) (parts : List P) (rest : List ℕ)
    → ((p : P) (more : List ℕ) → Is p → from (cells p ++ more) ≡ p)
    → ((p : P) (more : List ℕ) → drop width (cells p ++ more) ≡ more)
    → AllByRecursion Is parts → parts_from from width (length parts) (flat_map cells parts ++ rest) ≡ parts
parts_back from cells width Is [] rest back past are = refl
parts_back from cells width Is (p ∷ ps) rest back past are =
    rw (
      append_assoc (cells p) (flat_map cells ps) rest,
      back p (flat_map cells ps ++ rest) are.0,
      past p (flat_map cells ps ++ rest),
      parts_back from cells width Is ps rest back past are.1,
    ) refl

-- and what is past them
parts_past : {P : Type 0} (cells : P → List ℕ) (width : ℕ) (parts : List P) (rest : List ℕ)
    → ((p : P) → length (cells p) ≡ width) → drop (width * length parts) (flat_map cells parts ++ rest) ≡ rest
parts_past cells width [] rest is = let none : width * 0 ≡ 0 = omega arith in rw none refl
parts_past cells width (p ∷ ps) rest is = grind (arith, is p, append_assoc, parts_past cells width ps rest is, drop-append-add)

bag_back : (bag : Bag) → bag_from (bag_ms bag) ≡ bag
bag_back bag = grind arith

address_back : (address : Option (List ℕ)) → IfSome address IsUnicast → address_from (address_high address) (address_low address) ≡ address
address_back None is = refl
address_back (Some (a ∷ b ∷ c ∷ d ∷ [])) is =
    let first : a ≡ 10 = is.first in
    let second : b < 256 = is.bytes 1 in
    let third : c < 256 = is.bytes 2 in
    let fourth : d < 256 = is.bytes 3 in
    grind (arith, nat_tests)
address_back (Some address) is = absurd (omega (arith, is.four))

small-address : (address : Option (List ℕ)) → IfSome address IsUnicast → (address_high address < 65536) × (address_low address < 65536)
small-address None is = (omega arith, omega arith)
small-address (Some address) is =
    let first = is.bytes 0 in let second = is.bytes 1 in let third = is.bytes 2 in let fourth = is.bytes 3 in (omega arith, omega arith)

port_drop : (port : PortPlan) (more : List ℕ) → drop 11 (port_cells port ++ more) ≡ more
port_drop port more = grind arith

link_back : (link : LinkPlan) (more : List ℕ) → IsLink link → link_from (link_cells link ++ more) ≡ link
unfolding link_from
link_back link more is = grind (arith, nat_tests, bag_back)

port_back : (port : PortPlan) (more : List ℕ) → IsPort port → port_from (port_cells port ++ more) ≡ port
unfolding port_from
port_back port more is = grind (arith, nat_tests, address_back port.unicast is.unicast)

small-append : (xs ys : List ℕ) → AllByRecursion IsSmall xs → AllByRecursion IsSmall ys → AllByRecursion IsSmall (xs ++ ys)
small-append [] ys xs_are ys_are = ys_are
small-append (x ∷ xs) ys xs_are ys_are = (xs_are.0, small-append xs ys xs_are.1 ys_are)

small-parts : {P : Type 0} (cells : P → List ℕ) (Is : P → Type 0) (parts : List P) → ((p : P) → Is p → AllByRecursion IsSmall (cells p))
    → AllByRecursion Is parts → AllByRecursion IsSmall (flat_map cells parts)
small-parts cells Is [] each are = tt
small-parts cells Is (p ∷ ps) each are = small-append (cells p) (flat_map cells ps) (each p are.0) (small-parts cells Is ps each are.1)

small-link : (link : LinkPlan) → IsLink link → AllByRecursion IsSmall (link_cells link)
small-link link is = grind (arith, nat_tests)

small-port : (port : PortPlan) → IsPort port → AllByRecursion IsSmall (port_cells port)
small-port port is = grind (arith, nat_tests, small-address port.unicast is.unicast)

small-plan : (plan : Plan) → IsInRange plan → AllByRecursion IsSmall (plan_cells plan)
unfolding plan_cells
small-plan plan is =
    let links = small-parts link_cells IsLink plan.links small-link (recursion_from_All IsLink plan.links is.links) in
    let ports = small-parts port_cells IsPort plan.ports small-port (recursion_from_All IsPort plan.ports is.ports) in
    let parts = small-append (flat_map link_cells plan.links) (flat_map port_cells plan.ports) links ports in
    (omega arith, (is.end_system, (is.few_links, (is.few_ports, parts))))

-- the bytes of a plan before their check, and the numbers of the check
abbrev pub front : Plan → List ℕ
front plan = codes "AFDXPLAN" ++ flat_map half (plan_cells plan)

abbrev pub tail : Plan → List ℕ
tail plan = cells_of (to_be_bytes w32 (crc_32 (front plan)))

pub cells_are : (bytes : List ℕ) (plan : Plan) → IsTableOf bytes plan
    → cells_of bytes ≡ cells_of (codes "AFDXPLAN") ++ (plan_cells plan ++ tail plan)
cells_are bytes plan is = ap cells_of is.table
    ∙ ap (λ more. cells_of (codes "AFDXPLAN") ++ more) (cells_back (plan_cells plan) _ (small-plan plan is.ranges))

-- the values that are read from the table of a plan
pub record IsReadAs (bytes : List ℕ) (plan : Plan) : Type 0 where
  pub end_system : get_or (cells_of bytes) 5 0 ≡ plan.end_system
  pub links : links_from bytes ≡ plan.links
  pub ports : ports_from bytes ≡ plan.ports

pub table_back : (bytes : List ℕ) (plan : Plan) → IsTableOf bytes plan → IsReadAs bytes plan
unfolding plan_cells
table_back bytes plan is =
    let cells = cells_are bytes plan is in
    let fl = flat_map link_cells plan.links in
    let fp = flat_map port_cells plan.ports in
    let rest : (fl ++ fp) ++ tail plan ≡ fl ++ (fp ++ tail plan) = append_assoc fl fp (tail plan) in
    let links = parts_back link_from link_cells 6 IsLink plan.links (fp ++ tail plan) link_back (λ p more. refl) (recursion_from_All IsLink plan.links is.ranges.links) in
    let past = parts_past link_cells 6 plan.links (fp ++ tail plan) (λ p. refl) in
    let dropped : drop (8 + 6 * length plan.links) (cells_of bytes) ≡ fp ++ tail plan =
    sym (drop-drop (6 * length plan.links) 8 (cells_of bytes)) ∙ ap (λ c. drop (6 * length plan.links) (drop 8 c)) cells
    ∙ ap (drop (6 * length plan.links)) rest ∙ past in
    let ports = parts_back port_from port_cells 11 IsPort plan.ports (tail plan) port_back port_drop (recursion_from_All IsPort plan.ports is.ranges.ports) in
    record {
      end_system = rw cells refl;
      links = rw (cells, rest) links;
      ports = let many : port_count bytes ≡ length plan.ports = rw cells refl in
          let past_links : link_count bytes ≡ length plan.links = rw cells refl in
          rw (many, past_links, dropped) ports;
    }

-- bytes that aren't the table of what is read from them are no table
pub no_table : (bytes table : List ℕ) (plan other : Plan) → IsTableOf table plan → plan.end_system ≡ get_or (cells_of bytes) 5 0
    → plan.links ≡ links_from bytes → plan.ports ≡ ports_from bytes → (table ≡ bytes → ⊥) → ¬ IsTableOf bytes other
no_table bytes table plan other of end links ports differ is =
    let read = table_back bytes other is in
    let same : plan ≡ other = grind (arith, read.end_system, read.links, read.ports) in
    differ (of.table ∙ ap table_of same ∙ sym is.table)
