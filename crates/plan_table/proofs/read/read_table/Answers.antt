use Rattle.std.proofs.Common.{◌≡◌, arith, get_or, rules}
use Rattle.std.proofs.lemmas.Slice.Eq.{bytes_eq-Decides}
use Rattle.afdx_plan.specs.Config.{plan_of_parts}
use Rattle.plan_table.specs.Table.{IsTableOf}
use Rattle.plan_table.specs.Reading.{cells_of, links_from, ports_from}
use Rattle.plan_table.proofs.ReadLemmas.{no_table}
use Rattle.plan_table.proofs.RuleLemmas.{first_is_least, whole_is_valid}
use Rattle.plan_table.proofs.read.read_table.Goals as goal

pub returns-then-ne-clause-fault : goal.returns-then-ne-clause-fault
returns-then-ne-clause-fault c =
    let bytes = c.args.bytes.now in
    let plan = plan_of_parts c.cell-end_system.result c.in-Ok.links.items c.in-Ok.ports.items in
    let of : IsTableOf c.in-Ok-write_parts.table.items plan = search rules in
    let end : c.cell-end_system.result ≡ get_or (cells_of bytes) 5 0 = search rules in
    let links : c.in-Ok.links.items ≡ links_from bytes = search rules in
    let ports : c.in-Ok.ports.items ≡ ports_from bytes = search rules in
    let differ : c.in-Ok-write_parts.table.items ≡ bytes → ⊥ = λ same. grind (arith, bytes_eq-Decides) in
    (search rules, search rules, λ other. no_table bytes c.in-Ok-write_parts.table.items plan other of end links ports differ)

pub new-requires : goal.new-requires
new-requires c = whole_is_valid (plan_of_parts c.cell-end_system.result c.in-Ok.links.items c.in-Ok.ports.items) (omega arith)
    c.in-Ok.ensures.links.0 c.in-Ok.ensures.ports.0 (search rules)

pub returns-in-Some-first_fault-clause-fault : goal.returns-in-Some-first_fault-clause-fault
returns-in-Some-first_fault-clause-fault c = λ real.
    let bytes = c.args.bytes.now in
    let plan = plan_of_parts c.cell-end_system.result c.in-Ok.links.items c.in-Ok.ports.items in
    let same : c.in-Ok-write_parts.table.items ≡ bytes = grind (arith, bytes_eq-Decides) in
    let of : IsTableOf c.in-Ok-write_parts.table.items plan = search rules in
    (plan, rw same at of, first_is_least plan c.in-Some-first_fault.fault (search rules))
