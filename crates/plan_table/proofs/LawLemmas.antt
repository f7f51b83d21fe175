-- The laws of tables.
use Rattle.std.proofs.Common.{◌≡◌, ℕ, ◌+◌, ◌*◌, ◌-◌, ◌++◌, codes, List, [], ◌∷◌, length, refl, ap, ◌∙◌, arith, length-append, Ok, Err, inl, inr}
use Rattle.std.specs.List.{flat_map}
use Rattle.std.specs.Int.{to_be_bytes, w32}
use Rattle.std.proofs.Math.Seq.{drop-append_seam, take-append_seam}
use Rattle.std.proofs.lemmas.Bool.{cases_eq}
use Rattle.std.proofs.lemmas.Bool.Decides.{nat_tests}
use Rattle.std.proofs.lemmas.Slice.Eq.{bytes_eq-Decides}
use Rattle.afdx_plan.specs.Config.{Plan, IsPlan}
use Rattle.afdx_plan.specs.PlanFaults.{fault_number}
use Rattle.afdx_plan.specs.declared.fault.ConfigFault.{ConfigFault}
use Rattle.afdx_plan.specs.declared.fault.ConfigFault.TheVariants.{Memory}
use Rattle.afdx_plan.proofs.PlanLemmas.{faultless}
use Rattle.plan_table.specs.Laws.{TablesAreRead, TablesDiffer}
use Rattle.plan_table.specs.Reading.{cells_of, IsFaultOf}
use Rattle.plan_table.specs.Rules.{IsLeastShown}
use Rattle.plan_table.specs.Sum.{crc_32}
use Rattle.plan_table.specs.Table.{half, IsTableOf, link_cells, plan_cells, port_cells}
use Rattle.plan_table.specs.declared.fault.TableFault.{TableFault}
use Rattle.plan_table.specs.declared.fault.TableFault.TheVariants.{Plan as OfPlan, NoTable, OtherLayout, WrongLength, WrongSum, WrongValue}
use Rattle.plan_table.proofs.ReadLemmas.{cells_are, front, table_back, tail}

pub tables_differ : TablesDiffer
tables_differ bytes one other is_one is_other =
    let first = table_back bytes one is_one in
    let second = table_back bytes other is_other in
    grind (arith, first.end_system, first.links, first.ports, second.end_system, second.links, second.ports)

-- a fault that a valid plan doesn't show isn't told of its table
not_told : (bytes : List ℕ) (plan : Plan) (fault : ConfigFault) → IsPlan plan → IsTableOf bytes plan → ¬ ((other : Plan) × IsTableOf bytes other × IsLeastShown fault other)
not_told bytes plan fault valid is (other, of, shown) =
    let same = tables_differ bytes other plan of is in
    let none = faultless plan fault valid in
    let some = rw same at shown.0 in cc

memory_is : (fault : ConfigFault) → fault_number fault ≡ 15 → fault ≡ Memory
memory_is fault is = grind arith

-- parts of one width
length-parts : {P : Type 0} (cells : P → List ℕ) (width : ℕ) (parts : List P) → ((p : P) → length (cells p) ≡ width)
    → length (flat_map cells parts) ≡ width * length parts
length-parts cells width [] is = omega arith
length-parts cells width (p ∷ ps) is = grind (arith, length-append, is p, length-parts cells width ps is)

-- the length of the bytes of a plan before their check
length-front : (plan : Plan) → length (front plan) ≡ 16 + 12 * length plan.links + 22 * length plan.ports
unfolding plan_cells
length-front plan =
    let links = length-parts link_cells 6 plan.links (λ p. refl) in
    let ports = length-parts port_cells 11 plan.ports (λ p. refl) in
    let halves = length-parts half 2 (plan_cells plan) (λ p. refl) in
    grind (arith, length-append, links, ports, halves)

-- the table of a valid plan has no fault but that memory ran out
memory_alone : (bytes : List ℕ) (plan : Plan) → IsPlan plan → IsTableOf bytes plan → (fault : TableFault) → IsFaultOf bytes fault
    → fault ≡ OfPlan Memory
unfolding plan_cells
memory_alone bytes plan valid is = here
  where
    cells : cells_of bytes ≡ cells_of (codes "AFDXPLAN") ++ (plan_cells plan ++ tail plan)
    cells = cells_are bytes plan is

    sum : List ℕ
    sum = to_be_bytes w32 (crc_32 (front plan))

    long : length bytes ≡ 20 + 12 * length plan.links + 22 * length plan.ports
    long = ap length is.table ∙ length-append (front plan) sum ∙ grind (arith, length-front plan)

    here : (fault : TableFault) → IsFaultOf bytes fault → fault ≡ OfPlan Memory
    here (OfPlan fault) told = elim (cases_eq (fault_number fault) 15) [
      | inl memory ↦ ap OfPlan (memory_is fault memory)
      | inr other ↦ absurd (not_told bytes plan fault valid is (told (λ same. other (ap fault_number same))))
    ]
    here NoTable told = absurd (told (let one = long in omega arith, rw is.table refl))
    here OtherLayout told = absurd (told.1 (rw cells refl))
    here WrongLength told = absurd (told.1 (rw cells long))
    here WrongSum told = let before : length bytes - 4 ≡ length (front plan) = let one = length-front plan in let all = long in omega arith in
        absurd (grind (arith, nat_tests, bytes_eq-Decides, before, is.table, take-append_seam, drop-append_seam))
    here WrongValue told = absurd (told.2 plan is)

pub tables_are_read : TablesAreRead
tables_are_read bytes plan (Ok config) valid is reads = inl (ap Ok (tables_differ bytes config plan reads.plan is))
tables_are_read bytes plan (Err fault) valid is reads = inr (ap Err (memory_alone bytes plan valid is fault reads.fault))
