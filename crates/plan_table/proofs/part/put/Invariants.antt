use Rattle.std.proofs.Common.{◌≡◌, ◌++◌, take}
use Rattle.std.specs.List.{flat_map}
use Rattle.plan_table.specs.Table.{half}
use Rattle.plan_table.proofs.part.put.Given as goal

abbrev pub invariant-loop-number : goal.invariant-loop-number
invariant-loop-number l = l.table.items ≡ l.initial.table.items ++ flat_map half (take l.number-index l.numbers)
