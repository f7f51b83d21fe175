use Rattle.std.proofs.Common.{◌≡◌, ◌++◌, take}
use Rattle.std.specs.List.{flat_map}
use Rattle.plan_table.specs.Table.{half}
use Rattle.plan_table.proofs.write.put_parts.Given as goal

abbrev pub invariant-loop-part : goal.invariant-loop-part
invariant-loop-part g l = l.table.items ≡ l.initial.table.items ++ flat_map half (flat_map g.P.Part.cells (take l.part-index l.parts))
