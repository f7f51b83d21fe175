use Rattle.std.proofs.Common.{◌≡◌, ◌++◌, ◌+◌, ◌*◌, ◌-◌, drop, length, All}
use Rattle.plan_table.specs.Reading.{cells_of, parts_from}
use Rattle.plan_table.proofs.read.parts_in.Given as goal

abbrev pub invariant-loop-k : goal.invariant-loop-k
invariant-loop-k g l = (l.parts.items ++ parts_from g.P.Part.from g.P.Part.width (l.many - l.k)
    (drop (l.at + g.P.Part.width * l.k) (cells_of l.bytes)) ≡ parts_from g.P.Part.from g.P.Part.width l.many (drop l.at (cells_of l.bytes)))
    × All g.P.Part.IsPart l.parts.items × (length l.parts.items ≡ l.k)
