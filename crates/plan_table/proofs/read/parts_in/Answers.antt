use Rattle.std.proofs.Common.{◌≡◌, ◌++◌, [], ◌∷◌, All, arith, append_assoc, rules}
use Rattle.std.proofs.lemmas.List.Elements.{All-append, All-cons}
use Rattle.plan_table.specs.Reading.{cells_of}
use Rattle.plan_table.proofs.CellLemmas.{next_part}
use Rattle.plan_table.proofs.read.parts_in.Goals as goal

pub loop-k-preserved : goal.loop-k-preserved
loop-k-preserved g c =
    let next = next_part g.P.Part.from g.P.Part.width c.args.many c.loop-k.k c.args.at (cells_of c.args.bytes.now) (omega arith) in
    let one : All g.P.Part.IsPart (c.read.result ∷ []) = All-cons g.P.Part.IsPart c.read.result [] c.read.ensures.part (λ k d below. absurd (omega arith)) in
    let all : All g.P.Part.IsPart (c.loop-k.parts.items ++ c.read.result ∷ []) = All-append g.P.Part.IsPart _ _ c.loop-k.invariant.1 one in
    let pushed : c.push.new.self.items ≡ c.loop-k.parts.items ++ c.read.result ∷ [] = search rules in
    (grind (arith, next, append_assoc), rw pushed all, search rules)
