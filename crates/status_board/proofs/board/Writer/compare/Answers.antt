use Rattle.status_board.proofs.Names.{arith, rules, subst, View, StartsWith}
use Rattle.status_board.proofs.Histories.{counts_start}
use Rattle.status_board.proofs.Steps.{compares}
use Rattle.status_board.proofs.board.Writer.compare.Goals as goal

pub load_as-requires : goal.load_as-requires
load_as-requires g c = (search rules, (search rules, (search rules, compares _ _ (grind arith))))

pub returns-clause-begins : goal.returns-clause-begins
returns-clause-begins g c =
    let known = subst (λ (v : View). StartsWith v.history v.heard) c.tell.ensures.hearer.1 c.load_as.ensures.rule.begins in
    let counts = counts_start _ _ known in
    grind arith
