use Rattle.afdx_config.proofs.Names.{take, each_row, pair_finding, row_like, Adds, first_row}
use Rattle.afdx_config.proofs.pairs.add_keyed.Given as goal

abbrev pub invariant-loop-i : goal.invariant-loop-i
invariant-loop-i g l = Adds l.initial.found l.found
    (each_row (λ k own. pair_finding l.fault l.key (row_like l.array) k (first_row g.K.Ord.cmp l.keys own)) 1 (take l.i l.keys))
