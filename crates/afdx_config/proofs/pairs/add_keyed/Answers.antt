use Rattle.afdx_config.proofs.Names.{fun_ext, pair_finding, take_all, row_like, first_row}
use Rattle.afdx_config.proofs.AddLemmas.{row_more}
use Rattle.afdx_config.proofs.pairs.add_keyed.Goals as goal

pub loop-i-preserved : goal.loop-i-preserved
loop-i-preserved g c = row_more (λ k own. pair_finding c.args.fault c.args.key.now (row_like c.args.array) k (first_row g.K.Ord.cmp c.args.keys.now own))
    c.loop-i.i c.args.keys.now _ _ _ _ _ c.loop-i-test.true c.index-keys-i.is c.loop-i.invariant
    (rw (rw (fun_ext c.in_ok-rows.ensures) at c.row_with.ensures) at c.in_ok-add_pair.ensures)

pub returns : goal.returns
returns g c = rw (take_all c.loop-i.i c.args.keys.now c.loop-i-test.false) at c.loop-i.invariant
