use Rattle.afdx_handle.proofs.Names.{arith}
use Rattle.std.proofs.lemmas.List.{take_min, take-map}
use Rattle.afdx_handle.specs.Rows.{row_of}
use Rattle.afdx_handle.proofs.MadeFrames.{set_map}
use Rattle.afdx_handle.proofs.judging.write_rows.Goals as goal

pub loop-k-preserved : goal.loop-k-preserved
loop-k-preserved c = rw c.row_of.ensures
    (set_map row_of c.args.found.now c.args.rows.now c.loop-k.rows c.loop-k.k _ (omega arith) (omega arith) c.loop-k.invariant)

pub returns : goal.returns
returns c = grind (arith, take_min, take-map)
