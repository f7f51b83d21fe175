use Rattle.afdx_handle.proofs.MadeFrames.{set_map}
use Rattle.afdx_handle.proofs.Names.{arith, link_id}
use Rattle.afdx_handle.proofs.end_system.write_link_ids.Goals as goal

pub loop-k-preserved : goal.loop-k-preserved
loop-k-preserved c = set_map link_id c.args.links.now c.args.ids.now c.loop-k.ids c.loop-k.k _ c.loop-k-test.true (omega arith) c.loop-k.invariant
