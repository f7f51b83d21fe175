use Rattle.storm.proofs.Names.{◌<◌, length, arith}
use Rattle.storm.proofs.SameCells.{cell_at, cells_kept, read_more, read_all}
use Rattle.storm.proofs.storm_report.read_links.Goals as goal

pub read_last-requires : goal.read_last-requires
read_last-requires g c =
    let old = c.loop-link.invariant in
    let here : c.loop-link.link < length c.loop-link.draining.board =
    grind arith in
    let cell = cell_at c.loop-link.draining.board c.loop-link.monitor c.loop-link.link
    (grind arith) here in
    grind arith

pub loop-link-preserved : goal.loop-link-preserved
loop-link-preserved g c = grind (arith, cells_kept, read_more)

pub returns-clause-counts : goal.returns-clause-counts
returns-clause-counts g c = grind (arith, read_all)
