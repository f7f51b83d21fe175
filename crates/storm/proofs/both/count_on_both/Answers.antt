use Rattle.storm.proofs.Names.{arith, common_steps}
use Rattle.storm.proofs.Whole.{count_more}
use Rattle.storm.proofs.both.count_on_both.Goals as goal

pub loop-one-preserved : goal.loop-one-preserved
loop-one-preserved c =
    let more = count_more c.args.links.now c.args.handed.now c.loop-one.one-index c.one-item.result c.loop-one-test.true c.one-item.is in
    grind (arith, common_steps, more)
