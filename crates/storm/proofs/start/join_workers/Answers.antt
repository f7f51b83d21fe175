use Rattle.storm.proofs.Names.{arith, common_steps, length-map, map-append}
use Rattle.storm.proofs.Spent.{at_most_push}
use Rattle.storm.proofs.start.join_workers.Goals as goal

pub loop-worker-preserved : goal.loop-worker-preserved
loop-worker-preserved g c =
    record {
      polls = grind arith;
      sent = grind (arith, common_steps);
      count = grind (arith, common_steps);
      asks = grind (arith, at_most_push, map-append, length-map);
    }
