use Rattle.storm.proofs.Names.{arith, rules}
use Rattle.storm.proofs.Spent.{only_more}
use Rattle.storm.proofs.watcher.watch_link.Goals as goal

pub loop-preserved : goal.loop-preserved
loop-preserved g c =
    grind (arith, only_more _ _ _ _ _ _ c.loop.invariant.reads c.read-found.ensures.reading c.read-found.ensures.others, rules)
