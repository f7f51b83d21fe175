use Rattle.storm.proofs.Names.{◌≡◌, false, links_of, ReadsFirst}
use Rattle.storm.proofs.watcher.watch.Given as goal

abbrev pub invariant-loop-link : goal.invariant-loop-link
invariant-loop-link g l = record {
  reads : ReadsFirst l.fn.monitor l.monitor l.link l.times;
  links : links_of l.monitor ≡ l.links;
  back : l.back ≡ false;
}
