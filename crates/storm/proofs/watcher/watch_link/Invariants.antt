use Rattle.storm.proofs.Names.{◌≡◌, false, NoFieldFalls, value_of, links_of, seen, ReadsOnly}
use Rattle.storm.proofs.watcher.watch_link.Given as goal

abbrev pub invariant-loop : goal.invariant-loop
invariant-loop g l = record {
  reads : ReadsOnly l.fn.monitor l.monitor l.link l.counter;
  links : links_of l.monitor ≡ links_of l.fn.monitor;
  back : l.back ≡ false;
  above : NoFieldFalls l.last (value_of (seen l.monitor l.link).history);
}
