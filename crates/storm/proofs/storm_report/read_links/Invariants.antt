use Rattle.storm.proofs.Names.{◌≡◌, take, cells_read, all_counts}
use Rattle.storm.proofs.storm_report.read_links.Given as goal

abbrev pub invariant-loop-link : goal.invariant-loop-link
invariant-loop-link g l = record {
  draining : l.draining ≡ l.fn.draining;
  cells : cells_read l.monitor ≡ cells_read l.fn.monitor;
  counts : l.counts.items ≡ take l.link (all_counts l.fn.draining.plan.links l.fn.draining.lines.a l.fn.draining.lines.b);
}
