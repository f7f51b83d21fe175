use Rattle.storm.proofs.Names.{Appends, link_lines_to}
use Rattle.storm.proofs.totals.write_links.Given as goal

abbrev pub invariant-loop-place : goal.invariant-loop-place
invariant-loop-place g l =
    Appends (g.W.Write.contents l.initial.writer) (g.W.Write.contents l.writer) (link_lines_to l.links l.report.links.items l.place)
