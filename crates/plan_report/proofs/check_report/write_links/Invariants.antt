use Rattle.std.proofs.Common.{take}
use Rattle.std.specs.Io.KnownBytes.{Appends}
use Rattle.std.specs.List.{flat_map}
use Rattle.plan_report.specs.Report.{link_line}
use Rattle.plan_report.proofs.check_report.write_links.Given as goal

abbrev pub invariant-loop-link : goal.invariant-loop-link
invariant-loop-link g l = Appends (g.W.Write.contents l.initial.writer) (g.W.Write.contents l.writer) (flat_map link_line (take l.link-index l.links))
