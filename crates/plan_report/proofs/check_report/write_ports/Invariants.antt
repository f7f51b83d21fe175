use Rattle.std.proofs.Common.{take}
use Rattle.std.specs.Io.KnownBytes.{Appends}
use Rattle.std.specs.List.{flat_map}
use Rattle.plan_report.specs.Report.{port_line}
use Rattle.plan_report.proofs.check_report.write_ports.Given as goal

abbrev pub invariant-loop-port : goal.invariant-loop-port
invariant-loop-port g l = Appends (g.W.Write.contents l.initial.writer) (g.W.Write.contents l.writer) (flat_map port_line (take l.port-index l.ports))
