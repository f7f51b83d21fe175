use Rattle.std.proofs.Common.{take}
use Rattle.std.specs.Io.KnownBytes.{Appends}
use Rattle.std.specs.List.{flat_map}
use Rattle.plan_report.specs.AnalysisText.{sub_line}
use Rattle.plan_report.proofs.analysis_text.write_subs.Given as goal

abbrev pub invariant-loop-sub : goal.invariant-loop-sub
invariant-loop-sub g l = Appends (g.W.Write.contents l.initial.writer) (g.W.Write.contents l.writer) (flat_map sub_line (take l.sub-index l.subs))
