use Rattle.std.proofs.Common.{arith}
use Rattle.std.proofs.lemmas.List.{append_assoc}
use Rattle.plan_report.specs.Report.{link_line, pace_text, queues_text}
use Rattle.plan_report.proofs.check_report.write_link.Goals as goal

pub returns : goal.returns
unfolding link_line pace_text queues_text
returns g c = grind (arith, append_assoc)
