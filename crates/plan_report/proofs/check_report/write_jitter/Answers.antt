use Rattle.std.proofs.Common.{arith}
use Rattle.std.proofs.lemmas.List.{append_assoc}
use Rattle.plan_report.specs.Report.{jitter_line}
use Rattle.plan_report.proofs.check_report.write_jitter.Goals as goal

pub returns : goal.returns
unfolding jitter_line
returns g c = grind (arith, append_assoc)
