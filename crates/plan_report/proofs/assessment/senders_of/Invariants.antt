use Rattle.std.proofs.Common.{◌≡◌, map, take}
use Rattle.std.specs.Prelude.{All}
use Rattle.plan_analysis.specs.Traffic.{IsGoodPeriod}
use Rattle.plan_analysis.specs.declared.traffic.Sender.{Sender}
use Rattle.plan_report.proofs.assessment.senders_of.Given as goal

abbrev pub invariant-loop-port : goal.invariant-loop-port
invariant-loop-port l = record {
  ports : map (λ (s : Sender). s.port) l.senders.items ≡ take l.port-index l.config.ports;
  periods : All IsGoodPeriod l.senders.items;
}
