use Rattle.storm.proofs.Names.{◌≡◌, length, take, sum_by, PortView}
use Rattle.storm.proofs.storm_report.count_accepted.Given as goal

abbrev pub invariant-loop-port : goal.invariant-loop-port
invariant-loop-port l = l.accepted ≡ sum_by (λ (port : PortView). length port.sender.own) (take l.port-index l.ports)
