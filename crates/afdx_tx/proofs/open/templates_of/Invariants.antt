use Rattle.afdx_tx.proofs.Names.{◌≡◌, take, ports_of_sub, AreOfEndSystem, plans_of}
use Rattle.afdx_tx.proofs.open.templates_of.Given as goal

abbrev pub invariant-loop-port : goal.invariant-loop-port
invariant-loop-port l = (plans_of l.own.items ≡ ports_of_sub (take l.port-index l.ports) l.of.link.id.0 l.of.sub)
    × AreOfEndSystem l.of.end_system l.own.items
