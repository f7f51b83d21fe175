use Rattle.afdx_handle.proofs.Names.{◌≡◌, map, take, with_front, port_id}
use Rattle.afdx_handle.proofs.end_system.write_port_ids.Given as goal

abbrev pub invariant-loop-k : goal.invariant-loop-k
invariant-loop-k l = l.ids ≡ with_front (map port_id (take l.k l.ports)) l.fn.ids
