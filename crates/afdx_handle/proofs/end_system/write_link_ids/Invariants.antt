use Rattle.afdx_handle.proofs.Names.{◌≡◌, map, take, with_front, link_id}
use Rattle.afdx_handle.proofs.end_system.write_link_ids.Given as goal

abbrev pub invariant-loop-k : goal.invariant-loop-k
invariant-loop-k l = l.ids ≡ with_front (map link_id (take l.k l.links)) l.fn.ids
