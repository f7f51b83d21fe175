use Rattle.vl_link.proofs.Names.{arith, plans_of}
use Rattle.vl_link.proofs.QueueLooks.{done_tells}
use Rattle.vl_link.proofs.sub.Sub.write_next.Goals as goal

pub invariant_of-self-else-is_done : goal.invariant_of-self-else-is_done
invariant_of-self-else-is_done c =
    let tells = done_tells c.self.inside.of (plans_of c.self.inside.ports.items.items) c.self.inside.room.item _ c.is_done.result (grind arith) c.is_done.ensures in
    grind arith
