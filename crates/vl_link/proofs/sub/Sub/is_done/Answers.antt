use Rattle.vl_link.proofs.Names.{arith, plans_of}
use Rattle.vl_link.proofs.QueueLooks.{done_tells}
use Rattle.vl_link.proofs.sub.Sub.is_done.Goals as goal

pub returns-else-is_done : goal.returns-else-is_done
returns-else-is_done c =
    let tells = done_tells c.self.inside.of (plans_of c.self.inside.ports.items.items) c.self.inside.room.item _ c.is_done.result (grind arith) c.is_done.ensures in
    grind arith

pub returns-then-is_done : goal.returns-then-is_done
returns-then-is_done c =
    let tells = done_tells c.self.inside.of (plans_of c.self.inside.ports.items.items) c.self.inside.room.item _ c.is_done.result (grind arith) c.is_done.ensures in
    grind arith
