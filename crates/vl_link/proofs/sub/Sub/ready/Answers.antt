use Rattle.vl_link.proofs.Names.{arith, refl, ◌+◌, ◌%◌, inr, plans_of, seen_of}
use Rattle.vl_link.proofs.QueueLooks.{done_tells, keeps_sub, starts_sent}
use Rattle.vl_link.proofs.sub.Sub.ready.Goals as goal

pub returns-then-not-is_done : goal.returns-then-not-is_done
returns-then-not-is_done c =
    let tells = done_tells c.self.inside.of (plans_of c.self.inside.ports.items.items) c.self.inside.room.item _ c.is_done.result (grind arith) c.is_done.ensures in
    grind arith

pub returns-then-not-take : goal.returns-then-not-take
returns-then-not-take c =
    let tells = done_tells c.self.inside.of (plans_of c.self.inside.ports.items.items) c.self.inside.room.item _ c.is_done.result (grind arith) c.is_done.ensures in
    grind arith

pub invariant_of-self-2 : goal.invariant_of-self-2
invariant_of-self-2 c =
    let sub = keeps_sub c.self.inside.of (plans_of c.self.inside.ports.items.items) c.self.inside.room c.take.new.room.most c.take.new.room.item
    c.self.inside.rest c.new-self-inside.result (seen_of c.self.inside.queue) (seen_of c.take.new.self) c.self.inside.place ((c.self.inside.place + 1) % 16384) c.self.invariant.0
    (grind arith) c.take.ensures.some c.take.ensures.item (c.take.ensures.most) (grind arith) refl in
    (sub, c.self.invariant.1)

pub returns : goal.returns
returns c =
    let tells = done_tells c.self.inside.of (plans_of c.self.inside.ports.items.items) c.self.inside.room.item _ c.is_done.result (grind arith) c.is_done.ensures in
    inr (starts_sent _ _ c.take.new.room.item c.new-self-inside.result c.self.inside.place (grind arith) (grind arith) (grind arith) (grind arith)
    (grind arith) (grind arith) (grind arith) (grind arith) (grind arith) (grind arith))
