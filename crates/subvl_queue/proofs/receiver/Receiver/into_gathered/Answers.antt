use Rattle.subvl_queue.proofs.Names.{arith, ℕ, List, sym, subst, brought_back, AreItems, ReceiverView, AreBack, IsWhole}
use Rattle.subvl_queue.proofs.Parts.{are_items}
use Rattle.subvl_queue.proofs.Senders.{joined_for, is_whole, accepted_is}
use Rattle.subvl_queue.proofs.receiver.Receiver.into_gathered.Goals as goal

pub gather-drawn-requires-clause-every : goal.gather-drawn-requires-clause-every
gather-drawn-requires-clause-every c =
    let every : AreBack c.self.inside.ports (brought_back c.self.inside.seat.me.0) =
    subst (λ (r : ReceiverView). AreBack r.ports r.back) (sym c.self.view_is) c.requires.every in
    λ k lt. joined_for c.self.inside.seat.me.0 c.self.inside.ports every k (grind arith)

pub returns-clause-whole : goal.returns-clause-whole
returns-clause-whole c =
    let v = c.self.inside.seat.me.0 in
    let log = c.gather-drawn.ensures.log in
    let every : AreBack c.self.inside.ports (brought_back v) = subst (λ (r : ReceiverView). AreBack r.ports r.back) (sym c.self.view_is) c.requires.every in
    let accepted = accepted_is _ c.self.inside.taken v c.gather-drawn.new.seat.me.0 log.0 log.2 c.self.invariant.3 log.1 in
    subst (λ (y : ReceiverView × List (ℕ × List ℕ)). IsWhole y.0.ports y.0.back y.1) (λ k. (c.self.view_is k, accepted k))
    (is_whole _ c.self.inside.ports v log.0 every log.2 c.self.invariant.1)

pub returns-clause-items : goal.returns-clause-items
returns-clause-items c =
    let kept = c.self.invariant in
    let log = c.gather-drawn.ensures.log in
    let accepted = accepted_is _ c.self.inside.taken c.self.inside.seat.me.0 c.gather-drawn.new.seat.me.0 log.0 log.2 kept.3 log.1 in
    subst (λ (y : ℕ × List (ℕ × List ℕ)). AreItems y.0 y.1) (grind arith)
    (are_items c.self.inside.ports 0 log.0 (grind arith) log.2.good)
