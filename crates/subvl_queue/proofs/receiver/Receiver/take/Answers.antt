use Rattle.subvl_queue.proofs.Names.{ℕ, length, sym, subst, map, ◌∙◌, ap, ReceiverView, HasAt, HaveRows, brought_of}
use Rattle.subvl_queue.proofs.Senders.{finds_listed, have_rows}
use Rattle.subvl_queue.proofs.receiver.Receiver.take.Goals as goal

pub returns-clause-back : goal.returns-clause-back
returns-clause-back c = λ item back.
    let v = c.self.inside.seat.me.0 in
    let here = subst (λ (r : ReceiverView). HasAt r.back (length r.taken) item) (sym c.self.view_is) back in
    finds_listed v v.joined c.self.inside.taken item c.fetch.new.room.item (λ x y next is. next.back y is)
    (subst (λ (n : ℕ). HasAt (map brought_of v.joined) n item) (sym c.self.invariant.3) here) c.fetch.ensures.next c.fetch.ensures.back

pub returns-clause-heard : goal.returns-clause-heard
returns-clause-heard c = λ item heard.
    let v = c.self.inside.seat.me.0 in
    let here = subst (λ (r : ReceiverView). HasAt r.heard (length r.taken) item) (sym c.self.view_is) heard in
    finds_listed v v.heard c.self.inside.taken item c.fetch.new.room.item (λ x y next is. next.heard y is)
    (subst (λ (n : ℕ). HasAt (map brought_of v.heard) n item) (sym c.self.invariant.3) here) c.fetch.ensures.next c.fetch.ensures.heard

pub returns-clause-alone : goal.returns-clause-alone
returns-clause-alone c = λ alone.
    let v = c.self.inside.seat.me.0 in
    let one = c.self.invariant.1 ∙ ap (λ (r : ReceiverView). r.ports) c.self.view_is ∙ alone in
    subst (λ (r : ReceiverView). HaveRows r.heard) c.self.view_is (have_rows v.heard (c.fetch.ensures.row one))
