use Rattle.subvl_queue.proofs.Names.{arith, ℕ, List, sym, subst, SenderView, ReceiverView, HasEvery, LacksOne, AreBack, brought_by_all, accepted_of}
use Rattle.subvl_queue.proofs.Senders.{all_brought, back_among, whole_by}
use Rattle.subvl_queue.proofs.receiver.Receiver.gather.Goals as goal

pub returns-then-not-has_every-clause-missing : goal.returns-then-not-has_every-clause-missing
returns-then-not-has_every-clause-missing c =
    subst (λ (y : ℕ × List SenderView). LacksOne y.0 y.1)
    (grind arith) c.if-not-has_every.ensures

pub into_gathered-requires : goal.into_gathered-requires
into_gathered-requires c =
    let every : HasEvery c.args.self.ports c.args.senders.items = subst (λ (y : ℕ × List SenderView). HasEvery y.0 y.1)
    (grind arith) c.if-not-has_every.ensures in
    record {
      every = subst (λ (r : ReceiverView). AreBack r.ports r.back) (sym c.take_all_back.ensures)
          (back_among c.args.self.back (brought_by_all c.args.senders.items) _ (all_brought c.args.senders.items _ every));
    }

pub returns-clause-whole : goal.returns-clause-whole
returns-clause-whole c =
    let every : HasEvery c.args.self.ports c.args.senders.items = subst (λ (y : ℕ × List SenderView). HasEvery y.0 y.1)
    (grind arith) c.if-not-has_every.ensures in
    whole_by c.args.self.back (brought_by_all c.args.senders.items) c.args.self.ports (accepted_of c.into_gathered.result)
    (all_brought c.args.senders.items _ every) (grind arith)
