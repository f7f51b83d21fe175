use Rattle.subvl_queue.proofs.Names.{arith, rules}
use Rattle.subvl_queue.proofs.Senders.{goes_on_by}
use Rattle.subvl_queue.proofs.receiver.Gathered.take.Goals as goal

pub invariant_of-self : goal.invariant_of-self
invariant_of-self c =
    let kept = c.self.invariant in
    let got = c.fetch.ensures in (
      grind arith,
      goes_on_by _ _ _ c.self.inside.seat.me.0 _ c.fetch.new.room.item kept.1 got.some got.next got.counted got.none got.unchanged,
      (search rules, search rules),
    )
