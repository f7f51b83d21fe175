use Rattle.plan_analysis.proofs.Names.{ℕ, ◌+◌, ◌<◌, List, arith, get_or, subst, sym, Bound, NoPeriod, IsBoundOf, sender_at}
use Rattle.plan_analysis.proofs.Busy.{bound_here, each_push, good_senders}
use Rattle.plan_analysis.proofs.traffic.traffic_bounds.Goals as goal

pub bound_of-requires-clause-good : goal.bound_of-requires-clause-good
bound_of-requires-clause-good c = good_senders c.args.config.now c.args.senders.now c.ports.ensures.valid c.requires.senders

pub loop-sender-preserved : goal.loop-sender-preserved
loop-sender-preserved c =
    let Own : ℕ → Bound → Type 0 = λ i bound. IsBoundOf c.args.lateness c.args.config.now c.args.senders.now (sender_at c.args.senders.now i) bound in
    let own : Own c.loop-sender.sender-index c.in_ok-bound.bound =
    bound_here c.args.lateness c.args.config.now c.args.senders.now c.loop-sender.sender-index _ c.in_ok-bound.bound
    (omega (arith, c.loop-sender-test.true, c.loop-sender.auto.sender-index-end)) c.in_ok-bound.ensures in
    record {
      count = grind arith;
      each = subst (λ (bounds : List Bound). (i : ℕ) → i < c.loop-sender.sender-index + 1 → Own i (get_or bounds i NoPeriod)) (sym c.in_ok-push.ensures.items)
          (each_push Own c.loop-sender.bounds.items c.in_ok-bound.bound NoPeriod c.loop-sender.sender-index c.loop-sender.invariant.count
          c.loop-sender.invariant.each own);
    }
