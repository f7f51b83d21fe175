use Rattle.plan_analysis.proofs.Names.{ℕ, ◌≡◌, ◌<◌, length, get_or, NoPeriod, IsBoundOf, sender_at}
use Rattle.plan_analysis.proofs.traffic.traffic_bounds.Given as goal

abbrev pub invariant-loop-sender : goal.invariant-loop-sender
invariant-loop-sender l = record {
  count : length l.bounds.items ≡ l.sender-index;
  each : (i : ℕ) → i < l.sender-index → IsBoundOf l.lateness l.config l.senders (sender_at l.senders i) (get_or l.bounds.items i NoPeriod);
}
