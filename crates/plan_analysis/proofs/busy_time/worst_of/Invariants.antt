use Rattle.plan_analysis.proofs.Names.{ℕ, ◌*◌, ◌≤◌, IsMetBy, IsSentIn, IsWithin, arrived, busy_limit, places_at}
use Rattle.plan_analysis.proofs.Busy.{AreCovered}
use Rattle.plan_analysis.proofs.busy_time.worst_of.Given as goal

abbrev pub invariant-loop-flow : goal.invariant-loop-flow
invariant-loop-flow l = record {
  short : l.peak.wait ≤ l.round * busy_limit;
  met : IsMetBy l.round l.own l.rest l.busy l.peak.wait;
  within : IsWithin (places_at l.round l.own) l.busy l.peak.places;
  start : IsSentIn l.round (arrived l.own 0) l.rest 0 l.peak.wait;
  first : places_at l.round l.own 0 ≤ l.peak.places;
  waits : AreCovered (λ (t : ℕ). IsSentIn l.round (arrived l.own t) l.rest t l.peak.wait) l.own l.busy l.flow-index;
  places : AreCovered (λ (t : ℕ). places_at l.round l.own t ≤ l.peak.places) l.own l.busy l.flow-index;
}
