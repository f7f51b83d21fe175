use Rattle.plan_analysis.proofs.Names.{ℕ, ◌*◌, ◌<◌, ◌≤◌, IsMetBy, IsSentIn, IsWithin, arrived, busy_limit, later_at, places_at}
use Rattle.plan_analysis.proofs.busy_time.worst_at.Given as goal

abbrev pub invariant-loop-turn : goal.invariant-loop-turn
invariant-loop-turn l = record {
  short : l.worst.wait ≤ l.round * busy_limit;
  met : IsMetBy l.round l.own l.rest l.busy l.worst.wait;
  within : IsWithin (places_at l.round l.own) l.busy l.worst.places;
  longer : l.fn.peak.wait ≤ l.worst.wait;
  more : l.fn.peak.places ≤ l.worst.places;
  waits : (turn : ℕ) → turn < l.turn
      → IsSentIn l.round (arrived l.own (later_at l.flow turn)) l.rest (later_at l.flow turn) l.worst.wait;
  places : (turn : ℕ) → turn < l.turn → places_at l.round l.own (later_at l.flow turn) ≤ l.worst.places;
}
