use Rattle.judge.proofs.Names.{◌≡◌, ◌≤◌, ◌+◌, ◌-◌, map, length, drop, A, B, recorded, found_from, findings, from_places, BeginsOn}
use Rattle.judge.proofs.merging.judge_packets.Given as goal

abbrev pub invariant-packets : goal.invariant-packets
invariant-packets l = record {
  in_a : l.on_a ≤ length l.a;
  in_b : l.on_b ≤ length l.b;
  first_a : BeginsOn l.alone A (drop l.on_a (map recorded l.a));
  first_b : BeginsOn l.alone B (drop l.on_b (map recorded l.b));
  same : found_from (from_places l.alone (map recorded l.a) l.on_a (map recorded l.b) l.on_b) l.judge l.found.items
      ≡ findings l.fn.plan l.fn.options (from_places l.alone (map recorded l.a) 0 (map recorded l.b) 0);
}

abbrev pub decreases-packets : goal.decreases-packets
decreases-packets l = (length l.a - l.on_a) + (length l.b - l.on_b)
