use Rattle.judge.proofs.Names.{◌≡◌, ◌≤◌, ◌+◌, ◌-◌, map, length, drop, recorded, of_net}
use Rattle.judge.proofs.merging.place_from.Given as goal

abbrev pub invariant-others : goal.invariant-others
invariant-others l = record {
  after : l.from ≤ l.place;
  within : l.place ≤ length l.packets;
  same : of_net l.alone l.net (l.place + 1) (drop l.place (map recorded l.packets))
      ≡ of_net l.alone l.net (l.from + 1) (drop l.from (map recorded l.packets));
}

abbrev pub decreases-others : goal.decreases-others
decreases-others l = length l.packets - l.place
