use Rattle.judge.proofs.Names.{◌≡◌, length, found_left}
use Rattle.judge.proofs.judge.add_left.Given as goal

abbrev pub invariant-links : goal.invariant-links
invariant-links l = record {
  matched : length l.rest ≡ length l.left;
  same : found_left l.nearness l.left l.rest l.found.items
      ≡ found_left l.nearness l.plans l.links l.initial.found.items;
}

abbrev pub decreases-links : goal.decreases-links
decreases-links l = length l.left
