use Rattle.judge.proofs.Names.{◌≡◌, ◌-◌, ◌≤◌, vec_len, replicate, new_link}
use Rattle.judge.proofs.judge.make_links.Given as goal

abbrev pub invariant-links : goal.invariant-links
invariant-links l = record {
  within : vec_len l.links ≤ l.count;
  same : l.links.items ≡ replicate (vec_len l.links) (new_link l.late l.arinc);
}

abbrev pub decreases-links : goal.decreases-links
decreases-links l = l.count - vec_len l.links
