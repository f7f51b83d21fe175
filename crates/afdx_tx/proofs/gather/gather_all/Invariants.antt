use Rattle.afdx_tx.proofs.Names.{ℕ, ◌≡◌, ◌<◌, ◌≤◌, length, link_at, GathersLink}
use Rattle.afdx_tx.proofs.gather.gather_all.Given as goal

abbrev pub invariant-loop-link : goal.invariant-loop-link
invariant-loop-link l = record {
  count : length l.links ≡ length l.fn.links;
  done : (k : ℕ) → k < l.link-index → GathersLink (link_at l.fn.links k) (link_at l.links k);
  todo : (k : ℕ) → l.link-index ≤ k → link_at l.links k ≡ link_at l.fn.links k;
}
