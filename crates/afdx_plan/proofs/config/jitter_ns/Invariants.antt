use Rattle.std.proofs.Common.{◌≡◌, ◌+◌, ◌*◌, ◌≤◌, sum_by, take}
use Rattle.afdx_plan.proofs.config.jitter_ns.Given as goal

abbrev pub invariant-loop-link : goal.invariant-loop-link
invariant-loop-link l = record {
  told : l.bytes ≡ sum_by (λ link. 20 + link.lmax) (take l.link-index l.links);
  bound : l.bytes ≤ 1538 * l.link-index;
}
