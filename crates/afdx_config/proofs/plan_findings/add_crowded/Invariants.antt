use Rattle.afdx_config.proofs.Names.{Limit, codes, ◌≡◌, ℕ, take, count_by, unwrap_or, each_row, crowd_finding, Adds, get, sub_cmp, is_on_sub}
use Rattle.afdx_config.proofs.plan_findings.add_crowded.Given as goal

abbrev pub invariant-loop-i : goal.invariant-loop-i
invariant-loop-i l = record {
  findings : Adds l.initial.found l.found (each_row (crowd_finding Limit (codes "sub") l.ports) 1 (take l.i l.ports));
  counts : (q : ℕ × ℕ) → unwrap_or (get sub_cmp l.counts q) 0 ≡ count_by (is_on_sub q) (take l.i l.ports);
}
