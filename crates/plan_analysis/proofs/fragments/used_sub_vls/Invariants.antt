use Rattle.plan_analysis.proofs.Names.{◌≡◌, ◌≤◌, users_among, has_port}
use Rattle.plan_analysis.proofs.fragments.used_sub_vls.Given as goal

abbrev pub invariant-loop-sub : goal.invariant-loop-sub
invariant-loop-sub l = record {
  told : l.used ≡ users_among l.sub (has_port l.link l.ports);
  bound : l.used ≤ l.sub;
}
