use Rattle.plan_analysis.proofs.Names.{◌≡◌, ◌+◌, ◌≤◌, users_among, is_outside}
use Rattle.plan_analysis.proofs.groups.round_of.Given as goal

abbrev pub invariant-loop-other : goal.invariant-loop-other
invariant-loop-other l = record {
  told : l.turns ≡ 1 + users_among l.other (is_outside l.link l.config.ports l.sub l.mates);
  bound : l.turns ≤ 1 + l.other;
}
