use Rattle.vl_link.proofs.Names.{ℕ, ◌≡◌, ◌<◌, ◌≤◌, length, held_at, GathersSub}
use Rattle.vl_link.proofs.link.gather_subs.Given as goal

abbrev pub invariant-loop-sub : goal.invariant-loop-sub
invariant-loop-sub l = record {
  count : length l.subs ≡ length l.fn.subs;
  done : (s : ℕ) → s < l.sub-index → GathersSub (held_at l.fn.subs s) (held_at l.subs s);
  todo : (s : ℕ) → l.sub-index ≤ s → held_at l.subs s ≡ held_at l.fn.subs s;
}
