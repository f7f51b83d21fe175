use Rattle.vl_link.proofs.Names.{ℕ, ◌<◌, true, held_at, TellsSubDone}
use Rattle.vl_link.proofs.link.subs_done.Given as goal

abbrev pub invariant-loop-sub : goal.invariant-loop-sub
invariant-loop-sub l = (s : ℕ) → s < l.sub-index → TellsSubDone true (held_at l.fn.subs s)
