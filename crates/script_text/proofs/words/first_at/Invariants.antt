use Rattle.script_text.proofs.Names.{◌≡◌, ℕ, ◌<◌, get_or, not, is_blank}
use Rattle.script_text.proofs.words.first_at.Given as goal

abbrev pub invariant-loop-place : goal.invariant-loop-place
invariant-loop-place l = (k : ℕ) → k < l.place → is_blank (get_or l.line k 0) ≡ not l.blank
