use Rattle.afdx_tx.proofs.Names.{ℕ, ◌<◌, HasPlace}
use Rattle.afdx_tx.proofs.gather.has_every_place.Given as goal

abbrev pub invariant-loop-place : goal.invariant-loop-place
invariant-loop-place l = (p : ℕ) → p < l.place → HasPlace l.ports p
