use Rattle.afdx_tx.proofs.Names.{◌≡◌, ℕ, ◌<◌, get_or, PortView}
use Rattle.afdx_tx.proofs.gather.has_place.Given as goal

abbrev pub invariant-loop-port : goal.invariant-loop-port
invariant-loop-port l = (k : ℕ) (d : PortView) → k < l.port-index → (get_or l.ports k d).place ≡ l.place → ⊥
