use Rattle.afdx_config.proofs.Names.{◌≡◌, ℕ, List, drop, get, address_cmp, first_at}
use Rattle.afdx_config.proofs.pairs.first_ports.Given as goal

abbrev pub invariant-loop-i : goal.invariant-loop-i
invariant-loop-i l = (q : ℕ × List ℕ) → get address_cmp l.firsts q ≡ first_at q l.i (drop l.i l.ports)
