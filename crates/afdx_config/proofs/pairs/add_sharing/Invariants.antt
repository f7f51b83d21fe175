use Rattle.afdx_config.proofs.Names.{take, each_row, pair_finding, Adds, Port, position, share_unicast}
use Rattle.afdx_config.proofs.pairs.add_sharing.Given as goal

abbrev pub invariant-loop-i : goal.invariant-loop-i
invariant-loop-i l = Adds l.initial.found l.found
    (each_row (λ k p. pair_finding l.fault l.key Port k (position (λ e. share_unicast e p) l.ports)) 1 (take l.i l.ports))
