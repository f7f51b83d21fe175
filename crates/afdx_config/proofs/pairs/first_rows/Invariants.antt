use Rattle.afdx_config.proofs.Names.{◌≡◌, drop, position_from, get, is_key}
use Rattle.afdx_config.proofs.pairs.first_rows.Given as goal

abbrev pub invariant-loop-i : goal.invariant-loop-i
invariant-loop-i g l = (q : g.row.K.Denot) → get g.K.Ord.cmp l.rows q ≡ position_from (is_key g.K.Ord.cmp q) l.i (drop l.i l.keys)
