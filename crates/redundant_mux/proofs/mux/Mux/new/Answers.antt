use Rattle.redundant_mux.proofs.MirroredLines.{fresh_in_step, in_step_failing}
use Rattle.redundant_mux.proofs.mux.Mux.new.Goals as goal

pub invariant_of-result : goal.invariant_of-result
invariant_of-result g c =
    rw (c.requires.a_empty, c.requires.b_empty, c.requires.a, c.requires.b, c.new.ensures)
    (in_step_failing _ _ _ fresh_in_step)
