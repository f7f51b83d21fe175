use Rattle.afdx_tx.proofs.Names.{arith}
use Rattle.afdx_tx.proofs.NothingLeft.{all_done}
use Rattle.afdx_tx.proofs.Conforming.{sound_conforms}
use Rattle.afdx_tx.proofs.emitter.Emitter+A+B+Drain.is_done.Goals as goal

pub returns-clause-done : goal.returns-clause-done
returns-clause-done g c =
    rw (← c.self.view_is) (all_done c.all_done.result _ _ _ _ c.self.invariant.0 (grind arith)
    (grind arith))

pub returns-clause-conforms : goal.returns-clause-conforms
returns-clause-conforms g c = rw (← c.self.view_is) (sound_conforms _ c.self.invariant.0)
