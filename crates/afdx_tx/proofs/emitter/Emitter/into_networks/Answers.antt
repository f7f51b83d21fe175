use Rattle.afdx_tx.proofs.Conforming.{of_ports, sound_conforms}
use Rattle.afdx_tx.proofs.emitter.Emitter.into_networks.Goals as goal

pub returns-clause-conforms : goal.returns-clause-conforms
returns-clause-conforms g c = rw (← c.self.view_is) (sound_conforms _ c.self.invariant.0)

pub returns-clause-allowed : goal.returns-clause-allowed
returns-clause-allowed g c = rw (← c.self.view_is) (of_ports g.P.Phase.gathered _ (sound_conforms _ c.self.invariant.0) c.self.invariant.3)
