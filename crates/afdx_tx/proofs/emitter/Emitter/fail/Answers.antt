use Rattle.afdx_tx.proofs.SoundEmitter.{sound_with_failing}
use Rattle.afdx_tx.proofs.emitter.Emitter.fail.Goals as goal

pub invariant_of-self : goal.invariant_of-self
invariant_of-self g c = rw c.fail.ensures (
  sound_with_failing _ _ _ _ c.args.net c.self.invariant.0,
  c.self.invariant.1,
  c.self.invariant.2,
  c.self.invariant.3,
)
