use Rattle.afdx_tx.proofs.Names.{arith, sym, subst, Lines, IsSound}
use Rattle.afdx_tx.proofs.KeptLinks.{reaches_none}
use Rattle.afdx_tx.proofs.OpenedPorts.{fresh_sound}
use Rattle.afdx_tx.proofs.SoundEmitter.{sound_failing}
use Rattle.afdx_tx.proofs.emitter.Emitter+A+B.over.Goals as goal

pub invariant_of-result : goal.invariant_of-result
invariant_of-result g c = rw c.into_boxed_slice.ensures.items (
  subst (λ (lines : Lines). IsSound c.args.config c.args.links.items lines 0) (sym c.new.ensures)
      (sound_failing _ _ _ _ _ _ (fresh_sound c.args.config c.args.links.items c.requires.valid c.requires.fresh)),
  grind (arith, reaches_none),
  grind arith,
  grind arith,
)
