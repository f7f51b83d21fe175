use Rattle.subvl_queue.proofs.Names.{mod-add-mod, arith}
use Rattle.subvl_queue.proofs.receiver.fetch.Goals as goal

pub returns-clause-slot : goal.returns-clause-slot
returns-clause-slot c = grind (arith, mod-add-mod)
