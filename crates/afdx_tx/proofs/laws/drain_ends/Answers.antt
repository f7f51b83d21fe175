use Rattle.afdx_tx.proofs.DrainEnding.{drain_ends_holds}
use Rattle.afdx_tx.proofs.WorkedDrain.{drains_one, needs_its_polls}
use Rattle.afdx_tx.proofs.laws.drain_ends.Goals as goal

pub returns-clause-ends : goal.returns-clause-ends
returns-clause-ends c = drain_ends_holds

pub returns-clause-worked : goal.returns-clause-worked
returns-clause-worked c = drains_one

pub returns-clause-needed : goal.returns-clause-needed
returns-clause-needed c = needs_its_polls
