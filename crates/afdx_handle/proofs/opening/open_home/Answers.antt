use Rattle.afdx_handle.proofs.Names.{rules}
use Rattle.afdx_handle.proofs.opening.open_home.Goals as goal

-- at half of its limits the search finds this only if it is stated here
pub returns-in-Some-ok-clause-opened : goal.returns-in-Some-ok-clause-opened
returns-in-Some-ok-clause-opened c = search rules
