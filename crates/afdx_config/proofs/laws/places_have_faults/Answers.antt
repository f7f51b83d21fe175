use Rattle.afdx_config.proofs.PlaceLemmas.{places_have_faults as of_each_place}
use Rattle.afdx_config.proofs.laws.places_have_faults.Goals as goal

pub returns : goal.returns
returns c = of_each_place
