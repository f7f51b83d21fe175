use Rattle.afdx_config.proofs.AddressLemmas.{addresses_are_dotted as both_ways}
use Rattle.afdx_config.proofs.laws.addresses_are_dotted.Goals as goal

pub returns : goal.returns
returns c = both_ways
