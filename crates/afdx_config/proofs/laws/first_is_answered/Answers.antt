use Rattle.afdx_config.proofs.FirstLemmas.{first_is_answered as of_each_text}
use Rattle.afdx_config.proofs.laws.first_is_answered.Goals as goal

pub returns : goal.returns
returns c = of_each_text
