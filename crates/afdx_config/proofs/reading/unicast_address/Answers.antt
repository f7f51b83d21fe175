use Rattle.afdx_config.proofs.Names.{sym, arith, common_steps, nat_tests}
use Rattle.afdx_config.proofs.AddressLemmas.{address_of-dotted, address_of-none}
use Rattle.afdx_config.proofs.reading.unicast_address.Goals as goal

pub returns-in-Ok-clause-value : goal.returns-in-Ok-clause-value
returns-in-Ok-clause-value c = grind (arith, nat_tests, common_steps, address_of-dotted)

pub returns-in-Err-clause-value : goal.returns-in-Err-clause-value
returns-in-Err-clause-value c = sym (address_of-none c.args.text.now c.in-Err.ensures.value)
