use Rattle.afdx_laws.proofs.Names.{arith}
use Rattle.afdx_laws.proofs.Receiving.{exactly_once_holds}
use Rattle.afdx_laws.proofs.WorkedMessage.{accepts_each_once, needs_numbers, needs_a_lag}
use Rattle.afdx_laws.proofs.receivers.exactly_once.Goals as goal

pub returns : goal.returns
returns c = record {
  once = exactly_once_holds;
  worked = accepts_each_once;
  numbers = needs_numbers;
  beginnings = grind arith;
  lag = needs_a_lag;
}
