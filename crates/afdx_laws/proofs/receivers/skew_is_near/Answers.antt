use Rattle.afdx_laws.proofs.Skewed.{skew_is_near_holds, comes_in_time}
use Rattle.afdx_laws.proofs.receivers.skew_is_near.Goals as goal

pub returns-clause-near : goal.returns-clause-near
returns-clause-near c = skew_is_near_holds

pub returns-clause-worked : goal.returns-clause-worked
returns-clause-worked c = comes_in_time
