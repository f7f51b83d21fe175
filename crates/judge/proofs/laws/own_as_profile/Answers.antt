use Rattle.judge.proofs.Exchange.{own_as_profile}
use Rattle.judge.proofs.laws.own_as_profile.Goals as goal

pub returns : goal.returns
returns c = record { kept = own_as_profile }
