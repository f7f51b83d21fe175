use Rattle.afdx_frame.proofs.Buffers.{not_before_holds}
use Rattle.afdx_frame.proofs.Worked.{misses_the_middle}
use Rattle.afdx_frame.proofs.laws.not_before.Goals as goal

pub returns : goal.returns
returns c = record { none = not_before_holds; worked = misses_the_middle }
