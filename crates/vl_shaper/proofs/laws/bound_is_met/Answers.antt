use Rattle.vl_shaper.proofs.Waits.{bound_is_met_holds}
use Rattle.vl_shaper.proofs.WorkedTurns.{leaves_one_behind}
use Rattle.vl_shaper.proofs.laws.bound_is_met.Goals as goal

pub returns : goal.returns
returns c = record { met = bound_is_met_holds; worked = leaves_one_behind }
