use Rattle.afdx_frame.proofs.Buffers.{any_order_holds}
use Rattle.afdx_frame.proofs.Worked.{three_pieces}
use Rattle.afdx_frame.proofs.laws.any_order.Goals as goal

pub returns : goal.returns
returns c = record { given = any_order_holds; worked = three_pieces }
