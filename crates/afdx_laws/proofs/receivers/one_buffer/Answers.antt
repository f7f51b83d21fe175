use Rattle.afdx_laws.proofs.Names.{rules}
use Rattle.afdx_laws.proofs.OneBuffer.{one_buffer, handed_need_one, legal_need_one, legal_need_one_despite}
use Rattle.afdx_laws.proofs.WorkedPieces.{needs_in_turn, holds_a_frame}
use Rattle.afdx_laws.proofs.receivers.one_buffer.Goals as goal

pub returns : goal.returns
returns c = search (rules, one_buffer, handed_need_one, legal_need_one, legal_need_one_despite, needs_in_turn, holds_a_frame)
