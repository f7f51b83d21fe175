use Rattle.std.proofs.Common.{length, subst}
use Rattle.redundant_mux.specs.Memory.{FrameLog, LacksRoom}
use Rattle.redundant_mux.proofs.LogLemmas.{lacks_room}
use Rattle.redundant_mux.proofs.frame_log.FrameLogNetwork.hand.Goals as goal

pub returns-then-not-keep-clause-only : goal.returns-then-not-keep-clause-only
returns-then-not-keep-clause-only c =
    subst (λ (log : FrameLog). LacksRoom log (length c.args.frame.now)) c.self.view_is
    (lacks_room _ _ _ _ _ c.self.invariant (c.keep.ensures.full c.if-not-keep.true))
