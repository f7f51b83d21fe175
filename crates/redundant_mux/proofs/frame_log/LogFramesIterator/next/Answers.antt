use Rattle.redundant_mux.proofs.LogLemmas.{kept_tail}
use Rattle.redundant_mux.proofs.frame_log.LogFramesIterator.next.Goals as goal

pub invariant_of-self : goal.invariant_of-self
invariant_of-self c =
    rw c.split_at.ensures.back (kept_tail c.in_ok-mark.mark.now c.in_ok-mark.marks.now c.self.inside.bytes.now
    (rw c.in_ok-mark.ensures.cases.0 at c.self.invariant))
