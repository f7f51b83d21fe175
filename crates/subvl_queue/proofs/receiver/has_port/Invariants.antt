use Rattle.subvl_queue.proofs.Names.{◌≡◌, ℕ, ◌<◌, get_or, SenderView}
use Rattle.subvl_queue.proofs.receiver.has_port.Given as goal

abbrev pub invariant-loop-sender : goal.invariant-loop-sender
invariant-loop-sender l = (k : ℕ) (d : SenderView) → k < l.sender-index → (get_or l.senders k d).port ≡ l.port → ⊥
