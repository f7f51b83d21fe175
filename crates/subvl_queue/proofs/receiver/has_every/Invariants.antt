use Rattle.subvl_queue.proofs.Names.{ℕ, ◌<◌, HasPort}
use Rattle.subvl_queue.proofs.receiver.has_every.Given as goal

abbrev pub invariant-loop-port : goal.invariant-loop-port
invariant-loop-port l = (p : ℕ) → p < l.port → HasPort l.senders p
