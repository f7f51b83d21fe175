use Rattle.subvl_queue.proofs.Names.{None}
use Rattle.subvl_queue.proofs.receiver.fetch.Given as goal

abbrev pub ghosts-is_ready : goal.ghosts-is_ready
ghosts-is_ready a = record { most = a.self.now.most; item = None }
