use Rattle.subvl_queue.proofs.Names.{Some}
use Rattle.subvl_queue.proofs.sender.claim_place.Given as goal

abbrev pub ghosts-claim : goal.ghosts-claim
ghosts-claim a = record { most = a.self.now.most; item = Some (a._port, a._bytes.now) }
