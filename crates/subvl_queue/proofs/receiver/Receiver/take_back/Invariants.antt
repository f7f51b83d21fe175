use Rattle.subvl_queue.proofs.receiver.Receiver.take_back.Given as goal

abbrev pub ghosts-take_in : goal.ghosts-take_in
ghosts-take_in a = record { looks_then = a.other.me.0.looks_then; asks_then = a.other.me.0.asks_then }
