use Rattle.subvl_queue.proofs.Names.{◌≡◌, ◌++◌, brought_by_all}
use Rattle.subvl_queue.proofs.receiver.take_all_back.Given as goal

abbrev pub invariant-loop-sender : goal.invariant-loop-sender
invariant-loop-sender l = l.receiver ≡ record l.initial.receiver { back = l.initial.receiver.back ++ brought_by_all l.yielded }
