use Rattle.std.proofs.Common.{◌≡◌, None}
use Rattle.subvl_queue.specs.Messages.{room_with}
use Rattle.part_calls.proofs.queues.try_queue.Given as goal

abbrev pub invariant-loop-place : goal.invariant-loop-place
invariant-loop-place l = l.sender.most ≡ 8192

abbrev pub invariant-loop-place-2 : goal.invariant-loop-place-2
invariant-loop-place-2 l = l.room ≡ room_with l.receiver.most None
