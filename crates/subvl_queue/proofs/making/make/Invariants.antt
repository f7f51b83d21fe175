use Rattle.subvl_queue.proofs.Names.{◌≡◌, ℕ, ◌<◌, length, get_or, vec_len, vec_capacity, SenderView, new_sender, new_receiver, most_bytes}
use Rattle.subvl_queue.proofs.making.make.Given as goal

abbrev pub invariant-loop-port : goal.invariant-loop-port
invariant-loop-port l = record {
  receiver : l.receiver ≡ new_receiver l.initial.receiver.queue l.capacity most_bytes l._port;
  count : length l.senders.items ≡ l._port;
  len : vec_len l.senders ≡ l._port;
  room : vec_capacity l.senders ≡ l.ports;
  senders : (k : ℕ) (d : SenderView) → k < l._port → get_or l.senders.items k d ≡ new_sender l.initial.receiver.queue l.capacity most_bytes l.calls k;
}
