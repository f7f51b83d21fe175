use Rattle.afdx_handle.proofs.Names.{◌≡◌, length, vec_capacity}
use Rattle.afdx_handle.proofs.opening.empty_boxes.Given as goal

abbrev pub invariant-loop-port : goal.invariant-loop-port
invariant-loop-port l = record {
  count : length l.boxes.items ≡ l._port;
  room : vec_capacity l.boxes ≡ l.ports;
}
