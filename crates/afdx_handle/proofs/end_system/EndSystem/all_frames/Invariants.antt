use Rattle.afdx_handle.proofs.Names.{◌≡◌, concat, first_made, bytes_of, lengths_of, with_front}
use Rattle.afdx_handle.proofs.end_system.EndSystem.all_frames.Given as goal

abbrev pub invariant-loop-k : goal.invariant-loop-k
invariant-loop-k l = record {
  at : l.at ≡ bytes_of (first_made l.net l.k l.self);
  buffer : l.buffer ≡ with_front (concat (first_made l.net l.k l.self)) l.fn.buffer;
  lengths : l.lengths ≡ with_front (lengths_of (first_made l.net l.k l.self)) l.fn.lengths;
}
