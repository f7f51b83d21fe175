use Rattle.afdx_handle.proofs.Names.{◌≡◌, ◌≤◌, ◌*◌, first_made, bytes_of}
use Rattle.afdx_handle.proofs.end_system.EndSystem.made_bytes.Given as goal

abbrev pub invariant-loop-k : goal.invariant-loop-k
invariant-loop-k l = record {
  bytes : l.total ≡ bytes_of (first_made l.net l.k l.self);
  few : l.total ≤ 1514 * l.k;
}
