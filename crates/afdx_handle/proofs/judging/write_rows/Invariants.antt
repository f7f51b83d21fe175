use Rattle.std.proofs.Common.{◌≡◌, map, take}
use Rattle.afdx_handle.specs.Listing.{with_front}
use Rattle.afdx_handle.specs.Rows.{row_of}
use Rattle.afdx_handle.proofs.judging.write_rows.Given as goal

abbrev pub invariant-loop-k : goal.invariant-loop-k
invariant-loop-k l = l.rows ≡ with_front (map row_of (take l.k l.found)) l.fn.rows
