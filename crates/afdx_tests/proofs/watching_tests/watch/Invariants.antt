use Rattle.std.proofs.Common.{◌≤◌}
use Rattle.status_board.specs.Views.{links_of}
use Rattle.afdx_tests.proofs.watching_tests.watch.Given as goal

abbrev pub invariant-loop : goal.invariant-loop
invariant-loop g l = 64 ≤ links_of l.monitor
