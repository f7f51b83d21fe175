use Rattle.std.proofs.Common.{◌≤◌, ◌<◌, ℕ, length, slice_index}
use Rattle.interface_file.proofs.schedule.earliest.Given as goal

abbrev pub invariant-loop-k : goal.invariant-loop-k
invariant-loop-k l = (l.found < length l.times)
    × ((j : ℕ) → j < l.k → slice_index l.times l.found ≤ slice_index l.times j)
