use Rattle.storm.proofs.Names.{◌≡◌, ◌≤◌, length, take, entries, on_both}
use Rattle.storm.proofs.both.count_on_both.Given as goal

abbrev pub invariant-loop-one : goal.invariant-loop-one
invariant-loop-one l = record {
  counted : l.count ≡ length (on_both l.links (take l.one-index (entries l.handed)));
  most : l.count ≤ l.one-index;
}
