use Rattle.afdx_config.proofs.Names.{◌≡◌, ◌≤◌, drop, column_after}
use Rattle.afdx_config.proofs.explaining.column_of.Given as goal

abbrev pub invariant-loop-byte : goal.invariant-loop-byte
invariant-loop-byte l = record {
  column : column_after l.characters (drop l.byte-index l.before) ≡ column_after 0 l.before;
  small : l.characters ≤ l.byte-index;
}
