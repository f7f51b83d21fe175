use Rattle.afdx_config.proofs.Names.{◌≡◌, ◌++◌, Bor, Global, String, map, string_bytes, field_of, flat_map, key_finding, key_fault, Adds, keys}
use Rattle.afdx_config.proofs.rows.add_keys.Given as goal

abbrev pub invariant-loop-key : goal.invariant-loop-key
invariant-loop-key l = record {
  left : map (λ (k : Bor (String Global)). k.now) l.yielded ++ l.key-iterator ≡ keys l.table;
  added : Adds l.initial.found l.found (flat_map (λ k. key_finding l.place (string_bytes k.now)
      (key_fault (map field_of l.fields) (string_bytes k.now))) l.yielded);
}
