use Rattle.afdx_config.proofs.Names.{◌≡◌, Bor, Global, String, map, string_bytes, field_of, key_finding, key_fault, flat_map-map, append-nil, sym, ◌∙◌, keys, arith, common_steps, nat_tests}
use Rattle.afdx_config.proofs.AddLemmas.{each_more, keys_all}
use Rattle.afdx_config.proofs.rows.add_keys.Goals as goal

pub loop-key-preserved : goal.loop-key-preserved
loop-key-preserved c = grind (arith, nat_tests, common_steps, each_more)

pub returns : goal.returns
returns c =
    let all : map (λ (k : Bor (String Global)). k.now) c.loop-key.yielded ≡ keys c.args.table.now =
    sym (append-nil _) ∙ rw c.in-None.ensures.steps.0 at c.loop-key.invariant.left in
    keys_all c.args.place c.args.fields.now c.args.table.now _ _ (rw (
      ← all,
      flat_map-map (λ k. key_finding c.args.place (string_bytes k) (key_fault (map field_of c.args.fields.now) (string_bytes k))) (λ (k : Bor (String Global)). k.now) c.loop-key.yielded,
    ) c.loop-key.invariant.added)
