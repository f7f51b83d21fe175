use Rattle.plan_analysis.proofs.Names.{◌≡◌, ◌+◌, ◌*◌, ◌≤◌, ◌++◌, length, map, take, All, flat_map, range_with_len, rows_of_link, sub_row, SubRow}
use Rattle.plan_analysis.proofs.memory.sub_rows.Given as goal

abbrev pub invariant-loop-link : goal.invariant-loop-link
invariant-loop-link l = record {
  told : l.rows.items ≡ flat_map (rows_of_link l.config.ports) (take l.link-index l.config.links);
  few : length l.rows.items ≤ 4 * l.link-index;
  small : All (λ (row : SubRow). row.bytes ≤ 4300000) l.rows.items;
}

abbrev pub invariant-loop-sub : goal.invariant-loop-sub
invariant-loop-sub l = record {
  told : l.rows.items ≡ flat_map (rows_of_link l.config.ports) (take l.link-index l.config.links)
      ++ map (sub_row l.config.ports l.link) (range_with_len 0 l.sub);
  few : length l.rows.items ≤ 4 * l.link-index + l.sub;
  small : All (λ (row : SubRow). row.bytes ≤ 4300000) l.rows.items;
}
