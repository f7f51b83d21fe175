-- The names of other crates, and of this one's definitions, that the proofs here use.
pub use Rattle.std.proofs.Common.{BTreeMap, Bool, Bor, Global, List, None, Option, Some, String, [], ap, append-nil, append_assoc, arith, codes, cond, drop, eq-eqb, false, get_or, if◌then◌else◌, is_none, is_some, length, lit≤, map, nat_eq, nat_le, not, option_and_then, option_map, refl, rules, slice_get, slice_index, string_bytes, subst, suc, zero, count_by, unwrap_or, sym, take, true, ℕ, ◌&&◌, ◌++◌, ◌+◌, ◌-◌, ◌<◌, ◌||◌, ◌∙◌, ◌∷◌, ◌≡◌, ◌≤◌, length-append, Equal, ◌^◌, add-zero}
pub use Rattle.std.proofs.Math.Bool.{and-false, and-or_distrib_left, and-true, or-false, or-true}
pub use Rattle.std.proofs.NetLemmas.Ipv4.{read_ipv4_complete, read_ipv4_sound}
pub use Rattle.std.proofs.NetLemmas.Options.{and_then_some, cond_some}
pub use Rattle.std.proofs.lemmas.Bool.{eqb-true, or_parts}
pub use Rattle.std.proofs.lemmas.Bool.Decides.{nat_tests}
pub use Rattle.std.proofs.lemmas.Grind.{common_steps, flat_map-append, fold-append}
pub use Rattle.std.proofs.lemmas.Iterator.Adapters.{position_from-zero}
pub use Rattle.std.proofs.lemmas.List.{drop_all, drop_more, length-map, take-map, take_all, take_more, length-take, map-append, drop-map, take-append-drop, take-append-le, take-take}
pub use Rattle.std.proofs.lemmas.List.Elements.{All-from_recursion, filter_map-append, All-map}
pub use Rattle.std.proofs.lemmas.List.Folds.{find_at, flat_map-map, list_any-append}
pub use Rattle.std.proofs.lemmas.List.Quantifiers.{position-Some}
pub use Rattle.std.proofs.lemmas.Map.Text.{is_eq-slice_cmp}
pub use Rattle.std.specs.Cmp.{both_tied}
pub use Rattle.std.specs.Prelude.{◌==◌, ◌≢◌}
pub use Rattle.afdx_config.specs.Names.{All, AllByRecursion, Both, Cells, ConfigFault, Data, Err, IfErr, IfOk, IfSome, IsDotted, IsLink, IsPlan, IsPort, LinkRow, Members, Ms1, Ok, Omitted, Ordering, Plan, PlanRule, PortRow, Result, Rule, Sampling, Toml, UnknownKey, as_table, both, breaks, bytes_eq, cells_show, cons_option, fault_number, find, flat_map, fold, get, get_member, is_eq, is_misfit, is_past_limit, is_row_of, items_view, link_count, links_clash, list_any, nat_cmp, nat_lt, option_map_or, ordering_then, plan_rules, plan_shows, port_count, port_misfits, ports_clash, position, position_from, prefix_len, read_ipv4, result_err, result_ok, share_unicast, slice_cmp, sub_is_packed, table_view, then_some, view}
pub use Rattle.std.proofs.lemmas.Option.{same_Some, slice_get-get_or, slice_get_past}
pub use Rattle.std.proofs.lemmas.Result.{on_ok_weaker, IfOk-weaker}
pub use Rattle.std.proofs.lemmas.Simd.{map-map}
pub use Rattle.std.proofs.lemmas.Slice.Eq.{bytes_eq-Decides}
pub use Rattle.std.specs.List.{filter_map, position_or_len, insert}
pub use Rattle.std.specs.Map.{keys_of}
pub use Rattle.std.specs.Option.{option_cmp}
pub use Rattle.std.specs.declared.net.ipv4_addr.Ipv4Addr.{Ipv4Addr}
pub use Rattle.toml.specs.View.{members_view}
pub use Rattle.toml.specs.declared.value.Value.{Value}
pub use Rattle.afdx_plan.specs.PlanFaults.{are_one_address, are_one_destination, has_pair, link_whole, on_sub_of, port_whole, rule, same_flow, same_link, same_port, any_row, whole}
pub use Rattle.afdx_plan.specs.declared.fault.ConfigFault.TheVariants.{Limit, Memory}
pub use Rattle.afdx_config.specs.Tables.{member_keys, tables_among, content_fault, field_fault, has_other_item, is_fault, is_key_of, is_version_2, key_fault, rows_at, section_at, networks_under, checksum_under, read}
pub use Rattle.afdx_config.specs.Explained.{column_after}
pub use Rattle.afdx_config.specs.Faults.{HasFault, IsLeastFault, IsPlanOf, Reads, shows, values_show}
pub use Rattle.afdx_config.specs.FindingLaws.{FaultsAreFound, FirstIsAnswered, PlacesHaveFaults, RulesAgree, breaks_at, fields_at, has_place, members_at, key_has, row_has, rows_have, tells, value_has}
pub use Rattle.afdx_config.specs.Cells.{cells_of, link_of, plan_of, port_of, link_row, port_row}
pub use Rattle.afdx_config.specs.Findings.{PlanFinding, crowd_finding, each_row, findings, found, has, is_before, key_finding, misfit_finding, one_if, pair_finding, pair_findings, row_like, rule_findings, table_findings, field_findings, key_findings, by_fault, number_of, plan_findings, value_findings, lines_limit, put, is_newer, once_after, told_once}
pub use Rattle.afdx_config.specs.Sharing.{first_row, is_key, flow_of, sub_in, is_on_sub, all_five, address_in, address_of, address_cmp, first_at, off_link, sharing_place, sub_cmp}
pub use Rattle.afdx_config.specs.Format.{Field, document_fields, end_fields, link_fields, port_fields, only_in_2, field}
pub use Rattle.afdx_config.specs.Seen.{Adds, cells_in, finding_of, IsDocument, IsSoundTable, data_of, field_of, Holds, Keeps, KeepsOne, IsOrdered, fault_of, AreInRange, plan_in}
pub use Rattle.afdx_config.specs.declared.document.Document.{Document}
pub use Rattle.afdx_config.specs.declared.findings.Place.{Place}
pub use Rattle.afdx_config.specs.declared.findings.Place.TheVariants.{EndSystem, Link, Port, Top}
pub use Rattle.afdx_config.specs.declared.format.Content.{Content}
pub use Rattle.afdx_config.specs.declared.format.Field.{Field as Key}
pub use Rattle.afdx_config.specs.declared.findings.Found.{Found as Kept}
pub use Rattle.afdx_config.specs.Values.{in_network_10, AddressesAreDotted}
pub use Rattle.std.proofs.Math.Path.{fun_ext}
pub use Rattle.std.proofs.Math.ListN.{get_or-map}
pub use Rattle.afdx_config.specs.declared.findings.PlanFinding.{PlanFinding as Written}
pub use Rattle.afdx_config.specs.declared.format.Content.TheVariants.{Networks, Checksum}
pub use Rattle.afdx_config.specs.declared.rows.Rows.{Rows}
pub use Rattle.afdx_plan.proofs.PlanLemmas.{Unbroken, valid}
pub use Rattle.std.proofs.lemmas.List.Sums.{sum_by-cons, count_by-le-length, prefix_len-le-length, count_by_more_yes, count_by_more_no}
pub use Rattle.std.proofs.lemmas.Map.Lookups.{exact_bytes, exact_pairs, exact_unsigned}
pub use Rattle.afdx_config.specs.declared.explaining.Explanation.{Explanation}
pub use Rattle.std.specs.BTreeMap.{keys}
