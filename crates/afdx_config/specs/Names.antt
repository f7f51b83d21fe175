-- The names of other crates that the definitions and contracts here use.
pub use Rattle.std.specs.BTreeMap.{get}
pub use Rattle.std.specs.Bool.{then_some}
pub use Rattle.std.specs.Cmp.Lexicographic.{slice_cmp}
pub use Rattle.std.specs.List.{AllByRecursion, cons_option, flat_map, fold, list_any, position, position_from, prefix_len}
pub use Rattle.std.specs.Net.Grammar.{IsDotted}
pub use Rattle.std.specs.Net.Reader.{read_ipv4}
pub use Rattle.std.specs.Option.{option_map_or}
pub use Rattle.std.specs.Ordering.{is_eq, nat_cmp, ordering_then}
pub use Rattle.std.specs.Prelude.{All, Bool, Err, IfErr, IfOk, IfSome, IsUtf8, List, None, Ok, OnOk, Option, Result, Some, [], bytes_eq, codes, count_by, decimal, false, find, is_none, length, map, nat_eq, nat_le, nat_lt, negsuc, not, ok_or, option_and_then, option_copied, option_map, pos, slice_get, slice_index, string_bytes, take, true, unwrap_or, ℕ, ℤ, ⊤}
pub use Rattle.std.specs.Result.{result_err, result_ok}
pub use Rattle.std.specs.declared.cmp.Ordering.{Ordering}
pub use Rattle.toml.specs.Data.{Data, Items, Members, as_array, as_integer, as_str, as_table, get_member, item, member, no_items, no_members}
pub use Rattle.toml.specs.Errors.{IsWithin}
pub use Rattle.toml.specs.Parse.{parse_document}
pub use Rattle.toml.specs.View.{items_view, table_view, view}
pub use Rattle.afdx_plan.specs.Config.{IsPlan, Plan, plan_of_parts}
pub use Rattle.afdx_plan.specs.Plan.{IsLink, IsPort, IsUnicast}
pub use Rattle.afdx_plan.specs.PlanFaults.{Cells, PlanRule, Rule, all_named, both, breaks, cells_show, fault_number, is_misfit, is_no_count, is_past_limit, is_row_of, link_count, links_clash, misfits, plan_rules, plan_shows, port_count, port_misfits, ports_clash, share_unicast, sub_is_packed}
pub use Rattle.afdx_plan.specs.declared.fault.ConfigFault.{ConfigFault}
pub use Rattle.afdx_plan.specs.declared.fault.ConfigFault.TheVariants.{BadBag, MissingKey, OutOfRange, Toml, UnknownKey, WrongKind}
pub use Rattle.afdx_plan.specs.declared.link_plan.Bag.{Bag}
pub use Rattle.afdx_plan.specs.declared.link_plan.Bag.TheVariants.{Ms1, Ms128, Ms16, Ms2, Ms32, Ms4, Ms64, Ms8}
pub use Rattle.afdx_plan.specs.declared.link_plan.LinkPlan.{LinkPlan}
pub use Rattle.afdx_plan.specs.declared.link_plan.Networks.{Networks}
pub use Rattle.afdx_plan.specs.declared.link_plan.Networks.TheVariants.{Both, OnlyA, OnlyB}
pub use Rattle.afdx_plan.specs.declared.port_plan.Kind.{Kind}
pub use Rattle.afdx_plan.specs.declared.port_plan.Kind.TheVariants.{Queuing, Sampling}
pub use Rattle.afdx_plan.specs.declared.port_plan.PortPlan.{PortPlan}
pub use Rattle.afdx_plan.specs.declared.port_plan.UdpSum.{UdpSum}
pub use Rattle.afdx_plan.specs.declared.port_plan.UdpSum.TheVariants.{Generated, Omitted}
pub use Rattle.afdx_plan.specs.declared.rows.LinkRow.{LinkRow}
pub use Rattle.afdx_plan.specs.declared.rows.Misfit.{Misfit}
pub use Rattle.afdx_plan.specs.declared.rows.PortRow.{PortRow}
