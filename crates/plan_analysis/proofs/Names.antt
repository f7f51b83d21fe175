-- Names of other crates, and of this crate's definitions, for the proofs here.
pub use Rattle.std.proofs.Common.{arith, ℕ, zero, suc, ◌≡◌, ◌+◌, ◌-◌, ◌*◌, ◌/◌, ◌^◌, ◌<◌, ◌≤◌, List, [], ◌∷◌, length, get_or, refl, ap, ◌∙◌, sym, inl, inr, ◌⊎◌, max, min, below_more, ◌++◌, map, Option, subst, take, drop, true, false, None, Some}
pub use Rattle.std.proofs.lemmas.List.{get_or_append_left, get_or_default, get_or_push, append_assoc, append-nil, drop_all, length-append, take-append-drop}
pub use Rattle.std.specs.Prelude.{All, Bool, ◌&&◌, IfNone, IfOk, IfSome, count_by, flat_map, option_map, sum_by, unwrap_or}
pub use Rattle.std.specs.Int.{div_ceil}
pub use Rattle.std.proofs.lemmas.Bool.{cases_eq, cases_lt}
pub use Rattle.std.proofs.lemmas.List.Elements.{All-cons, All-head, All-nil, All-tail, All-weaker, All-push}
pub use Rattle.std.proofs.lemmas.List.Sums.{sum_by-cons, sum_by-le-sum_by, sum_by-append, count_by-le-length}
pub use Rattle.std.proofs.Math.Seq.{drop-append_seam, take-append_seam, take-length}
pub use Rattle.std.proofs.lemmas.Nat.{le-div, mul-le}
pub use Rattle.std.proofs.Math.Nat.{add-mul, mul-add, lt-mul-div-succ, div-le_self, div-mul-le_self, div-zero}
pub use Rattle.plan_analysis.specs.declared.busy_time.Flow.{Flow}
pub use Rattle.plan_analysis.specs.declared.busy_time.Peak.{Peak}
pub use Rattle.afdx_plan.specs.Config.{Plan, IsPlan}
pub use Rattle.afdx_plan.specs.Plan.{IsPort, bag_micros}
pub use Rattle.plan_analysis.specs.KeptPeriods.{IsBusyUntil, MeetsByTraffic, MeetsInGroup, MeetsWithJitter, NeedsPeriods, WaitsInGroup}
pub use Rattle.plan_analysis.specs.declared.traffic.Sender.{Sender}
pub use Rattle.plan_analysis.specs.declared.traffic.Bound.{Bound}
pub use Rattle.plan_analysis.specs.declared.traffic.Bound.TheVariants.{NoPeriod}
pub use Rattle.plan_analysis.specs.Traffic.{IsFlow, IsWaitInGroup, IsEnough, IsWaitAt, IsSentIn, IsMetBy, IsLate, IsTooLong, IsMostPlaces, IsBacklog, IsKnownBacklog, arrived, arrived_before, IsWithin, IsBusyTime, busy_limit, HasGoodPeriod, AreSendersOf, IsBoundOf, IsSubBound, round_of, sender_at, have_periods, flows_of, messages, greatest_message, places_at, later_at, IsOverloaded, IsOver, IsGroupOver, IsGroupWithin, IsGroupWait, IsSubWait, IsSubNeed, IsNeed, AreMates, AreFlowsIn, flows_in, flows_with, mates_have_periods, has_sub, is_mate, are_mates, is_outside, is_with, least_of, link_share, whole_share}
pub use Rattle.std.specs.List.{range_with_len}
pub use Rattle.std.proofs.lemmas.List.FromFn.{map-range_with_len_more}
pub use Rattle.afdx_plan.specs.declared.link_plan.LinkPlan.{LinkPlan}
pub use Rattle.afdx_plan.specs.declared.port_plan.PortPlan.{PortPlan}
pub use Rattle.plan_analysis.specs.Memory.{sub_row, greatest_on, max_on, IsHeaviest, rows_of_link}
pub use Rattle.std.proofs.lemmas.Grind.{common_steps}
pub use Rattle.std.proofs.lemmas.Bool.Decides.{nat_tests}
pub use Rattle.std.proofs.lemmas.List.Recursion.{max_push}
pub use Rattle.plan_analysis.specs.Wait.{link_of, pieces_on, most_pieces, has_port}
pub use Rattle.vl_shaper.specs.Pace.{users_among}
pub use Rattle.plan_analysis.specs.Load.{line_bits}
pub use Rattle.plan_analysis.specs.Analysis.{network_jitter}
pub use Rattle.plan_analysis.specs.declared.memory.SubRow.{SubRow}
