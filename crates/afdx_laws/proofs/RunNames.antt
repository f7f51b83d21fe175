-- The names of other crates, and of this one's definitions, that the proofs here use.
pub use Rattle.std.proofs.Common.{Bool, List, None, Option, Some, [], ap, arith, cond, drop, false, get_or, inl, inr, length, map, nat_eq, nat_le, nat_lt, refl, subst, suc, sym, take, true, zero, ℕ, ⊎_elim, ◌&&◌, ◌*◌, ◌%◌, ◌++◌, ◌+◌, ◌-◌, ◌<◌, ◌^◌, ◌||◌, ◌∙◌, ◌∷◌, ◌≡◌, ◌≢◌, ◌≤◌, ◌⊎◌}
pub use Rattle.std.proofs.lemmas.Bool.{and_from, and_parts, or_cases, or_left, or_right, both_ways, cases_Bool, cases_eq, cases_lt, eq-eqb, eqb-true, false≢true, le-leb, le-ltb, lt-ltb, ne_eqb}
pub use Rattle.std.proofs.lemmas.Bool.Decides.{nat_tests}
pub use Rattle.std.proofs.lemmas.List.{append-nil, append_assoc, length-append, length-drop, length-map, map-append, take-append-drop, get_or_default, append_cancel_left}
pub use Rattle.std.proofs.lemmas.List.Elements.{All-cons, All-drop, All-head, All-nil, All-tail, All-weaker, filter-append, All-filter, All-map, filter_passes, All-contains_itself, All-push, All-append}
pub use Rattle.std.proofs.lemmas.Nat.{le-div, mul-le}
pub use Rattle.std.proofs.lemmas.Result.{on_ok_weaker}
pub use Rattle.std.specs.Prelude.{All, Contains, Err, IsErr, Ok, OnErr, OnOk, Result, slice_index, replicate, ◌/◌, filter, not, unwrap_or, IfSome, is_some, sum_by, max, min}
pub use native.Mathlib.Decide.{dec_le}
pub use native.Mathlib.Nat.{mul-suc, suc-mul}
pub use Rattle.afdx_plan.specs.Config.{IsPlan, Plan, link_plan_at, link_place, port_plan_at}
pub use Rattle.afdx_plan.specs.Plan.{bag_micros, bag_ms, room_of, step_of}
pub use Rattle.afdx_plan.specs.declared.link_plan.LinkPlan.{LinkPlan}
pub use Rattle.afdx_plan.specs.declared.port_plan.PortPlan.{PortPlan}
pub use Rattle.afdx_frame.specs.Cutting.{cut_by, pieces_from}
unfoldable pub use Rattle.afdx_frame.specs.Cutting.{cutting}
pub use Rattle.afdx_frame.specs.Fragments.{Sent, blanked, fragments_from}
unfoldable pub use Rattle.afdx_frame.specs.Fragments.{fragments_at}
pub use Rattle.afdx_frame.specs.Frame.{interface_byte}
unfoldable pub use Rattle.afdx_frame.specs.Frame.{addresses, datagram, header_front, internet_header, link_header, udp_header, unnumbered}
pub use Rattle.afdx_frame.specs.Header.{link_in, number_in, sub_in}
pub use Rattle.afdx_frame.specs.declared.net.Net.TheVariants.{A}
pub use Rattle.redundant_mux.proofs.MirroredLines.{stood_before}
pub use Rattle.redundant_mux.specs.Lines.{Entry, entry, BothEndure, Lines, any_up, is_alive, logged_for}
unfoldable pub use Rattle.redundant_mux.specs.Lines.{log}
pub use Rattle.vl_shaper.specs.Pace.{Choice, IsChosen, IsLater, is_due, next_turn, turn_of, users_among}
pub use Rattle.vl_shaper.specs.Polls.{AreServed, HasAtPolls, IsOfUser, IsServed, Poll, ServeUsers, is_of, released_by, last_after}
pub use Rattle.afdx_legal.proofs.StreamLemmas.{latest_push}
pub use Rattle.afdx_legal.specs.Accepted.{AreAllowed, AreQueued, IsAllowed, IsQueued, IsReleased, Owes}
pub use Rattle.afdx_legal.specs.Legal.{Accepted}
pub use Rattle.afdx_legal.specs.Streams.{IsPrefixOf, latest, link_stream, stamp_of, sub_stream, told, more_in, unnumbered_fragments}
pub use Rattle.vl_link.proofs.TurnLaws.{turns_each, turns_endure, turns_seen, turn_endures}
pub use Rattle.vl_link.specs.Links.{Asks, Held, IsSameLink, LinkState, Passes, held_at, held_view, link_at, pace_of, taken_by, AreSameSubs, Serves, GivesFrame, IsSameSub, sent_by, message_fragments, GoesOn, Starts, sent_of}
pub use Rattle.vl_link.specs.Kept.{begun_after, begun_by, none_begun, IsTied}
pub use Rattle.vl_link.specs.Turn.{AreTurns, NoneHas, Turn, TurnView, may_release}
pub use Rattle.vl_link.specs.declared.link.Served.{Served}
pub use Rattle.vl_link.specs.declared.link.Served.TheVariants.{Lost, Nothing, Released}
pub use Rattle.afdx_tx.specs.Run.{Drains, DrainsAt, IsDrained, accepted_in, accepted_view, pace_in, IsRun, IsTurnAt}
pub use Rattle.afdx_tx.specs.DrainEnds.{stream_at}
pub use Rattle.afdx_tx.specs.Emitter.{IsFreshTx, Tx, taken_in}
pub use Rattle.plan_analysis.specs.Wait.{has_port, message_wait, most_pieces, pieces_of, pieces_on, port_pieces, queued_before, used_sub_vls, worst_wait, is_on}
pub use Rattle.afdx_laws.proofs.ListLemmas.{all_back, all_front, below_one, cons_parts, nil_isnt_cons}
pub use Rattle.afdx_laws.proofs.NextFragment.{wait_at}
pub use Rattle.afdx_laws.specs.MessageInRun.{ApartAreTimely, AreFinding, AreTimely, ComesIn, FindsIt, HasPlace, IsAccepted, MessageInRun, fragments_of, seen_of, AreReleasedBy}
pub use Rattle.afdx_laws.specs.GroupInRun.{FindsGroup, GroupInRun, HasTraffic, IsGroupPoll, IsGroupRun, is_in}
pub use Rattle.afdx_laws.specs.HeardRow.{IsTurnOf, NeedsToBeTold, ReleasesTold, one_sent, told_one}
pub use Rattle.afdx_laws.specs.HeardInRun.{FindsSent, HasAs, HeardIsFound, IsItsTurn, IsNextIn, IsSentNext, ReleasesFirst, ReleasesHeard}
pub use Rattle.afdx_laws.specs.Runs.{ArePolls, AreRuns, ComeWithin, ComesBy, DrainPolls, EmitterPolls, IsPlanned, IsReady, IsReadyFor, KeptReady, NextInRun, latest_of, next_wait}
pub use Rattle.afdx_plan.specs.declared.link_plan.Networks.TheVariants.{Both}
pub use Rattle.vl_link.specs.Seen.{Finds, FindsNothing, Heeds, IsReceiving, ports_of, queue_of, taken_of, Seen, receiving, gathered}
pub use Rattle.vl_link.proofs.SubInStep.{moves_of, gave_same, same_sub_here, same_sub_on}
pub use Rattle.afdx_laws.specs.WorkedRun.{lines_by, short_port, short_sent, short_frame, front_entry, three_link, three_plan, three_accepted, end_frame, line_after, long_sub, short_sub, subs_of, tx_of, ComesInTurn, ThirdReleased, WaitsItsTurn, other_frame, other_line, tight_link, byte_plan, bytes_accepted, no_line, byte_line, failed_line, NeedsItsPremises, fresh, sub_of, stray_frame, stray_line, both_at, lost_line, NeedsARun, small_link, small_plan, message_accepted, front_line, both_lines, ComesInRun, tight_plan, tight_sent, tight_accepted, tight_frame, tight_line, TightReleased, MeetsTheWait}
pub use Rattle.afdx_tx.specs.Calls.{ClosesTx, Publishes}
pub use Rattle.afdx_tx.proofs.ClosedEmitter.{ClosedLinks, closes_links, hears_links, hears_within}
pub use Rattle.afdx_tx.specs.Gathering.{held_for}
pub use Rattle.afdx_tx.proofs.PortLink.{link_within}
pub use Rattle.afdx_plan.specs.declared.link_plan.Networks.{Networks}
pub use Rattle.afdx_tx.specs.Hearing.{HearsTx, place_of}
pub use Rattle.afdx_tx.specs.Ports.{Accepts, BelongsTo, IsPortOfTx, PortView}
pub use Rattle.vl_link.specs.Calls.{ChangesQueue, ChangesSub, Hears}
pub use Rattle.subvl_queue.proofs.Senders.{has_sent, hears_last, hears_sent, last_is}
pub use Rattle.std.proofs.lemmas.List.Filters.{sum_by-filter_both}
pub use Rattle.std.proofs.lemmas.List.Sums.{sum_by-cons, sum_by-le, sum_by-take-drop, sum_by_push, sum_by-append}
pub use Rattle.afdx_plan.specs.declared.port_plan.PortId.{PortId}
pub use Rattle.plan_analysis.specs.declared.traffic.Sender.{Sender}
pub use Rattle.plan_analysis.specs.Traffic.{senders_on, have_periods, has_period, IsGoodPeriod, IsWaitInGroup, IsGroupWait, IsBusyTime, arrived, arrived_before, flows_of, flows_with, AreSendersOf, AreMates, IsBacklog, IsNeed, IsKnownBacklog, messages, greatest_message, places_at, flow_of, round_of, has_sub, mates_have_periods, is_outside, are_mates}
unfoldable pub use Rattle.plan_analysis.specs.Traffic.{is_with}
pub use Rattle.plan_analysis.proofs.Busy.{all_of_map}
pub use Rattle.plan_analysis.proofs.Waits.{waits_in_group}
pub use Rattle.afdx_laws.specs.TrafficInRun.{Arrival, IsLoneWait, AreApart, AreDue, KeepPeriod, times_in, is_from, is_before, KeepPeriods, TrafficInRun, AreFindingAll, accepted_by, messages_in}
pub use Rattle.afdx_tx.proofs.OwnLengths.{own_link}
pub use Rattle.subvl_queue.specs.Views.{after_take, Brought, brought_by, heard_from, HasAt, IsLast, IsPlaced, ReceiverView, SenderView, looked}
pub use Rattle.vl_link.proofs.MessageEnds.{not_begun}
pub use Rattle.afdx_laws.specs.NextFragment.{longest_wait}
pub use Rattle.vl_shaper.proofs.Users.{passed, passed_lt, passed_more, users_le, users_most}
pub use Rattle.std.specs.Int.{div_ceil}
pub use Rattle.std.proofs.lemmas.List.Recursion.{max_bounds}
pub use Rattle.afdx_frame.specs.declared.net.Net.{Net}
pub use Rattle.vl_shaper.proofs.OneEach.{back, chosen_behind, turn_below, turn_cases}
pub use Rattle.vl_link.proofs.Choosing.{stream_more}
pub use Rattle.vl_link.proofs.LinkTurn.{other_turn, turn_at}
pub use Rattle.vl_shaper.specs.declared.shaper.Stamp.{Stamp}
pub use Rattle.vl_shaper.proofs.Polled.{ComeWhenDue, counted, released_in_time}
pub use Rattle.std.proofs.Math.Nat.{div-le_self, div-mul-le_self, div-zero, lt-mul-div-succ, mod-add-mod, mod-lt, mul-div-le, mul_right_comm}
pub use Rattle.plan_analysis.specs.KeptPeriods.{IsBusyUntil}
pub use Rattle.afdx_plan.specs.declared.link_plan.Bag.{Bag}
pub use Rattle.afdx_laws.specs.TrafficRow.{accepted_at, sender_of, three_senders, third_arrival, NeedsTraffic, TakesItsWait, MeetsWithJitter, SecondReleased, late_senders, both_line, byte_arrivals, byte_sender, byte_senders, other_sent, other_senders}
pub use Rattle.std.proofs.lemmas.List.Folds.{Any-from_list_any, list_any_at}
pub use Rattle.afdx_laws.specs.WorkedDelivery.{back_frame}
pub use Rattle.afdx_laws.specs.NeverFull.{AsksAfter, IsNeedFor, NeverFull, NeverFullInGroup, asked_at, queued_of}
pub use Rattle.afdx_laws.specs.FullRow.{AskCase, FullCase, FillsItsQueue, NeedsPlaces, load_at, accepted_so, asking_port, full_port, each, other_each}
pub use Rattle.afdx_laws.specs.GroupRow.{NeedsItsMates, PairReleased, TakesItsGroupWait, apart_arrivals, crossed_line, pair_accepted, pair_arrivals, pair_line, pair_link, pair_plan, pair_senders}
pub use Rattle.subvl_queue.specs.Views.{QueueName}
pub use Rattle.afdx_tx.specs.Ports.{Refuses}
pub use Rattle.afdx_tx.specs.declared.fault.Refusal.TheVariants.{Full}
