-- Names of other crates, and of this crate's definitions, for the proofs here.
pub use Rattle.afdx_frame.proofs.Twins.{length-twin, twin_blanked, twin_fragments, twin_interface, twin_link, twin_number, twin_sub, twin_twice}
unfoldable pub use Rattle.afdx_frame.specs.Fragments.{fragments_at}
pub use Rattle.afdx_frame.specs.Fragments.{Sent, blanked, fragments, fragments_from}
pub use Rattle.afdx_frame.specs.Header.{link_in, sub_in, twin_of}
pub use Rattle.afdx_frame.specs.declared.net.Net.{Net}
pub use Rattle.afdx_frame.specs.declared.net.Net.TheVariants.{A, B}
pub use Rattle.afdx_legal.proofs.StreamLemmas.{known_all, with_append, with_map, latest_push, with_push_in, with_push_out, on_both_is, turns_side, counts_more}
pub use Rattle.afdx_legal.specs.Counting.{counts_in}
pub use Rattle.afdx_legal.specs.Accepted.{IsAllDone, IsReleased, Owes, AreAllowed, IsQueued, AreQueued, messages_of, port_messages}
pub use Rattle.afdx_legal.specs.Legal.{Accepted, AreKnown, AreTwins, IsKnown, IsLegal, IsLegalOn, is_on_both, on_both}
pub use Rattle.afdx_legal.specs.Streams.{AreOwnStreams, longer, own_stream, IsNumbered, IsPrefixOf, IsSpaced, entry_number, latest, link_stream, stamp_of, sub_stream, told, unnumbered_fragments, TakeTurnsOn, TakeTurns}
pub use Rattle.afdx_plan.specs.Config.{HasLink, IsPlan, Plan, link_plan_at, port_plan_at, link_place}
pub use Rattle.afdx_plan.specs.Plan.{IsPort, SendsOver, bag_micros, room_of, is_both}
pub use Rattle.afdx_plan.specs.declared.link_plan.LinkPlan.{LinkPlan}
pub use Rattle.afdx_plan.specs.declared.link_plan.Networks.{Networks}
pub use Rattle.afdx_plan.specs.declared.port_plan.PortPlan.{PortPlan}
pub use Rattle.afdx_tx.specs.Calls.{ClosesTx, LacksSub, IsFirstDue, NoneDueBefore, earlier, Publishes, PublishesCounts, Reaches}
pub use Rattle.afdx_tx.specs.Run.{AreGathered, Drains, DrainsAt, IsDrained, accepted_by, accepted_in, accepted_view, pace_in, IsRun, IsTurn, IsTurnAt}
pub use Rattle.afdx_tx.specs.DrainEnds.{AreApartBy, AreDrained, DrainEnds, DrainsOne, no_lines, one_line, owed, owed_at, stream_at, line_of, failed_line, two_moments, one_line_at, two_accepted, StartsAfter, AreEnough, LeavesOne, NeedsItsPolls}
pub use Rattle.afdx_tx.specs.Emitter.{AreApart, AreCarried, AreFreshLinks, AreLinks, AreLinksOf, AreOpenedLinks, AreOpenedSubs, AreReceiving, AllWaitUntil, AreServedBy, AreWhole, HaveOwnItems, IsOpenedLink, IsOpenedSub, IsSamePlan, IsSound, Tx, held_queue, link_queues, greatest_of, plan_of_link, plans, ports_of_sub, queues_in, taken_in, total_in, IsLinkAt}
pub use Rattle.afdx_tx.specs.Hearing.{HearsTx, place_of}
pub use Rattle.afdx_tx.specs.Gathering.{AreFull, GathersLinks, GathersPorts, HasOwnPart, IsGatheredTx, IsTakenBack, OnlyTakeBack, OnlyTakesBack, held_for}
pub use Rattle.afdx_tx.specs.Ports.{AreOpenedWith, BelongsTo, HasEveryPlace, HasOwnMessages, HasPlace, IsFreshPort, PortView, index_of, queue_at, MaySend}
pub use Rattle.afdx_tx.specs.Report.{IsTold, turn_release}
pub use Rattle.afdx_tx.specs.Phases.{Conforms, IsPolling, IsSteady, TellsAllDone, AreOfPorts, IsInPhase, KeepsMessages, KeepsPhase, Runs}
pub use Rattle.afdx_tx.specs.declared.turns.Release.{Release}
pub use Rattle.redundant_mux.proofs.MirroredLines.{both_none, both_on, stood_before, entries_append, fresh_in_step, fresh_lines, fresh_log, log_more, log_same, mirrored_failing}
pub use Rattle.redundant_mux.specs.Lines.{Entry, entry, BothEndure, IsMirrored, Keeps, Lines, any_up, Logged, entries_of, logged_for, names, only, sent_to, side, with_failing}
unfoldable pub use Rattle.redundant_mux.specs.Lines.{log}
pub use Rattle.status_board.specs.Views.{NoFieldFalls, Published, last_of, published, with_entry}
pub use Rattle.std.proofs.Common.{Bool, IfOk, List, None, OnErr, Option, Result, Some, [], add-one, add-zero, ap, arith, below_more, cond, drop, drop-cons, eqb, false, filter, get_or, inl, inr, length, map, map-id, min, nat_eq, refl, rules, set, subst, suc, sym, take, true, unwrap_or, zero, zero-le, ℕ, ⊎_elim, ◌&&◌, ◌++◌, ◌+◌, ◌<◌, ◌^◌, ◌||◌, ◌∙◌, ◌∷◌, ◌≡◌, ◌≢◌, ◌≤◌, ◌⊎◌, tests}
pub use Rattle.std.proofs.lemmas.Bool.{and_parts, and_right, both_ways, cases_Bool, cases_eq, cases_lt, eq-eqb, eqb-true, false_from_ne_true, le-ltb, lt-ltb, ne_eqb, false≢true}
pub use Rattle.std.proofs.lemmas.List.{append-nil, append_assoc, ext_get_or, get_or-map, get_or-set_other, get_or-set_same, get_or_append_left, get_or_at, get_or_default, get_or_past, get_or_push, length-append, length-map, length-set, length_push, map-append, nil_from_length, set-get_or, take-append-drop, take-append-le, take-map, take_all, with_items_is}
pub use Rattle.std.proofs.lemmas.List.Elements.{All-cons, All-contains, All-contains_itself, All-filter, All-head, All-map, All-nil, All-push, All-tail, All-weaker, Contains-append_left, Contains-push, filter-append, filter_passes}
pub use Rattle.std.specs.List.{AllPairs, position, position_or_len}
pub use Rattle.std.specs.Prelude.{All, Contains, MatchOption, ◌==◌, max, fold, if◌then◌else◌}
pub use Rattle.std.specs.Vec.{with_items}
pub use Rattle.subvl_queue.specs.Messages.{AreItems, IsItem, most_calls, part_of}
pub use Rattle.subvl_queue.specs.Views.{Brought, QueueName, SenderView, brought_by}
pub use Rattle.vl_link.proofs.Choosing.{each_set, stream_more}
pub use Rattle.vl_link.proofs.LinkTurn.{HasItems, IsOwn, Turned, kept_stream, kept_turn, link_turn, other_stream, other_turn, turn_at}
pub use Rattle.vl_link.proofs.QueueLooks.{items_taken, same_name, same_total, fragments_some}
pub use Rattle.vl_link.proofs.TurnLaws.{turn_endures, turn_seen, turns_endure, turns_push, turns_seen}
pub use Rattle.vl_link.specs.Calls.{ChangesSub, ChangesQueue, Closes, Hears, MakesSender, BecomesDue, RestsUntil, StaysAsIs, GathersLink, LacksSender, TakesBack, back_of, TellsLinkDone}
pub use Rattle.vl_link.specs.Kept.{IsKept, IsLinkTied, IsPortOf, AreOfEndSystem, plans_of}
pub use Rattle.vl_link.specs.Links.{Asks, Follows, HasOwnItems, Held, IsLinkOfPlan, IsSameLink, LinkState, Serves, held_at, held_view, link_at, no_link, no_link_plan, nothing_held, sent_by, sent_of, taken_by}
pub use Rattle.vl_link.specs.Seen.{IsKnownWhole, IsReceiving, Seen, gathered, known_of, queue_of, receiving, taken_of}
pub use Rattle.vl_link.specs.Turn.{AreTurns, is_lost, may_release}
pub use Rattle.vl_link.specs.declared.link.Served.{Served}
pub use Rattle.vl_link.specs.declared.link.Served.TheVariants.{Lost, Nothing, Released}
pub use Rattle.vl_link.specs.declared.sub.SubVl.{SubVl}
pub use Rattle.vl_shaper.specs.Pace.{IsLater, due_from, is_due, waits_until}
pub use Rattle.vl_shaper.specs.declared.shaper.Stamp.{Stamp}
pub use Rattle.afdx_plan.specs.declared.link_plan.Networks.TheVariants.{Both, OnlyA, OnlyB}
pub use Rattle.std.proofs.lemmas.List.Sums.{fails_before_first, length-filter}
pub use Rattle.std.proofs.lemmas.List.Quantifiers.{position-Some}
pub use Rattle.std.proofs.lemmas.List.Filters.{length-filter_more}
pub use Rattle.std.proofs.lemmas.List.Kept.{AllPairs-filter}
pub use Rattle.vl_link.proofs.ShownTurns.{takes_turns}
pub use Rattle.std.proofs.Math.Seq.{take-length}
pub use Rattle.std.proofs.lemmas.Iterator.{YieldsList, YieldsList-from_map, YieldsList-from_slice}
pub use Rattle.std.proofs.lemmas.Iterator.Consumers.{YieldsList-from_shown, YieldsList-end, YieldsList-turn, YieldsList-at, YieldsList-from_filter, reduce_from_yields_List}
pub use Rattle.std_alloc.specs.Vec.Iter.{drain_items, drain_steps}
pub use Rattle.std_alloc.specs.declared.vec.drain.Drain.{Drain}
pub use Rattle.afdx_plan.specs.Demo.{demo_plan, demo_link}
pub use Rattle.afdx_plan.proofs.DemoPlan.{demo_valid}
pub use Rattle.afdx_legal.specs.Worked.{one_byte_accepted, one_frame}
pub use Rattle.status_board.proofs.Histories.{falls_not_through, falls_not_same, last_or-push}
pub use Rattle.std.proofs.lemmas.List.Folds.{max_of_map}
