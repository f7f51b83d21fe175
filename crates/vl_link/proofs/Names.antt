-- Names of other crates, and of this crate's definitions, for the proofs here.
pub use Rattle.afdx_frame.proofs.CuttingLemmas.{cutting_some, step_le}
pub use Rattle.afdx_frame.proofs.Twins.{fragments_again, twin_same, cut_whole, fragments_more}
unfoldable pub use Rattle.afdx_frame.specs.Cutting.{cutting}
pub use Rattle.afdx_frame.specs.Cutting.{cut_by, pieces_from, pieces_left, Remains, cut_of, whole}
unfoldable pub use Rattle.afdx_frame.specs.Fragments.{fragments_at}
pub use Rattle.afdx_frame.specs.Fragments.{Sent, blanked, fragments, fragments_from}
unfoldable pub use Rattle.afdx_frame.specs.Frame.{header_front, internet_header, link_header, unnumbered}
pub use Rattle.afdx_frame.specs.Header.{IsFrameOf, link_in, sub_in}
pub use Rattle.afdx_frame.specs.declared.net.Net.TheVariants.{A}
pub use Rattle.afdx_legal.proofs.StreamLemmas.{due_apart, latest_push, numbered_push, spaced_push, with_push_in, with_push_out}
pub use Rattle.afdx_legal.specs.Counting.{counts_in, ends_message, messages_ended, moment_after}
pub use Rattle.afdx_legal.specs.Streams.{IsApart, IsNumbered, IsPrefixOf, IsSpaced, entry_number, latest, link_stream, stamp_of, sub_stream, told, TakesTurns, before_next, more_in}
pub use Rattle.afdx_plan.specs.Plan.{sequence_number, room_of, step_of}
pub use Rattle.afdx_plan.specs.declared.link_plan.LinkPlan.{LinkPlan}
pub use Rattle.afdx_plan.specs.declared.port_plan.PortPlan.{PortPlan}
pub use Rattle.redundant_mux.proofs.MirroredLines.{log_more, log_same, both_on}
pub use Rattle.redundant_mux.specs.Lines.{Entry, entry, BothEndure, Lines, log, any_up, logged_for}
pub use Rattle.std.proofs.Common.{Bool, List, None, Option, Some, [], ap, arith, cond, eqb, false, get_or, inl, inr, length, map, refl, rules, set, subst, suc, sym, true, zero, ℕ, ⊎_elim, ◌%◌, ◌&&◌, ◌++◌, ◌+◌, ◌-◌, ◌<◌, ◌∙◌, ◌∷◌, ◌≡◌, ◌≢◌, ◌≤◌, ◌⊎◌}
pub use Rattle.std.proofs.lemmas.Bool.{and_parts, both_ways, cases_Bool, cases_eq, eq-eqb, lt-leb, ne_eqb}
pub use Rattle.std.proofs.lemmas.List.{append-nil, append_assoc, get_or-set_other, get_or-set_same, get_or-take, get_or_append_left, get_or_default, length-append, length-map, length-set, length-take, length_push, map-append}
pub use Rattle.std.proofs.lemmas.List.Elements.{All-head, All-map, All-push, All-tail, filter-append}
pub use Rattle.std.proofs.lemmas.List.Sums.{sum_by-append, sum_by-cons}
pub use Rattle.std.specs.Prelude.{All, count_by, is_some, IfNone, IfSome}
pub use Rattle.subvl_queue.specs.Views.{HasAt, HaveRows, ReceiverView, after_take, looked}
pub use Rattle.vl_link.specs.Kept.{IsKept, IsLinkTied, IsTied, ShowsChoices, begun_after, begun_by, none_begun, shown_choice, IsSub, plans_of, seen_of, cut_among}
pub use Rattle.vl_link.specs.Calls.{AreFullSubs, GathersSub, IsFullSub, StaysAsIs, TellsSubDone}
pub use Rattle.vl_link.specs.Links.{AreSameSubs, AreSubsOf, Asks, Follows, Gives, GivesFrame, HasOwnItems, Held, IsLinkOfPlan, IsPicked, IsSameLink, IsSameSub, LinkState, PassedOver, Passes, Serves, Starts, held_at, held_view, left_of, message_fragments, nothing_held, pace_of, sent_of, sub_fragments, taken_by}
pub use Rattle.vl_link.specs.Seen.{Finds, FindsNothing, IsSameQueue, Seen, gathered, known_of, ports_of, queue_of, receiving, taken_of, total_of, most_of}
pub use Rattle.vl_link.specs.Turn.{AreTurns, IsChoice, Loses, NoneHas, Releases, Turn, TurnView, is_lost, may_release}
pub use Rattle.vl_link.specs.declared.link.Served.{Served}
pub use Rattle.vl_link.specs.declared.link.Served.TheVariants.{Lost, Nothing, Released}
pub use Rattle.vl_link.specs.declared.sub.SubVl.{SubVl}
pub use Rattle.vl_shaper.proofs.OneEach.{turn_below, turn_onto, one_each_holds}
pub use Rattle.vl_shaper.specs.Pace.{IsLater, Pace, is_due, turn_of, Choice, IsChosen, AreChosen, IsPassedOver}
pub use Rattle.vl_shaper.specs.declared.shaper.Stamp.{Stamp}
pub use Rattle.std.proofs.lemmas.Grind.{get_or-set_at}
pub use Rattle.afdx_plan.specs.declared.link_plan.Networks.{Networks}
pub use Rattle.std.proofs.lemmas.Bool.Decides.{nat_tests}
pub use Rattle.afdx_frame.specs.declared.net.Net.{Net}
pub use Rattle.afdx_frame.specs.declared.field.Piece.{Piece}
pub use Rattle.afdx_plan.specs.Config.{port_plan_at}
pub use Rattle.subvl_queue.specs.Messages.{IsItem, AreItems, RoomView, bytes_of, port_of, room_with}
