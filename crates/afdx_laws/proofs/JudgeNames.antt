-- Names of other crates for the proofs here.
pub use Rattle.std.proofs.Common.{Bool, List, None, Ok, Option, Result, Some, ap, append-nil, append_assoc, arith, drop, false, get_or, inl, inr, le_refl, length, length-append, length-set, map, max, nat_le, not, refl, replicate, slice_index, subst, suc, sym, take, true, zero, ℕ, [], ◌%◌, ◌*◌, ◌++◌, ◌+◌, ◌-◌, ◌/◌, ◌<◌, ◌==◌, ◌^◌, ◌∙◌, ◌∷◌, ◌≡◌, ◌≢◌, ◌≤◌, ◌⊎◌}
pub use Rattle.std.proofs.Math.Seq.{drop-cons, get_or-append_right, get_or-append_seam, take-add}
pub use Rattle.std.proofs.lemmas.Bool.{both_ways, cases_Bool, cases_eq, cases_lt, eq-eqb, eqb-true, le-ltb, lt-ltb, ne_eqb}
pub use Rattle.std.proofs.lemmas.Bool.Decides.{nat_tests}
pub use Rattle.std.proofs.lemmas.Grind.{same_number_lists}
pub use Rattle.std.proofs.lemmas.List.{drop-drop, drop-set, drop-set-lt, drop_at, drop_more, get_or-append-add, get_or-drop, get_or-map, get_or-replicate, get_or-set_other, get_or-set_same, get_or-take, get_or_append_left, get_or_default, get_or_past, length-drop, length-map, length-replicate, length-take, map-append, take-append-drop, take-set, take-set-le, take_all, take_at, take_more}
pub use Rattle.std.proofs.lemmas.List.Sums.{fails_before_first, position_or_len_is}
pub use Rattle.std.proofs.lemmas.List.Elements.{All-append, All-cons, All-contains, All-drop, All-filter, All-from_get_or, All-from_recursion, All-head, All-map, All-nil, All-push, All-tail, All-take, All-weaker, filter_passes}
pub use Rattle.std.proofs.lemmas.List.Filters.{length-filter_both}
pub use Rattle.std.proofs.Math.Path.{fun_ext}
pub use Rattle.std.proofs.lemmas.List.Quantifiers.{position-Some}
pub use Rattle.std.proofs.lemmas.Simd.{map-map}
pub use Rattle.std.proofs.lemmas.Slice.Zip.{AllZip-long, all_zipped_more}
pub use Rattle.std.specs.List.{AllZip, list_all, position_or_len}
pub use Rattle.std.specs.Prelude.{All, Contains, IfSome, filter, find, if◌then◌else◌, min, nat_eq, nat_lt, position, remove, slice_range, slice_set, unwrap_or, ◌&&◌}
pub use Rattle.afdx_plan.proofs.DemoPlan.{demo_valid}
pub use Rattle.afdx_plan.specs.Address.{destination_address, destination_of, two_bytes}
pub use Rattle.afdx_plan.specs.Config.{AreSameFlow, HasLink, IsPlan, Plan, link_plan_at}
pub use Rattle.afdx_plan.specs.Demo.{demo_plan}
pub use Rattle.afdx_plan.specs.Plan.{IsLink, IsPort, IsUnicast, bag_micros, identification, is_both, room_of, sequence_number, step_of}
pub use Rattle.afdx_plan.specs.declared.link_plan.LinkPlan.{LinkPlan}
pub use Rattle.afdx_plan.specs.declared.port_plan.PortPlan.{PortPlan}
pub use Rattle.afdx_plan.specs.declared.port_plan.UdpSum.{UdpSum}
pub use Rattle.afdx_plan.specs.declared.port_plan.UdpSum.TheVariants.{Generated}
pub use Rattle.afdx_plan.specs.declared.port_plan.VlId.{VlId}
pub use Rattle.afdx_frame.proofs.CuttingLemmas.{left_first, left_none}
pub use Rattle.afdx_frame.proofs.Datagram.{length-udp_header, take_datagram}
pub use Rattle.afdx_frame.proofs.LayoutRules.{layout_is_profile, none_both}
pub use Rattle.afdx_frame.proofs.Says.{header_says, length-addresses, length-frame, payload_says, says, total_ok}
pub use Rattle.afdx_frame.proofs.Twins.{cut_whole, length-twin, twin_number, twin_same}
pub use Rattle.afdx_frame.proofs.UdpLemmas.{checksums_pass, word_sum-append}
pub use Rattle.afdx_frame.specs.Checksum.{word_sum}
unfoldable pub use Rattle.afdx_frame.specs.Checksum.{checksum, udp_checksum}
pub use Rattle.afdx_frame.specs.Cutting.{Cutting, piece_at}
pub use Rattle.afdx_frame.specs.Fragments.{Sent, blanked, fragments, fragments_from, fragments_left}
pub use Rattle.afdx_frame.specs.Frame.{frame_of, interface_byte, udp_field}
unfoldable pub use Rattle.afdx_frame.specs.Frame.{addresses, datagram, header_front, internet_header, link_header, udp_header, udp_sum, unnumbered}
pub use Rattle.afdx_frame.specs.Header.{link_in, number_in, sub_in, twin_of}
unfoldable pub use Rattle.afdx_frame.specs.Layout.{end_broken, internet_broken, layout_broken, link_broken}
pub use Rattle.afdx_frame.specs.Profile.{IsFrame, fragment_field, total_length, word_at}
pub use Rattle.afdx_frame.specs.ReadBack.{IsPiece}
pub use Rattle.afdx_frame.specs.declared.net.Net.{Net}
pub use Rattle.afdx_frame.specs.declared.net.Net.TheVariants.{A, B}
pub use Rattle.afdx_frame.specs.declared.field.Piece.{Piece}
pub use Rattle.afdx_legal.proofs.StreamLemmas.{known_all, numbered_at, on_both_is, with_append, with_map}
pub use Rattle.afdx_legal.specs.Accepted.{AreAllowed, IsAllowed}
pub use Rattle.afdx_legal.specs.Legal.{Accepted, AreKnown, IsKnown, IsLegalOn, on_both}
pub use Rattle.afdx_legal.specs.Streams.{IsApart, IsFollowedInTurn, IsNumbered, IsSpaced, TakeTurnsOn, TakesTurns, before_next, entry_number, latest, link_stream, more_in, stamp_of, sub_stream, those_with, told}
pub use Rattle.afdx_legal.specs.Worked.{one_frame}
pub use Rattle.redundant_mux.specs.Lines.{Entry, entry, names, side}
pub use Rattle.capture.specs.Recording.{Recorded}
pub use Rattle.afdx_laws.proofs.LegalLinks.{stream_front, stream_side}
pub use Rattle.afdx_laws.proofs.ListLemmas.{fails_by, nil_begins}
pub use Rattle.afdx_laws.proofs.WorkedDemo.{needs_legal}
pub use Rattle.afdx_laws.specs.WorkedPlan.{pair_at, second_frame, two_accepted, two_entries}
unfoldable pub use Rattle.judge.specs.CheckSequence.{check_sequence, with_byte}
unfoldable pub use Rattle.judge.specs.Fields.{fields_of}
pub use Rattle.judge.specs.Joining.{address_number, addresses_deviation, begun, end_deviation, head_after, head_of, head_with, ident_before, ident_of, if_known, is_of_port, is_towards, joined, misfit_if, next_of, port_of, right_sum}
unfoldable pub use Rattle.judge.specs.Joining.{fragment_deviation, head_now, length_deviation, message_deviation}
pub use Rattle.judge.specs.Judging.{Admitted, Judging, OnNet, after_timed, arrived, findings, first_port, found_from, found_given_up, found_left, found_timed, given_up, line_on, link_at, measure_of, nearness_of, new_link, placed, tag_of}
unfoldable pub use Rattle.judge.specs.Judging.{admitted, after_packet, found_of_arrival, found_on_link, found_with_end, found_with_packet, link_after, with_arrival, with_verdict}
pub use Rattle.judge.specs.Lines.{delay_after, due_before, early_deviation, early_since, figures_with, new_line, new_sub, next_number, number_after, number_deviation, number_kind, number_unless, passed_by, port_deviation, settled, sub_at, sub_in as judge_sub, turn_deviation, turn_if}
unfoldable pub use Rattle.judge.specs.Lines.{line_after, line_with, verdict}
pub use Rattle.judge.specs.Rules.{has_check, has_four_more, interface_on, on_link, size_deviation}
unfoldable pub use Rattle.judge.specs.Rules.{checked, frame_in, place_of, unchecked}
pub use Rattle.judge.specs.Times.{no_times, other_span, span_with, times_with}
pub use Rattle.judge.specs.Twins.{apart, first_other, is_heard_after, is_heard_before, is_left, is_lost, is_near, is_passed, is_twin, kept, missing, missing_of, same_net, stays}
unfoldable pub use Rattle.judge.specs.Twins.{found_at_end, found_missing, left_waiting, pairing_with, twin_deviation, twin_other}
pub use Rattle.judge.specs.State.{Arrived, Fields, Flow, Head, Joining, Last, Line, Link, Measure, Nearness, PieceIn, Refused, Setting, Span, Sub, Tag, Times, Verdict}
pub use Rattle.judge.specs.Waiting.{Pairing, Wait}
pub use Rattle.judge.specs.declared.figures.Total.{Total}
pub use Rattle.judge.specs.declared.finding.Finding.{Finding}
pub use Rattle.judge.specs.declared.finding.FindingKind.TheVariants.{Missing}
pub use Rattle.judge.specs.declared.finding.FragmentMisfit.{FragmentMisfit}
pub use Rattle.judge.specs.declared.finding.FragmentMisfit.TheVariants.{Identification, Offset}
pub use Rattle.judge.specs.declared.judge.Options.{Options}
pub use Rattle.vl_shaper.specs.declared.shaper.Stamp.{Stamp}
pub use Rattle.afdx_laws.specs.NoFalseAlarm.{AreFit, IsBegun, IsMissing, NoneByBeginning, IsRunOf, IsSent, NoFalseAlarm, lag_of, packets_of, IsRecord, IsRecording}
pub use Rattle.afdx_laws.specs.Frames.{IsRecordedAs}
pub use Rattle.afdx_laws.specs.NothingFound.{time_of, IsInOrder, NothingFound, IsWhole}
pub use Rattle.afdx_laws.specs.NothingMissed.{AreUnchecked, EndsWhole, IsExplained, IsOctets, IsReleased, IsSentTo, IsStrict, NothingMissed, entry_of, frames_of, sent_to}
pub use Rattle.afdx_laws.specs.Releases.{AreApart, AreExplained, AreExplainedAfter, EarlyExactly, Heard, IsReleaseOf, NoneIsEarly, is_after, times_of}
pub use Rattle.afdx_laws.specs.TwinsWanted.{HasTwin, IsCommon, IsOnBoth, IsOnOther, TwinsWanted}
pub use Rattle.std.specs.Option.{IsSome}
pub use Rattle.afdx_laws.specs.WorkedFindings.{FindsNoneOfAll, FindsNothing, FindsTwins, MissesNothing, NeedsItsPremises, NeedsTheTime, apart_by_100, behind, both_at, from, begun_later, first_alone, half_gap, late, loose, middle, packet, seconds_at, strict, third_frame, three_on_both, turned, with_check, with_skew}
