-- The names of other crates, and of this one's definitions, that the proofs here use.
pub use Rattle.std.proofs.Common.{Bool, List, [], ap, arith, cond, drop, eqb, false, get_or, inl, inr, length, map, max, nat_eq, nat_le, nat_lt, not, refl, rules, subst, suc, sym, take, true, zero, ℕ, ◌%◌, ◌&&◌, ◌*◌, ◌++◌, ◌+◌, ◌-◌, ◌<◌, ◌||◌, ◌∙◌, ◌∷◌, ◌≡◌, ◌≢◌, ◌≤◌, ◌⊎◌}
pub use Rattle.std.proofs.Math.Seq.{take-append_seam, drop-append_seam}
pub use Rattle.std.proofs.lemmas.Bool.{and_parts, cases_Bool, cases_eq, cases_lt, eq-eqb, le-leb, ne_eqb}
pub use Rattle.std.proofs.lemmas.Bool.Decides.{nat_tests}
pub use Rattle.std.proofs.lemmas.List.{append-nil, append_assoc, drop_all, drop_at, drop_more, get_or-map, length-append, length-map, length-take, map-append, set-set, take-append-drop, take-map, take-take, take_all, take_more}
pub use Rattle.std.proofs.lemmas.List.Elements.{All-append, All-cons, All-filter, All-from_recursion, All-head, All-map, All-tail, All-take, All-weaker, filter_passes, All-drop}
pub use Rattle.std.proofs.lemmas.List.Sums.{sum_by-cons}
pub use Rattle.std.proofs.lemmas.Nat.{le-div, mul-le}
pub use Rattle.std.proofs.lemmas.Simd.{map-map}
pub use Rattle.std.specs.List.{AllByRecursion, AllZip, IsDistinct, list_any}
pub use Rattle.std.specs.Prelude.{All, None, Option, Some, filter, slice_index}
pub use Rattle.afdx_plan.proofs.DemoPlan.{demo_valid}
pub use Rattle.afdx_plan.specs.Config.{IsPlan, Plan, link_plan_at}
pub use Rattle.afdx_plan.specs.Plan.{identification, sequence_number, IsLink, IsPort, bag_micros, room_of, step_of}
pub use Rattle.afdx_plan.specs.declared.link_plan.LinkPlan.{LinkPlan}
pub use Rattle.afdx_plan.specs.declared.link_plan.Networks.{Networks}
pub use Rattle.afdx_plan.specs.declared.link_plan.Networks.TheVariants.{Both, OnlyA}
pub use Rattle.afdx_frame.proofs.CuttingLemmas.{cutting_some}
pub use Rattle.afdx_frame.proofs.Says.{length-frame, payload_says, says, total_ok}
pub use Rattle.afdx_frame.proofs.Twins.{twin_link, twin_number, twin_same, twin_sub, twin_twice}
unfoldable pub use Rattle.afdx_frame.specs.Checksum.{checksum}
pub use Rattle.afdx_frame.specs.Cutting.{cut_by, pieces_from}
unfoldable pub use Rattle.afdx_frame.specs.Cutting.{cutting}
pub use Rattle.afdx_frame.specs.Fragments.{Sent, blanked, fragments, fragments_from}
unfoldable pub use Rattle.afdx_frame.specs.Fragments.{fragments_at}
pub use Rattle.afdx_frame.specs.Frame.{interface_byte}
unfoldable pub use Rattle.afdx_frame.specs.Frame.{addresses, datagram, header_front, internet_header, link_header, udp_header, unnumbered}
pub use Rattle.afdx_frame.specs.Header.{link_in, number_in, sub_in, twin_of}
pub use Rattle.afdx_frame.specs.Profile.{word_at}
pub use Rattle.afdx_frame.specs.ReadBack.{IsPiece}
pub use Rattle.afdx_frame.specs.Reassembly.{Buffer, Fragment, datagram_in, empty, end_of, fragment_of, fragments_of, put, put_all}
pub use Rattle.afdx_frame.specs.declared.net.Net.{Net}
pub use Rattle.afdx_frame.specs.declared.net.Net.TheVariants.{A, B}
pub use Rattle.afdx_frame.specs.declared.field.Piece.{Piece}
pub use Rattle.redundant_mux.specs.Lines.{Entry, entry, side}
pub use Rattle.afdx_legal.proofs.StreamLemmas.{known_all, numbered_at, numbered_map, with_append, with_map, on_both_is, counts_more}
pub use Rattle.afdx_legal.specs.Accepted.{IsAllowed, IsQueued, messages_of, IsReleased}
pub use Rattle.afdx_legal.specs.Legal.{Accepted, AreKnown, AreTwins, IsKnown, IsLegal, IsLegalOn, is_on_both, on_both}
pub use Rattle.afdx_legal.specs.Streams.{own_stream, IsNumbered, IsPrefixOf, IsSpaced, link_stream, stamp_of, sub_stream, those_with, told, unnumbered_fragments, longer as longer_stream, before_next, IsFollowedInTurn, TakesTurns}
pub use Rattle.afdx_laws.specs.Buffers.{FirstIsGiven, HandedNeedOne, HasUpTo, HoldsAFrame, HoldsOne, IsOneEnough, LegalNeedOne, LegalNeedOneDespite, NeedsInTurn, NeedsOrder, OneBuffer, buffers_after, piece, two_begun, two_datagrams}
pub use Rattle.afdx_laws.specs.Delivery.{AreCarriedOf, AreFirst, AreGiven, AreHanded, DespiteLoss, HandedArrive, HandedDespiteLoss, HasByte, InOrder, IsHanded, IsLinkOf, IsOfNet, IsSending, IsSent, MessagesArrive, delivered, fragment_in, kept_in, keyed, longer, messages_in, of_sub, sent_from, with_buffer}
pub use Rattle.afdx_laws.specs.Loss.{AreClose, AreWithin, BeginsFirst, FirstComes, LossMasked, MaskedFromFirst, NumbersClash, StartsFirst, frame_at, frames_at, next_alone, same_net}
pub use Rattle.afdx_laws.specs.Plans.{AllOnBoth, IsHandedOver, IsOn, IsOnBoth, LegalArrive, LegalDespiteLoss, LegalPasses, OneNetworkArrives, OwnListsArrive, all_from, frames_of, handed_to, id_at, longer_of, piece_room}
pub use Rattle.afdx_laws.specs.Policer.{Account, AreBetween, AreOnTime, Arrival, Charge, IsOnItsWay, IsOnTime, IsUpTo, NeedsTheGreatest, NoMorePasses, NoneDropped, Passage, Rule, StreamPasses, arrival, by_bytes, by_frames, cost, filled, full, limit, paid, passed, price, rule_around}
pub use Rattle.afdx_laws.specs.Receiver.{AreCarried, ExactlyOnce, IsLong, IsNear, IsStream, State, Tolerance, ahead, begin, carried, is_ahead, is_valid, most_carried, next_number, other, received, seen_on, with_accepted, with_seen, IsFitFor}
pub use Rattle.afdx_laws.specs.WorkedDelivery.{AcceptsEachOnce, BeginsOnBoth, ComesDespiteLoss, MasksOneLoss, NeedsALag, NeedsAStream, NeedsAWholeNetwork, NeedsHanding, NeedsNumbers, NeedsOneWhole, NeedsTheFirst, OneMessageArrives, bare_frame, bare_stream, both_frames, far_behind, four_arrivals, one_accepted, plain_receiver, same_twice, second_lost, wide_receiver}
pub use Rattle.std.proofs.Math.Nat.{mul-add, le-min}
pub use Rattle.vl_shaper.specs.declared.shaper.Stamp.{Stamp}
pub use Rattle.afdx_frame.proofs.Buffers.{any_order_holds}
pub use Rattle.afdx_laws.specs.Rows.{BothFail, NeedsEach}
pub use Rattle.std.proofs.lemmas.Map.Keys.{IsDistinct-cons, IsDistinct-from_apart}
pub use Rattle.std.proofs.lemmas.Map.Steps.{length-le_from_distinct_below}
pub use Rattle.afdx_laws.specs.NextFragment.{AreNeighbours, IsOfOneOf, NextInARound, FollowWithin, NextInTime, link_wait, longest_wait, NextInPlan, LieTwoGapsApart}
pub use Rattle.afdx_legal.specs.Worked.{TurnsAreTold, one_byte_accepted, one_byte}
pub use Rattle.std.proofs.lemmas.List.Folds.{list_any_at}
pub use Rattle.afdx_frame.proofs.PiecesAre.{pieces_are}
pub use Rattle.afdx_frame.proofs.Datagram.{length-udp_header}
pub use Rattle.afdx_laws.specs.Skew.{SkewIsNear, IsDelivered, released_at, arrival_of, both_copies, ComesInTime}
pub use Rattle.afdx_plan.specs.Demo.{demo_plan, demo_port, demo_link}
pub use Rattle.afdx_laws.specs.WorkedPlan.{one_entry, two_arrivals, OneIsLegal, LegalDespiteOneLoss, one_own, other_own, OwnComes, OneIsWhole, NeedsAll, demo_on, ComesFromOne, AreTwinsOfOne, two_accepted, swapped_accepted, two_entries, PairHanded, AreSwapped, both_arrive, PairArrives, NeedsLegal, both_from_b, NeedsClose, PassesAGapApart}
pub use Rattle.afdx_laws.specs.Counted.{CountsTwo}
