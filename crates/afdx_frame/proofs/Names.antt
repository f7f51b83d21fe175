-- Names of other crates, and of this crate's definitions, for the proofs here.
unfoldable pub use Rattle.afdx_frame.specs.Checksum.{checksum, udp_checksum}
pub use Rattle.afdx_frame.specs.Checksum.{OneUdpChecksum, word_sum}
unfoldable pub use Rattle.afdx_frame.specs.Cutting.{cutting, pieces_left}
pub use Rattle.afdx_frame.specs.Cutting.{Cutting, IsCutting, SameMessage, TakesFirst, cut_by, piece_at, pieces_from, uncut}
unfoldable pub use Rattle.afdx_frame.specs.Fragments.{fragments_at}
pub use Rattle.afdx_frame.specs.Fragments.{Sent, blanked, fragments_from, fragments_left}
unfoldable pub use Rattle.afdx_frame.specs.Frame.{addresses, datagram, header_front, internet_header, link_header, udp_header, udp_sum, unnumbered}
pub use Rattle.afdx_frame.specs.Frame.{datagram_len, fragment_word, frame_of, interface_byte, more_fragments, udp_front}
pub use Rattle.afdx_frame.specs.Header.{IsFrameOf, link_in, number_in, sub_in, twin_of}
pub use Rattle.afdx_frame.specs.Profile.{HasAddresses, HasFragmentation, HasInternetHeader, HasLinkHeader, HasZeroPadding, IsFrame, fragment_field, total_length, word_at}
unfoldable pub use Rattle.afdx_frame.specs.Layout.{internet_broken, layout_broken, link_broken, end_broken}
pub use Rattle.afdx_frame.specs.Layout.{first_nonzero, has_fragment, has_total, has_units, kept_then, padding_of}
pub use Rattle.afdx_frame.specs.ReadBack.{IsPiece, Says, ChangedWordsFail, ChecksumsPass, IsWordChanged, ReassembledPass}
pub use Rattle.afdx_frame.specs.Reassembly.{AnyOrder, Buffer, Fragment, NotBefore, bytes_from, bytes_to, covers, empty, fragment_of, fragments_of, joined, put, put_all}
unfoldable pub use Rattle.afdx_frame.specs.Template.{unfilled}
pub use Rattle.afdx_frame.specs.declared.layout.Breach.{Breach}
pub use Rattle.afdx_frame.specs.declared.layout.Layout.{Layout}
pub use Rattle.afdx_frame.specs.declared.net.Net.{Net}
pub use Rattle.afdx_frame.specs.declared.net.Net.TheVariants.{A}
pub use Rattle.afdx_frame.specs.declared.field.Piece.{Piece}
pub use Rattle.afdx_plan.specs.Address.{two_bytes}
pub use Rattle.afdx_plan.specs.Plan.{identification, step_of, IsPort}
pub use Rattle.afdx_plan.specs.declared.port_plan.PortPlan.{PortPlan}
pub use Rattle.arrayvec.proofs.ArrayVecLemmas.{items-with_items}
pub use Rattle.std.proofs.Common.{Bool, List, MatchOption, None, Option, Some, [], ap, append-nil, append_assoc, arith, drop, false, get_or, inl, inr, length-append, length, map, max, nat_le, nat_lt, not, refl, replicate, rules, set, slice_index, subst, suc, sum, sym, take, true, zero, ℕ, ◌%◌, ◌*◌, ◌++◌, ◌+◌, ◌-◌, ◌/◌, ◌<◌, ◌∙◌, ◌∷◌, ◌≡◌, ◌≢◌, ◌≤◌, ◌⊎◌, ◌==◌, ◌↔◌}
pub use Rattle.std.proofs.Math.ListN.{length-replicate}
pub use Rattle.std.proofs.Math.Seq.{drop-append-add, get_or-append_right, take-append-add, take-append_seam, take-set-lt}
pub use Rattle.std.proofs.lemmas.Bool.{cases_Bool, cases_lt, false_from_ne_true, le-ltb}
pub use Rattle.std.proofs.lemmas.Bool.Decides.{nat_tests}
pub use Rattle.std.proofs.lemmas.List.{drop-drop, drop_all, drop_at, get_or-drop, get_or-map, get_or-replicate, get_or-set_other, get_or-set_same, get_or-take, take-take, take-append-drop, take-append-le, take_all, get_or_append_left, get_or_push, length-drop, length-map, length-set, length-take, length-take-le, map-append, set-get_or, set-set, set_past, take-replicate, take_at}
pub use Rattle.std.proofs.lemmas.List.Sums.{fails_before_first, position_or_len_is, sum_by-cons}
pub use Rattle.std.proofs.lemmas.List.Elements.{All-contains, All-contains_itself, All-from_recursion, All-head, All-map, All-tail, All-weaker, Contains-get_or, recursion_from_All}
pub use Rattle.std.specs.List.{AllByRecursion, list_any}
pub use Rattle.std.specs.Option.{option_or}
pub use Rattle.std.specs.Prelude.{All, Contains, if◌then◌else◌}
pub use Rattle.std.proofs.lemmas.List.Folds.{list_any_at, list_any_none}
pub use Rattle.std.proofs.lemmas.Simd.{map-map}
pub use Rattle.afdx_frame.specs.Template.{Buffered}
pub use Rattle.afdx_plan.specs.declared.port_plan.UdpSum.TheVariants.{Generated}
pub use Rattle.afdx_frame.specs.Worked.{ChecksOneHeader, CutsInTwo, KeepsTwoPieces, long_sent, TurnsOneFrame, SaysItsFields, GrowsByOne, CutsBoth, TurnsThreeFragments, ThreePieces, MissesTheMiddle, ChecksThreeDatagrams, first_datagram, damaged_datagram}
pub use Rattle.afdx_plan.specs.Demo.{demo_port}
pub use Rattle.afdx_plan.proofs.DemoPlan.{demo_port_is}
