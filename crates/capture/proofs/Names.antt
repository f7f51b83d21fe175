-- The names of other crates, and of this one's definitions, that the proofs here use.
pub use Rattle.std.proofs.Common.{Bool, Err, List, None, Ok, Option, Result, Some, ap, append-nil, append_assoc, arith, drop, eq-eqb, false, length, length-append, length-drop, length-take, map, refl, suc, sym, take, true, zero, [], ℕ, ◌%◌, ◌*◌, ◌++◌, ◌+◌, ◌-◌, ◌/◌, ◌<◌, ◌^◌, ◌∙◌, ◌∷◌, ◌≡◌, ◌≤◌, subst}
pub use Rattle.std.proofs.Math.Nat.{div-eq_of_lt, pow-le-pow_right}
pub use Rattle.std.proofs.Math.Seq.{drop-append_seam, take-append_seam}
pub use Rattle.std.proofs.lemmas.Bool.{le-ltb, ne_eqb}
pub use Rattle.std.proofs.lemmas.Grind.{common_steps}
pub use Rattle.std.proofs.lemmas.List.{drop-append-le, drop-drop, drop_all, length-replicate, map-append, take-append-le, take_all}
pub use Rattle.std.proofs.lemmas.List.Elements.{All-head, All-tail}
pub use Rattle.std.proofs.lemmas.Result.{err_from_is_err_and}
pub use Rattle.std.specs.Prelude.{All, codes, if◌then◌else◌, nat_eq, nat_lt, slice_range}
pub use Rattle.afdx_frame.specs.declared.net.Net.{Net}
pub use Rattle.afdx_frame.specs.declared.net.Net.TheVariants.{A, B}
pub use Rattle.byteorder.specs.Numbers.{big_from-append, little_from-append, little_number-reads_back}
pub use Rattle.redundant_mux.specs.Lines.{Entry, entry}
pub use Rattle.script_text.proofs.Written.{HasWritten}
pub use Rattle.capture.specs.Capture.{block, fill, filled, interface_of, packet_body, packet_front}
unfoldable pub use Rattle.capture.specs.Capture.{half, header_blocks, interface_block, packet_block, packet_blocks, section_block, word}
pub use Rattle.capture.specs.Interfaces.{known, network_of, nothing_lost, ◌>>=◌}
unfoldable pub use Rattle.capture.specs.Interfaces.{first_option, time_of, with_option, with_options}
pub use Rattle.capture.specs.Losses.{Valued, count_in, count_under, counted, from_front, lost_of, lost_on, packet_options, with_losses}
unfoldable pub use Rattle.capture.specs.Losses.{options_in, with_packet_losses, with_statistics}
pub use Rattle.capture.specs.Order.{Captured, IsInTime, RiseFrom, captured_moments, moments, next_net, on}
unfoldable pub use Rattle.capture.specs.Order.{in_order}
pub use Rattle.redundant_mux.specs.Memory.{first_moment}
pub use Rattle.capture.specs.ReadBack.{Fits, ReadsBack, packet_for, packets_on}
pub use Rattle.capture.specs.Recording.{Content, Moved, Progress, Recorded, Recording, at_start, content, ended, lost_by, moved, no_packet, or_stop, read_capture, read_from, recorded, recorded_if, stopped, telling, then_read, with_bytes, with_packet}
unfoldable pub use Rattle.capture.specs.Recording.{block_content, body_of, content_of, enhanced, enhanced_content, interface_content, next, read_within, section_content}
pub use Rattle.capture.specs.Streaming.{IsRoomEnough, StepsOn, StopsThere}
pub use Rattle.capture.specs.Units.{number_at, section_type}
unfoldable pub use Rattle.capture.specs.Units.{block_size, header_unit, record_size, section_unit, size_of, unit_of}
pub use Rattle.capture.specs.declared.stop.CaptureEnd.{CaptureEnd}
pub use Rattle.capture.specs.declared.stop.CaptureEnd.TheVariants.{Whole}
pub use Rattle.capture.specs.declared.interface.Interface.{Interface}
pub use Rattle.capture.specs.declared.interface.OptionFront.{OptionFront}
pub use Rattle.capture.specs.declared.order.Order.{Order}
pub use Rattle.capture.specs.declared.order.Order.TheVariants.{Big, Little}
pub use Rattle.capture.specs.declared.packet.Packet.{Packet}
pub use Rattle.capture.specs.declared.stop.Fault.{Fault}
pub use Rattle.capture.specs.declared.stop.NoStep.{NoStep}
pub use Rattle.capture.specs.declared.stop.NoStep.TheVariants.{Malformed, More}
pub use Rattle.capture.specs.declared.unit.Format.{Format}
pub use Rattle.capture.specs.declared.unit.Format.TheVariants.{Blocks, Records, Unknown}
pub use Rattle.capture.specs.declared.unit.TheConstants.{GREATEST_UNIT}
pub use Rattle.capture.specs.declared.unit.Unit.TheVariants.{Block, Header, Record, Section}
pub use Rattle.std.proofs.lemmas.Bool.Decides.{nat_tests}
pub use Rattle.capture.specs.declared.unit.Unit.{Unit as CaptureUnit}
pub use Rattle.std.proofs.KnownBytes.{Appends-trans}
pub use Rattle.std.specs.Io.KnownBytes.{Appends}
pub use Rattle.std.proofs.lemmas.Option.{slice_get_past, slice_get_read}
pub use Rattle.std.specs.Prelude.{get_or, slice_set}
pub use Rattle.capture.specs.declared.losses.Losses.{Losses}
pub use Rattle.std.proofs.lemmas.List.Sums.{sum_by-drop_more}
