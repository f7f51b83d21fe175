-- Names of other crates, and of this crate's definitions, for the proofs here.
pub use Rattle.std.proofs.Common.{arith, ◌≡◌, ℕ, ◌≤◌, Bool, true, false, List, length, get_or, Some, None, refl, cond, ◌+◌, ◌-◌, ◌<◌, [], ◌∷◌, map, drop, length-drop, vec_len, replicate, ◌++◌, rules}
pub use Rattle.std.specs.Prelude.{find, position, bytes_eq, nat_lt, slice_range, filter}
pub use Rattle.std.specs.List.{position_or_len}
pub use Rattle.std.proofs.lemmas.List.Folds.{find_at}
pub use Rattle.std.proofs.lemmas.List.Quantifiers.{position-Some}
pub use Rattle.std.proofs.lemmas.Bool.Decides.{nat_tests}
pub use Rattle.std.proofs.lemmas.Slice.Eq.{bytes_eq-Decides}
pub use Rattle.std.proofs.lemmas.Option.{slice_get_read, slice_get_past}
pub use Rattle.std.proofs.lemmas.List.{drop_more, get_or-map, length-map, take_all, drop-map}
pub use Rattle.afdx_frame.specs.declared.net.Net.TheVariants.{A, B}
pub use Rattle.capture.specs.Order.{merged, next_net}
pub use Rattle.capture.specs.Recording.{Recorded, recorded}
pub use Rattle.capture.specs.declared.packet.Packet.{Packet}
pub use Rattle.judge.specs.Judging.{OnNet, Judging, after_packet, found_with_packet, found_from, found_left, new_link, findings}
pub use Rattle.judge.specs.declared.finding.Finding.{Finding}
pub use Rattle.judge.specs.Merging.{on_net, of_net, first_time, from_places, time_of, BeginsOn}
pub use Rattle.judge.specs.CheckSequence.{remainder_of}
pub use Rattle.judge.specs.Twins.{is_left, missing_of, is_lost, first_other, stays}
pub use Rattle.std.proofs.lemmas.Fn.{filter_same}
