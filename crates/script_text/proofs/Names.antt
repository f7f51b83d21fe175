-- Names of other crates, and of this crate's definitions, for the proofs here.
pub use Rattle.std.proofs.Common.{arith, ◌≡◌, ℕ, ◌+◌, ◌-◌, ◌≤◌, ◌<◌, ◌==◌, Bool, true, false, List, [], ◌∷◌, ◌++◌, zero, suc, length, take, drop, get_or, refl, ap, append_assoc, if◌then◌else◌, length-take, length-append, drop-drop, Option, Some, None, ◌≢◌, cond, ◌∙◌, length-drop, ◌⊎◌, filter, add-zero, ◌*◌, sym, subst, not}
pub use Rattle.std.proofs.lemmas.Bool.{false_from_ne_true, ne_eqb, cases_lt}
pub use Rattle.std.proofs.lemmas.List.{take_all, drop-take, append-nil, take-append-le, drop-append-le, length-take-le, get_or-drop, drop_more, drop_all, flat_map_more}
pub use Rattle.std.proofs.Math.Seq.{drop-append_seam}
pub use Rattle.std.specs.Prelude.{slice_range}
pub use Rattle.std.specs.Io.KnownBytes.{Consumes, prepend_known, IsAtEnd, Appends}
pub use Rattle.script_text.specs.Lines.{before_feed, IsPlain, TakesPlain, after_feed, has_feed, without_return, TakesLine, BeginsLong}
pub use Rattle.std.proofs.KnownBytes.{Consumes-trans, Appends-trans}
pub use Rattle.std.specs.List.{sum_by, slice_split, flat_map}
pub use Rattle.std.proofs.lemmas.List.Sums.{sum_by-cons}
pub use Rattle.redundant_mux.specs.Lines.{Entry, entry}
pub use Rattle.script_text.specs.Command.{message_of, port_number, moment_of, link_number, sub_number, is_blank, is_some_text, read_on, is_numeral}
pub use Rattle.script_text.specs.Faults.{send_fault, at_fault, close_fault}
pub use Rattle.script_text.specs.Meaning.{IsSaidSend, IsSaidAt, IsSaidClose}
pub use Rattle.script_text.specs.declared.line_meaning.Line.TheVariants.{Send, At, Close}
pub use Rattle.script_text.specs.declared.faults.LineFault.TheVariants.{Word, Number, Hex, Extra}
pub use Rattle.script_text.specs.Transcript.{frame_line}
