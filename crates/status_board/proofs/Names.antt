-- Names of other crates, and of this crate's definitions, for the proofs here.
pub use Rattle.std.proofs.Common.{arith, ◌≡◌, ℕ, ◌+◌, List, [], ◌∷◌, ◌++◌, refl, sym, ap, ◌∙◌, append-nil, append_assoc, length, length-append, ◌≢◌, zero, suc, set, true, false, subst, rules}
pub use Rattle.std.proofs.lemmas.List.{map-append, nil_from_length}
pub use Rattle.status_board.specs.declared.counts.Counts.{Counts}
pub use Rattle.status_board.specs.declared.rule.Stamped.{Stamped}
pub use Rattle.status_board.specs.Views.{NoFieldFalls, last_or, RisesFrom, value_of, IsRising, StartsWith, zeros, Watched, IsReading, AreNew}
pub use Rattle.status_board.specs.Rule.{counts_of, AreAfter, stamped, opener, Fits, KeepsHistory, Adds, FindsEntry, Agrees, without_reading, as_monitor, as_told, hearing, nobody}
pub use mathlib.Core.Option.{some, some-ne-none, some-injective}
pub use lib.ListN.{get_elem?}
pub use Rattle.crossbeam_utils.specs.Register.{Turns, Forks, Merges}
pub use Rattle.atomic_table.specs.Seated.{TableId}
pub use Rattle.atomic_table.proofs.Lists.{at_set, set_again, set_else}
pub use Rattle.status_board.specs.declared.rule.View.{View}
pub use Rattle.crossbeam_utils.specs.Seq.{cell_view}
