-- Names of other crates, and of this crate's definitions, for the proofs here.
pub use Rattle.std.proofs.Common.{Bool, List, None, Option, Some, [], ap, arith, cond, eqb, false, inl, inr, length, ltb, nat_eq, nat_le, refl, subst, suc, take, true, zero, ℕ, ⊎_elim, ◌%◌, ◌&&◌, ◌*◌, ◌+◌, ◌-◌, ◌/◌, ◌<◌, ◌∙◌, ◌∷◌, ◌≡◌, ◌≢◌, ◌≤◌, ◌⊎◌}
pub use Rattle.std.proofs.lemmas.Bool.{cases_eq, cases_lt, eq-eqb, le-leb, ne_eqb}
pub use Rattle.std.proofs.lemmas.List.Sums.{sum_by-cons}
pub use Rattle.std.proofs.lemmas.Nat.{mod-mul-add, mul-le}
pub use Rattle.vl_shaper.specs.Pace.{AreChosen, Choice, IsChosen, IsPassedOver, OneEach, next_turn, IsLater, turn_of, users_among, AreOfUsers}
pub use Rattle.vl_shaper.specs.Latency.{BoundIsMet, HasUntil, QueuedMessage, turns_of}
pub use Rattle.vl_shaper.specs.WorkedChoices.{ChoosesOneEach, LeavesOneBehind, WaitsBehindOne, WaitsForUsers, busy_choice, pair_choice, lone_choice}
pub use Rattle.vl_shaper.specs.declared.shaper.Stamp.{Stamp}
pub use Rattle.std.proofs.Math.Nat.{mod-add-mod, mod-lt}
pub use Rattle.vl_shaper.specs.Polls.{Poll, IsServed, AreServed, ArePolled, latest_poll, is_of, IsOfUser, ServeUsers, HasAtPolls, released_by, PolledInTime}
pub use Rattle.std.proofs.lemmas.Bool.Decides.{nat_tests}
pub use Rattle.std.specs.Prelude.{nat_lt}
pub use Rattle.std.proofs.lemmas.List.{take_all}
pub use Rattle.vl_shaper.specs.WorkedPolls.{served_at_0, ServesInTime, ServesUsersInTime, ReleasesAtOnce, PolledTooLate}
pub use native.Mathlib.Nat.{lt_of_mul-lt-mul_left, mul-suc}
