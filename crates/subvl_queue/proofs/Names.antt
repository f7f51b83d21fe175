-- Names of other crates, and of this crate's definitions, for the proofs here.
pub use Rattle.atomic_table.proofs.Lists.{at_last, at_longer, at_set, at_snoc, drop_at, one_turn, set_else, set_here}
pub use Rattle.atomic_table.specs.Table.{Act, Allows, Joins, Splits, State, Valid, carried_after, gives, keeps, opening, rest, step, stepped, takes}
pub use Rattle.std.proofs.Common.{Bool, List, None, Some, [], ap, append-nil, append_assoc, arith, below_more, cond, drop, eq-eqb, eqb, false, get_or, get_or-set_other, get_or-set_same, if◌then◌else◌, length, length-append, length-set, lt_of_not-le, map, mod-eq_of_lt, mod-lt, ne_eqb, refl, replicate, rules, set, subst, suc, sym, take, true, vec_capacity, vec_len, zero, ℕ, ⊎_elim, ◌%◌, ◌*◌, ◌++◌, ◌+◌, ◌-◌, ◌<◌, ◌==◌, ◌^◌, ◌∙◌, ◌∷◌, ◌≡◌, ◌≢◌, ◌≤◌, ◌⊎◌, inl, inr}
pub use Rattle.std.proofs.lemmas.Bool.{cases_Bool, eqb-true}
pub use Rattle.std.proofs.lemmas.List.{get_or_append_left, get_or_push, map-append, map-id, take-append-drop, take-append-le, length-take-le}
pub use Rattle.std.proofs.lemmas.List.Elements.{All-cons, All-nil, Contains-append_right}
pub use Rattle.std.specs.Prelude.{Contains, IfNone, IfSome, Option, bit_or, max}
pub use Rattle.subvl_queue.specs.Views.{IsGathered, brought_back, brought_of, own_of, places_of, whole, AreBack, Brought, HasEvery, HasPort, IsBack, HasAt, HaveRows, IsPlaced, IsLast, heard_from, IsWhole, LacksOne, ReceiverView, SenderView, StandAt, TellsLeft, accepted_of, brought_by, brought_by_all, new_receiver, new_sender, one_more}
pub use Rattle.subvl_queue.specs.Messages.{AreItems, IsItem, IsMessage, part_of, most_bytes, item_of, port_of, room_with}
pub use Rattle.subvl_queue.specs.Queue.{AreGood, AreHeard, IsHeard, SawOpen, IsOut, FoundLoads, MadeReady, AreShut, IsHonest, MissesNone, gave_back, rest_of, Busy, Cell, CellOk, Collects, Fits, Gone, Has, InPhase, Knows, Phase, Queue, Whole, asks_of, budget, budget_of, found_of, free, full, hand_of, holder, in_hand, in_room, owned, reading, shown, shut_bit, total, wait_of, waiting, writing}
pub use Rattle.subvl_queue.specs.Steps.{Lists, AreInRow, Misses, telling, hearing, no_seat, IsLog, IsNext, Seated, reserves, closes, drawn, claims, first_view, freed_of, takes_out, gathers, unreserves, undone, published, finds_closed, holding, lated, finds_ready, new_seat, one_made, publishes, spent_view, with_all, with_ask, with_glance, with_joined, with_look, with_total}
pub use Rattle.subvl_queue.specs.declared.rule.Role.{Role}
pub use Rattle.subvl_queue.specs.declared.rule.Role.TheVariants.{Receiver, Sender, Spent}
pub use Rattle.subvl_queue.specs.declared.rule.Stage.{Stage}
pub use Rattle.subvl_queue.specs.declared.rule.Stage.TheVariants.{Asked, Drew, Holding, Idle, Late, Refused}
pub use Rattle.subvl_queue.specs.declared.rule.View.{View}
pub use lib.ListN.{get_elem?, length-map, length-replicate}
pub use mathlib.Core.Option.{none, some, some-injective, some-ne-none}
pub use mathlib.Core.Path.{Path}
pub use mathlib.Core.Logic.{dite}
pub use lib.Seq.{set-get_or}
pub use lib.Bits.{or_shifted_r}
pub use Rattle.std.proofs.lemmas.Iterator.Adapters.{YieldsList-from_vec}
pub use Rattle.std.proofs.lemmas.Iterator.Consumers.{YieldsList-turn, YieldsList-end}
pub use Rattle.std.proofs.Math.Nat.{mod-add-mod}
pub use native.Mathlib.Decide.{dec_le, ℕ_discrete}
pub use native.Mathlib.Nat.{add-mod_right}
