-- Names of other crates, and of this crate's definitions, for the proofs here.
pub use Rattle.afdx_frame.specs.declared.net.Net.{Net}
pub use Rattle.afdx_handle.specs.EndSystem.{PollsTx, tx_of, AreOfPoll, ClosesEnd, EndView, IsAllSent, IsEndSystem, TakesPort, end_view, has_id, made_at, made_for}
pub use Rattle.afdx_handle.specs.Held.{port_of}
pub use Rattle.afdx_handle.specs.Listing.{bytes_of, first_made, lengths_of, link_id, port_id, with_front}
pub use Rattle.afdx_tx.specs.Phases.{Runs}
pub use Rattle.afdx_handle.specs.contracts.end_system.EndSystem.{the_view}
pub use Rattle.afdx_handle.specs.declared.handle.Home.{Home}
pub use Rattle.afdx_handle.specs.declared.end_system.Stage.{Stage}
pub use Rattle.afdx_tx.specs.Run.{accepted_in}
pub use Rattle.afdx_tx.specs.Emitter.{Tx}
pub use Rattle.afdx_tx.specs.Gathering.{IsGatheredTx}
pub use Rattle.afdx_tx.specs.Ports.{IsPortOfTx, LacksPlace, PortView}
pub use Rattle.core.proofs.alloc.Calls.{Goes-blank, handle_tells, token}
pub use Rattle.core.proofs.mem.Facts.{says_two}
unfoldable pub use Rattle.redundant_mux.specs.Lines.{log}
pub use Rattle.redundant_mux.specs.Lines.{Endures, Keeps, Lines}
pub use Rattle.std.proofs.Common.{Bool, Some, ap, append_assoc, arith, drop-cons, false, inl, inr, length, length-take-le, map, position, rules, set, subst, suc, sym, take, true, vec_capacity, zero, ℕ, ◌*◌, ◌+◌, ◌-◌, ◌<◌, ◌∙◌, ◌≡◌, ◌≤◌, MutBor}
pub use Rattle.std.proofs.lemmas.Bool.{cases_Bool, eqb-true}
pub use Rattle.std.proofs.lemmas.List.{append-nil, drop-drop, length-map, map-append, map_more}
pub use Rattle.std.proofs.lemmas.List.Elements.{All-head, All-push, filter-append}
pub use Rattle.std.proofs.raw_atomic.Walks.{proved, proved_at}
pub use Rattle.std.specs.List.{concat}
pub use Rattle.std.specs.Prelude.{All, IsPermutation, IsSome, None, Option, filter, get_or, not, swap_remove, ◌↔◌}
pub use Rattle.std_alloc.proofs.BoxSteps.Form.{B, Bx, D, P, R, box_ty, box_typed, word, τ, handle}
pub use Rattle.std_alloc.proofs.BoxSteps.Steps.{box_in, box_out}
pub use Rattle.std_alloc.proofs.VecSteps.Shapes.{after}
pub use Rattle.std_alloc.specs.Box.Ownership.{box_owns}
pub use Rattle.std_heap.specs.contracts.GlobalAllocator.TheImpl.{ghosts}
pub use base.Fml.{flft, fsep, ftrue, GName, fat}
pub use base.Fraction.{full_share}
pub use base.Logic.{emp, ent, fst∗, id⊢, never, sep}
pub use contract.BorrowLft.{◌⊑◌}
pub use contract.Monad.{fact, fact_i}
pub use contract.Running.{tables}
pub use denote.Exit.{no, yes}
pub use denote.Follow.{follows, Part, lends_Part}
pub use denote.Laws.{shows}
pub use denote.Memory.{cell_at, part_at, mem, lone}
unfoldable pub use denote.Memory.{part_of}
pub use denote.Param.{bounded}
pub use denote.Param.NoDrop.{glues}
pub use denote.RattleType.{Valss}
pub use denote.RawPtr.{Ptr, RawPtr, block_ptr, in_a_block, null_ptr, ptr_val}
pub use denote.Ref.{MutRef, mut_vals, mut_Tells}
pub use denote.Signature.{plain, mut_ref_to}
pub use denote.Steps.{heard, nothing, only, opens, peeks, closes}
pub use denote.Struct.Laws.{copy}
pub use denote.Struct.Owning.{shape, to, fields}
pub use denote.Struct.Struct.{Struct, within}
pub use denote.Triple.Call.{calls_at, calls_at_last}
pub use denote.Triple.Spec.{triple_of}
pub use denote.Triple.Table.{framed}
pub use denote.Triple.Walked.{Goes-dropped, Stays, ends_at, says, stay_dropped, walk_of, Goes-spent_ref, stay_ref, Goes-ref}
pub use lib.Dec.{T}
pub use mathlib.Core.List.{List, [], ◌++◌, ◌∷◌}
pub use mathlib.Core.Path.{refl}
pub use mir.MapTy.{inst_fn}
pub use mir.Syntax.{Args, a_type, dcons, dnil, named}
pub use mir.Val.{Val, WT, has_ty, of_list, vptr, vstruct}
pub use prog.Wp.{WpFn}
pub use types.ByLocal.{alloc_all, env, free_all, get, get_in, lands_as, lands_last, look_at, pass_all, sets, through, sets_last}
pub use types.Kit.{ !, Item, at_ret, await, done, drop, feq_i, feq_l, fjoin, fpack, fpick, fsplit, join, later, move, pick, qed, raw, rewrite, some, split, split3, suffices, use1, ‵, ◌$◌, ◌∵◌, ◌⊛◌, prop, regoal, keep, fsplit3, fjoin3, frame, group, use0}
pub use types.Logic.{sem}
pub use types.Part.{agg, sub, whole, look_in}
pub use types.Run.{and_then, blocks, enter, exec, first, fld, no_more, of_opd, returns, stop, addr, load}
pub use types.Tokens.{lft_new, lft_end}
