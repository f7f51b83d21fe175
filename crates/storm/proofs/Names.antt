-- The names of other crates, and of this one's definitions, that the proofs here use.
pub use Rattle.std.proofs.Common.{All, List, [], add-one, ap, arith, cond, false, get_or, length, map, nat_eq, refl, rules, set, subst, suc, sym, take, tests, zero, ℕ, ◌&&◌, ◌*◌, ◌++◌, ◌+◌, ◌<◌, ◌∙◌, ◌∷◌, ◌≡◌, ◌≤◌, Result, IfOk, IsOkAnd, Ok}
pub use Rattle.std.proofs.Math.Seq.{map-set_same, take-length, take-suc}
pub use Rattle.std.proofs.lemmas.Grind.{common_steps}
pub use Rattle.std.proofs.lemmas.List.{get_or-map, get_or-set_other, length-append, length-map, map-append}
pub use Rattle.std.proofs.lemmas.List.Elements.{All-contains, Contains-get_or}
pub use Rattle.std.specs.Io.KnownBytes.{Appends}
pub use Rattle.std.specs.List.{sum_by}
pub use Rattle.afdx_legal.specs.Accepted.{AreAllowed, AreOwn, IsAllDone, IsHandedWhole}
pub use Rattle.afdx_legal.specs.Legal.{Accepted, AreKnown, IsLegal, is_on_both, on_both}
pub use Rattle.afdx_legal.specs.Streams.{AreOwnStreams}
pub use Rattle.afdx_plan.specs.Config.{IsPlan, Plan, link_plan_at, port_plan_at}
pub use Rattle.afdx_plan.specs.declared.link_plan.LinkPlan.{LinkPlan}
pub use Rattle.afdx_tx.specs.Run.{accepted_in}
pub use Rattle.afdx_tx.specs.Emitter.{IsFreshTx, Tx, queues_in}
pub use Rattle.afdx_tx.specs.Ports.{AreFreshPorts, AreOpenedWith, BelongsTo, HasEveryPlace, PortView}
pub use Rattle.redundant_mux.specs.Lines.{Entry, log, side}
pub use Rattle.redundant_mux.specs.Memory.{entries, entry_of}
pub use Rattle.status_board.specs.Views.{NoFieldFalls, value_of, zeros, AreNew, IsReading, Published, Watched, last_of, links_of, no_cell, published, seen}
pub use Rattle.status_board.specs.declared.counts.Counts.{Counts}
pub use Rattle.subvl_queue.specs.Views.{SenderView}
pub use Rattle.storm.specs.Threads.{IsShown, ReadsFirst, ReadsOnly, all_counts, cells_of, cells_read, own_counts}
pub use Rattle.storm.specs.Workers.{messages_to, own_messages, AreAtMost, AreSpent, IsSpent, asked_after, asked_by, named, sent_all}
pub use Rattle.storm.specs.Storms.{link_lines_to, totals_of}
pub use Rattle.atomic_table.specs.Seated.{TableId}
pub use Rattle.status_board.proofs.Histories.{last_or-push}
pub use Rattle.afdx_tx.specs.Calls.{Publishes}
pub use Rattle.std.proofs.lemmas.List.Sums.{sum_by-cons}
pub use Rattle.afdx_tx.specs.Gathering.{IsGatheredTx}
pub use Rattle.std.proofs.lemmas.List.Filters.{length-filter_more}
pub use Rattle.afdx_frame.specs.Header.{link_in}
pub use Rattle.afdx_frame.specs.declared.net.Net.{Net}
pub use Rattle.redundant_mux.specs.declared.memory.Handed.{Handed}
pub use Rattle.afdx_legal.proofs.StreamLemmas.{known_all}
pub use Rattle.afdx_frame.specs.declared.net.Net.TheVariants.{A, B}
pub use Rattle.std.proofs.lemmas.Iterator.{YieldsList-from_slice}
pub use Rattle.std.proofs.lemmas.Iterator.Search.{any_from_yields_List}
pub use Rattle.afdx_plan.specs.Plan.{is_both}
pub use Rattle.std.specs.Prelude.{◌↔◌, IsTrue}
