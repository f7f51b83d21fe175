-- Names of other crates, and of this crate's definitions, for the proofs here.
pub use Rattle.afdx_frame.specs.Fragments.{Sent}
pub use Rattle.afdx_frame.specs.declared.net.Net.{Net}
pub use Rattle.afdx_frame.specs.declared.net.Net.TheVariants.{A, B}
pub use Rattle.afdx_legal.specs.Accepted.{AreAllowed, IsAllowed, messages_of, port_messages}
pub use Rattle.afdx_plan.specs.Config.{IsPlan, Plan, link_place, link_plan_at, port_plan_at}
pub use Rattle.afdx_plan.specs.declared.link_plan.LinkPlan.{LinkPlan}
pub use Rattle.afdx_plan.specs.declared.port_plan.PortPlan.{PortPlan}
pub use Rattle.afdx_tx.proofs.ClosedEmitter.{ClosedLinks, closes_links, closes_within, total_whole}
pub use Rattle.afdx_tx.proofs.PortLink.{found_at, link_within, none_has}
pub use Rattle.afdx_tx.specs.Calls.{ClosesTx, IsSubAt, LacksSub}
pub use Rattle.afdx_tx.specs.Emitter.{IsFreshTx, Tx, queues_in, taken_in, total_in}
pub use Rattle.afdx_tx.specs.Gathering.{HasOwnPart, IsGatheredTx}
pub use Rattle.afdx_tx.specs.Ports.{BelongsTo, LacksPlace, PortView, QueueRefuses, Refuses, length_refusal}
pub use Rattle.afdx_tx.specs.Report.{IsTold}
pub use Rattle.afdx_tx.specs.Run.{IsRun, IsTurn, IsTurnAt, accepted_in, pace_in}
pub use Rattle.afdx_tx.specs.declared.turns.Release.{Release}
unfoldable pub use Rattle.redundant_mux.specs.Lines.{log}
pub use Rattle.redundant_mux.specs.Lines.{Entry, IsMirrored, Keeps, Lines, Logged, sent_to}
pub use Rattle.redundant_mux.specs.Memory.{FrameLog}
pub use Rattle.script_text.specs.Lines.{after_mark, first_line}
unfoldable pub use Rattle.script_text.specs.Meaning.{counted}
pub use Rattle.script_text.specs.Meaning.{HasFew, meaning_of}
pub use Rattle.script_text.specs.Transcript.{ends_writing, note_of, streams}
pub use Rattle.script_text.specs.declared.faults.Refusal.{Refusal}
pub use Rattle.script_text.specs.declared.faults.Refusal.TheVariants.{Closed, Empty, Full, NoPort, NoSub, TooLong}
pub use Rattle.script_text.specs.declared.faults.RunFault.{RunFault}
pub use Rattle.script_text.specs.declared.line_meaning.Line.{Line, Line as Said}
pub use Rattle.script_text.specs.declared.line_meaning.Line.TheVariants.{Close, Send}
pub use Rattle.script_text.specs.declared.transcript.Outcome.{Outcome}
pub use Rattle.std.proofs.Common.{Bool, Err, List, None, Ok, OnErr, OnOk, Option, Result, Some, [], ap, append-nil, append_assoc, arith, false, get_or, if◌then◌else◌, inl, inr, length, nat_eq, nat_lt, refl, set, subst, suc, sym, true, zero, ℕ, ⊎_elim, ◌*◌, ◌++◌, ◌+◌, ◌-◌, ◌<◌, ◌==◌, ◌∙◌, ◌∷◌, ◌≡◌, ◌≢◌, ◌≤◌}
pub use Rattle.std.proofs.KnownBytes.{Appends-nil, Appends-trans}
pub use Rattle.std.proofs.lemmas.Bool.{and_parts, cases_eq, cases_lt, eq-eqb, eqb-true, false≢true, le-ltb, ne_eqb}
pub use Rattle.std.proofs.lemmas.List.{get_or_append_left, get_or_default, get_or_past, length-append, length-map, length-set, map-append}
pub use Rattle.std.proofs.lemmas.List.Elements.{All-cons, All-head, All-set, All-tail, All-weaker, Contains-get_or}
pub use Rattle.std.proofs.lemmas.List.Quantifiers.{position-Some}
pub use Rattle.std.proofs.lemmas.Option.{IfSome_then}
pub use Rattle.std.specs.Cmp.Derive.{both_true}
pub use Rattle.std.specs.Io.KnownBytes.{Appends}
pub use Rattle.std.specs.Prelude.{All, IfSome}
pub use Rattle.subvl_queue.specs.Messages.{most_calls}
pub use Rattle.subvl_queue.specs.Views.{IsRefused, SenderView}
pub use Rattle.tx_script.specs.AtBench.{AreTold, AtBench, ClosesOnly, HaveAsked, HaveSent, IsAtHand, IsFreshBench, IsGathered, IsPlannedLink, Matches, MatchesTx, Obeys, ObeysAt, OnlyTakes, Sends, TellsTotal, progress_of}
pub use Rattle.tx_script.specs.EndSystem.{EndSystem, HasPolled, HasTurnAt, Progress, SendsFrame, no_progress, progress_view, started}
pub use Rattle.tx_script.specs.Play.{Answer, AnsweredLine, AreTotals, ClosesAt, FindsFirst, IsTotal, Messages, Play, accepted_among, added, closed_at, closes, fills, found, is_on, leaves, link_of, outcome_of, passed_on, place_of, play, queued, script_refusal, takes, tells, told_by, transcript, with_messages}
pub use Rattle.tx_script.specs.Run.{AreRun, Ends, HasPlayed, IsWhole, Leaves, Plays, left_after}
pub use Rattle.tx_script.specs.Running.{EndsEarly, Finishes, Halted, HandsOver, ReadsLine, Running, SaysLine, Stops}
pub use Rattle.tx_script.specs.declared.script.Played.{Played}
pub use Rattle.tx_script.specs.declared.script.Played.TheVariants.{Broken, Whole}
pub use Rattle.vl_link.proofs.Choosing.{each_set}
pub use Rattle.vl_link.proofs.QueueLooks.{taken_finds}
pub use Rattle.vl_link.proofs.TurnLaws.{choice_other, turn_seen, turns_each, turns_seen}
pub use Rattle.vl_link.specs.Calls.{BecomesWhole, Closes}
pub use Rattle.vl_link.specs.Links.{GivesFrame, Held, IsSameLink, LinkState, Starts, held_at, held_view, link_at, no_link, nothing_held, sent_by, sent_of, taken_by}
pub use Rattle.vl_link.specs.Seen.{Seen, gathered, known_of, receiving, taken_of, total_of}
pub use Rattle.vl_link.specs.Turn.{AreTurns, IsChoice, Turn}
pub use Rattle.vl_link.specs.declared.link.Served.{Served}
pub use Rattle.vl_link.specs.declared.link.Served.TheVariants.{Lost, Nothing, Released}
pub use Rattle.vl_shaper.specs.Pace.{Pace}
pub use Rattle.script_text.specs.declared.transcript.Summary.{Summary as Sums}
pub use Rattle.subvl_queue.specs.declared.sender.Why.{Why as QueueWhy}
pub use Rattle.afdx_tx.specs.declared.fault.Refusal.{Refusal as SendRefusal}
pub use Rattle.std.proofs.lemmas.Result.{err_from_is_err_and}
