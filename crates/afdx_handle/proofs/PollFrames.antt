-- The frames that a poll makes for a network: at most as many as it reports, all at its time.
use Rattle.afdx_handle.proofs.Names.{ℕ, zero, suc, ◌≡◌, ◌≤◌, ◌+◌, ◌-◌, length, sym, ap, ◌∙◌, arith, inl, inr, not, get_or, map-append, append-nil, append_assoc, All, cases_Bool, filter-append, Lines, Endures, Keeps, Tx, EndView, end_view, AreOfPoll, IsEndSystem, Runs, PollsTx, Bool, true, false, length-map, Net, log}
use Rattle.std.proofs.Common.{List, [], ◌∷◌, ◌++◌, refl}
use Rattle.std.proofs.Math.ListN.{get_or-append}
use Rattle.std.proofs.Math.Seq.{get_or-append_right}
use Rattle.std.proofs.lemmas.List.Elements.{All-nil, All-push, All-append, All-map, All-filter, All-get_or}
use Rattle.std.proofs.lemmas.List.Filters.{length-filter_both}
use Rattle.std.proofs.lemmas.List.{length-append}
use Rattle.afdx_plan.specs.declared.link_plan.LinkPlan.{LinkPlan}
use Rattle.afdx_frame.specs.declared.net.Net.TheVariants.{A, B}
use Rattle.redundant_mux.specs.Lines.{Entry, entry, Logged, logged_for, names, sent_to, side}
use Rattle.redundant_mux.specs.Memory.{entry_at}
use Rattle.vl_link.specs.declared.link.Served.{Served}
use Rattle.vl_link.specs.declared.link.Served.TheVariants.{Nothing, Released, Lost}
use Rattle.vl_link.specs.Turn.{TurnView, Turn, AreTurns}
use Rattle.vl_shaper.specs.Pace.{Pace}
use Rattle.afdx_tx.specs.Report.{release_of}
use Rattle.afdx_tx.specs.Run.{IsTurnAt, DrainsAt, accepted_in, accepted_view, pace_in}
use Rattle.afdx_plan.specs.Config.{link_plan_at}
use Rattle.afdx_frame.specs.Fragments.{Sent}
use Rattle.afdx_legal.specs.Streams.{link_stream}
use Rattle.vl_link.specs.Links.{LinkState, held_view, link_at, pace_of}
use Rattle.afdx_tx.specs.declared.turns.Report.{Report}

-- these were logged at this time
abbrev LoggedAt : ℕ → List Logged → Type 0
LoggedAt now more = All (λ (l : Logged). l.entry.at ≡ now) more

-- what was logged after it
record Grows (now : ℕ) (before after : Lines) : Type 0 where
  more : List Logged
  grown : after.logged ≡ before.logged ++ more
  timed : LoggedAt now more

grows_none : (now : ℕ) (lines after : Lines) → after.logged ≡ lines.logged → Grows now lines after
grows_none now lines after same = record {
  more = [];
  grown = same ∙ sym (append-nil lines.logged);
  timed = All-nil (λ (l : Logged). l.entry.at ≡ now);
}

turn_grows : (now : ℕ) (plan : LinkPlan) (pace : Pace) (view : TurnView) (lines after : Lines) (did : Served)
    → Turn now plan pace view lines after did → Grows now lines after
turn_grows now plan pace view lines after Nothing t = grows_none now lines after (ap (λ (l : Lines). l.logged) t.1)
turn_grows now plan pace view lines after (Released sub number) t = record {
  more = logged_for plan.networks (entry now t.2.frame) ∷ [];
  grown = t.2.enters;
  timed = All-push (λ (l : Logged). l.entry.at ≡ now) [] _ (All-nil (λ (l : Logged). l.entry.at ≡ now)) refl;
}
turn_grows now plan pace view lines after Lost t = grows_none now lines after t.1.same

turns_grow : (now : ℕ) (P : ℕ → Lines → Lines → Served → Type 0) (k many : ℕ) (lines after : Lines)
    → ((i : ℕ) (before behind : Lines) (did : Served) → P i before behind did → Grows now before behind)
    → AreTurns P k many lines after → Grows now lines after
turns_grow now P k zero lines after f r = grows_none now lines after (ap (λ (l : Lines). l.logged) r)
turns_grow now P k (suc many) lines after f r =
    let one : Grows now lines r.0 = f k lines r.0 r.1 r.2 in
    let rest : Grows now r.0 after = turns_grow now P (k + 1) many r.0 after f r.3 in
    record {
      more = one.more ++ rest.more;
      grown = rest.grown ∙ ap (λ (ls : List Logged). ls ++ rest.more) one.grown ∙ append_assoc lines.logged one.more rest.more;
      timed = All-append (λ (l : Logged). l.entry.at ≡ now) one.more rest.more one.timed rest.timed;
    }

run_grows : (gathered : Bool) (now : ℕ) (old new : Tx) → Runs gathered now old new → Grows now old.lines new.lines
run_grows false now old new run =
    let link : ℕ → LinkState = link_at old.links in
    turns_grow now (IsTurnAt now old.links new.links) 0 (length old.links) old.lines new.lines
    (λ i before behind did t. turn_grows now (link i).plan
    (pace_of (link i).pace.gap (link i).pace.sub_vls (link_stream (link i).plan.id.0 (log before)))
    (held_view (link i).subs (link_at new.links i).subs) before behind did t.serves) run.turns
run_grows true now old new run =
    let accepted : ℕ → ℕ → List Sent = accepted_in old.links in
    let link : ℕ → LinkPlan = link_plan_at old.plan.links in
    turns_grow now (DrainsAt now old.plan accepted) 0 (length old.plan.links) old.lines new.lines
    (λ i before behind did t. turn_grows now (link i) (pace_in (link i) (log before))
    (accepted_view old.plan.end_system (link i) (accepted i) (log before)) before behind did t) run

sent_append : (net : Net) (front back : List Logged) → sent_to net (front ++ back) ≡ sent_to net front ++ sent_to net back
sent_append net front back = grind (arith, map-append, filter-append)

-- A network's part of what was logged isn't longer, and of the same time.
sent_most : (net : Net) (logged : List Logged) → length (sent_to net logged) ≤ length logged
sent_most net logged =
    let passed = length-filter_both (λ (l : Logged). names net l.networks) (λ (l : Logged). not (names net l.networks)) (λ l. refl) logged in
    grind (arith, length-map)

sent_at : (net : Net) (now : ℕ) (more : List Logged) → LoggedAt now more → All (λ (e : Entry). e.at ≡ now) (sent_to net more)
sent_at net now more all =
    All-map (λ (e : Entry). e.at ≡ now) (side net) _
    (All-map (λ (e : Entry). e.at ≡ now) (λ (l : Logged). l.entry) _
    (All-filter (λ (l : Logged). names net l.networks) (λ (l : Logged). l.entry.at ≡ now) more all))

-- A network's list after more was logged, with what it missed of that.
line_grows : (net : Net) (stood stands : Bool) (old new : List Entry) (f g : ℕ) (before after more : List Logged)
    → Keeps net stood old before → Keeps net stands new after → Endures stood stands old new f g → after ≡ before ++ more
    → (missed : List Entry) × (new ++ missed ≡ old ++ sent_to net more)
line_grows net stood stands old new f g before after more keeps kept endures grown = elim (cases_Bool stood) [
  | inr down ↦ (sent_to net more, ap (λ (es : List Entry). es ++ sent_to net more) (endures.down down).0)
  | inl up ↦
      let none : keeps.missed ≡ [] = keeps.all up in
      let all : before ≡ keeps.seen = keeps.whole ∙ ap (λ (ls : List Logged). keeps.seen ++ ls) none ∙ append-nil keeps.seen in (
        sent_to net kept.missed,
        ap (λ (es : List Entry). es ++ sent_to net kept.missed) kept.got ∙ sym (sent_append net kept.seen kept.missed)
            ∙ ap (sent_to net) (sym kept.whole ∙ grown ∙ ap (λ (ls : List Logged). ls ++ more) all) ∙ sent_append net keeps.seen more
            ∙ ap (λ (es : List Entry). es ++ sent_to net more) (sym keeps.got),
      )
]

-- A network's list after a poll has the frames of that poll from the number on that it had before.
of_poll : (now : ℕ) (old new missed sent : List Entry) → new ++ missed ≡ old ++ sent → All (λ (e : Entry). e.at ≡ now) sent
    → length sent ≤ 64 → AreOfPoll now (length old) new
of_poll now old new missed sent whole all few =
    let sum : length new + length missed ≡ length old + length sent =
    sym (length-append new missed) ∙ ap length whole ∙ length-append old sent in
    record {
      few = omega (arith, sum);
      same = λ k from below.
          let here : entry_at new k ≡ get_or sent (k - length old) (entry 0 []) =
          sym (get_or-append new missed (entry 0 []) k below) ∙ ap (λ (es : List Entry). get_or es k (entry 0 [])) whole
          ∙ get_or-append_right old sent k (entry 0 []) from in
          ap (λ (e : Entry). e.at) here
          ∙ All-get_or (λ (e : Entry). e.at ≡ now) sent (k - length old) (entry 0 []) (omega (arith, sum, from, below)) all;
    }

-- As many entries were logged as were reported.
logged_more : (before after : Lines) (entries : List Entry) → log after ≡ log before ++ entries
    → length after.logged ≡ length before.logged + length entries
unfolding log
logged_more before after entries told = grind (arith, length-append, log, length-map, entry)

-- A polled end system keeps its invariant.
pub poll_keeps : (old : EndView) (new : Tx) (a b now : ℕ) (report : Report) → IsEndSystem old
    → PollsTx old.gathered now old.tx report new → length report.released.items ≤ 64
    → a ≡ length old.tx.lines.a → b ≡ length old.tx.lines.b
    → IsEndSystem (end_view old.gathered new old.ports old.room a b old.block)
poll_keeps old new a b now report kept polls few a_is b_is =
    let was = old.tx.lines in
    let told = polls.told.released in
    let reported : length told.entries ≡ length report.released.items = sym (length-map told.entries release_of) ∙ ap length told.named in
    let run : Grows now was new.lines = run_grows old.gathered now old.tx new polls.run in
    let few : length run.more ≤ 64 =
    omega (arith, logged_more was new.lines told.entries told.grown, ap length run.grown, length-append was.logged run.more, reported, few) in
    let made : (net : Net) (stood stands : Bool) (before after : List Entry) (f g : ℕ) → Keeps net stood before was.logged
    → Keeps net stands after new.lines.logged → Endures stood stands before after f g → AreOfPoll now (length before) after =
    λ net stood stands before after f g keeps keeps_new endures.
    let line = line_grows net stood stands before after f g was.logged new.lines.logged run.more keeps keeps_new endures run.grown in
    of_poll now before after line.0 (sent_to net run.more) line.1 (sent_at net now run.more run.timed)
    (omega (arith, sent_most net run.more, few)) in
    let made_a : AreOfPoll now (length was.a) new.lines.a = made A was.a_stands new.lines.a_stands was.a new.lines.a was.a_failures
    new.lines.a_failures kept.mirrored.first polls.lawful.conforms.mirrored.first polls.lawful.stays_down.a in
    let made_b : AreOfPoll now (length was.b) new.lines.b = made B was.b_stands new.lines.b_stands was.b new.lines.b was.b_failures
    new.lines.b_failures kept.mirrored.second polls.lawful.conforms.mirrored.second polls.lawful.stays_down.b in
    grind arith
