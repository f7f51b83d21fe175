-- A poll of an emitter, over what was taken of its sub-VLs and what is left.
use Rattle.tx_script.proofs.Names.{ℕ, ◌≡◌, ◌≢◌, ◌-◌, ◌<◌, ◌≤◌, List, ◌++◌, Bool, true, false, nat_lt, length, append-nil, arith, refl, ap, ◌∙◌, subst, inr, ⊎_elim, Result, Ok, Err, OnOk, OnErr, cases_eq, le-ltb, length-append, length-map, map-append, link_plan_at, LinkPlan, Net, A, B, Sent, Entry, Logged, sent_to, Lines, log, Keeps, IsMirrored, Pace, Served, Nothing, Released, Lost, Turn, AreTurns, IsChoice, Held, LinkState, held_at, link_at, Starts, GivesFrame, held_view, sent_of, IsSameLink, taken_by, taken_finds, choice_other, turn_seen, turns_seen, turns_each, Release, pace_in, IsTurn, IsTurnAt, IsRun, Tx, taken_in, total_in, PortView, IsTold, Progress, EndSystem, started, SendsFrame, progress_view, HasTurnAt, HasPolled, AtBench, IsPlannedLink, progress_of, MatchesTx, Obeys, OnlyTakes, leaves}
use Rattle.script_text.specs.declared.line_meaning.Line.TheVariants as Said
use Rattle.script_text.specs.declared.transcript.Outcome.TheVariants as Became
use Rattle.tx_script.proofs.Matched.{asked_on, same_totals}

-- as many entries as were logged
log_many : (lines : Lines) → length (log lines) ≡ length lines.logged
unfolding log
log_many lines = grind (arith, length-map)

-- A poll released as many frames as its report names.
pub released_many : (old new : Lines) (now : ℕ) (released : List Release) → IsTold now released old new
    → length released ≡ length new.logged - length old.logged
released_many old new now released told = grind (arith, length-map, length-append, log_many)

-- a sub-VL that found a message has taken it after those before it
started_is : (old mid : Held) (p : Starts old mid) → progress_of mid ≡ started old.of (progress_of old) (sent_of old.ports p.message)
started_is old mid p = grind (arith, taken_finds, map-append, length-map)

-- a sub-VL that gives a frame gives it without its queue
shows_plain : (old : Held) (frame : List ℕ) (new : Held) → GivesFrame old frame new
    → SendsFrame old.of (progress_of old) frame (progress_of new)
shows_plain old frame new g = record {
  mid = progress_of g.mid;
  asked = ⊎_elim
      (grind arith)
      (λ (p : Starts old g.mid). inr (sent_of old.ports p.message, p.whole, started_is old g.mid p))
      g.asked;
  next = g.gives.next;
  taken = ap taken_by g.gives.same;
}

-- what sub-VLs took and have left
abbrev progress_at : List Held → ℕ → Progress
progress_at subs s = progress_of (held_at subs s)

-- one turn of a planned link
turn_plain : (now own : ℕ) (plan : LinkPlan) (link new : LinkState) (lines after : Lines) (did : Served)
    → IsPlannedLink own plan link → IsTurn now link new lines after did
    → Turn now plan (pace_in plan (log lines)) (progress_view own plan (progress_at link.subs) (progress_at new.subs)) lines after did
turn_plain now own plan link new lines after did m t =
    turn_seen now plan (pace_in plan (log lines)) (held_view link.subs new.subs)
    (progress_view own plan (progress_at link.subs) (progress_at new.subs)) lines after did (λ s e. ap progress_of e)
    (grind (arith, shows_plain))
    (rw (m.plan, m.of.gap, m.of.sub_vls) at t.serves)

-- what both networks hold if both are up
all_kept : (net : Net) (stands : Bool) (handed : List Entry) (logged : List Logged) → Keeps net stands handed logged
    → stands ≡ true → handed ≡ sent_to net logged
all_kept net stands handed logged k up = grind (arith, append-nil)

-- the end system that matches an emitter after a poll
abbrev pub left_at : EndSystem → ℕ → Tx → EndSystem
left_at es now new = record {
  plan = es.plan;
  subs = λ k. progress_at (link_at new.links k).subs;
  log = new.lines.logged;
  moment = now;
}

-- A poll of an emitter is one of the end system that it matches, if both networks are up.
pub polled_matches : (es : EndSystem) (old new : Tx) (now : ℕ) → MatchesTx es old
    → IsRun now old.links new.links old.lines new.lines
    → new.lines.a_stands ≡ true → new.lines.b_stands ≡ true → HasPolled now es (left_at es now new)
polled_matches es old new now m run a b = record {
  plan = refl;
  moment = refl;
  lines = old.lines;
  after = new.lines;
  was = m.logged;
  is = refl;
  turns = subst (λ (n : ℕ). AreTurns (HasTurnAt now es (left_at es now new)) 0 n old.lines new.lines) m.count
      (turns_seen (IsTurnAt now old.links new.links) (HasTurnAt now es (left_at es now new)) 0 (length old.links) old.lines new.lines
      (λ k le lt before behind did t. rw m.subs (turn_plain now es.plan.end_system (link_plan_at es.plan.links k)
      (link_at old.links k) (link_at new.links k) before behind did (grind arith) t))
      run.turns);
  a_stands = a;
  b_stands = b;
}

-- What each turn of a run shows of a link holds of it.
each_link : (Q : ℕ → Type 0) (old new : Tx) (now : ℕ) → IsRun now old.links new.links old.lines new.lines
    → ((k : ℕ) (before behind : Lines) (did : Served) → IsTurnAt now old.links new.links k before behind did → Q k)
    → (k : ℕ) → k < length old.links → Q k
each_link Q old new now run shows k lt =
    turns_each (IsTurnAt now old.links new.links) Q 0 (length old.links) old.lines new.lines shows run.turns k
    (omega arith) (omega arith)

-- A poll leaves an end system that the emitter matches, if both networks are up.
pub left_matches : (es : EndSystem) (old new : Tx) (now : ℕ) → MatchesTx es old
    → IsRun now old.links new.links old.lines new.lines
    → IsMirrored new.lines → new.lines.a_stands ≡ true → new.lines.b_stands ≡ true → new.plan ≡ old.plan
    → new.moment ≡ now → MatchesTx (left_at es now new) new
left_matches es old new now m run mirrored a b plan moment = record {
  plan = plan ∙ m.plan;
  count = run.count ∙ m.count;
  planned = λ k lt.
      let same = each_link (λ i. IsSameLink (link_at old.links i) (link_at new.links i)) old new now run
      (grind arith) k (omega (arith, m.count)) in
      grind arith;
  subs = refl;
  logged = refl;
  a = all_kept A new.lines.a_stands new.lines.a new.lines.logged mirrored.first a;
  b = all_kept B new.lines.b_stands new.lines.b new.lines.logged mirrored.second b;
  moment = moment;
}

-- more was taken
abbrev Grows : (old new : List Sent) → Type 0
Grows old new = (more : List Sent) × (new ≡ old ++ more)

grows_not : (old new : List Sent) → new ≡ old → Grows old new
grows_not old new same = grind (arith, append-nil)

grows_sent : (old : Held) (frame : List ℕ) (new : Held) → GivesFrame old frame new → Grows (taken_by old) (taken_by new)
grows_sent old frame new g = grind (arith, shows_plain old frame new g, grows_not)

-- what is shown by each part of a turn holds of each sub-VL
each_chosen : (P : ℕ → Type 0) (pace : Pace) (sub : ℕ) → IsChoice pace P P P sub → (s : ℕ) → P s
each_chosen P pace sub c s = ⊎_elim
    (grind arith)
    (λ (ne : s ≢ sub). ⊎_elim (λ p. p) (λ p. p) (choice_other pace P P P sub c s ne))
    (cases_eq s sub)

each_turn : (P : ℕ → Type 0) (now : ℕ) (plan : LinkPlan) (pace : Pace) (lines after : Lines) (did : Served)
    → Turn now plan pace (record { lacks = P; rests = P; gives = λ s frame. P s }) lines after did → (s : ℕ) → P s
each_turn P now plan pace lines after Nothing t s = grind arith
each_turn P now plan pace lines after (Released sub number) t s = each_chosen P pace sub t.2.choice s
each_turn P now plan pace lines after Lost t s = each_chosen P pace t.1.sub t.1.choice s

-- What was taken before a poll is the first of what was taken after it.
pub taken_grows : (old new : Tx) (now : ℕ) → IsRun now old.links new.links old.lines new.lines → (k s : ℕ)
    → k < length old.links → Grows (taken_in old.links k s) (taken_in new.links k s)
taken_grows old new now run k s lt = each_link (λ i. Grows (taken_in old.links i s) (taken_in new.links i s)) old new now run
    (λ i before behind did t. grown (link_at old.links i) (link_at new.links i) before behind did t) k lt
  where
    grown : (link news : LinkState) (before behind : Lines) (did : Served) → IsTurn now link news before behind did
        → Grows (taken_by (held_at link.subs s)) (taken_by (held_at news.subs s))
    grown link news before behind did t =
        let P = λ (i : ℕ). Grows (taken_by (held_at link.subs i)) (taken_by (held_at news.subs i)) in
        each_turn P now link.plan _ before behind did
        (turn_seen now link.plan _ (held_view link.subs news.subs) (record { lacks = P; rests = P; gives = λ i frame. P i })
        before behind did (λ i e. grows_not _ _ (ap taken_by e))
        (λ _. record {
          lacks = grind (arith, grows_not);
          rests = λ i e. grows_not _ _ (ap taken_by e);
          gives = λ i frame below g. grows_sent (held_at link.subs i) frame (held_at news.subs i) g;
        })
        t.serves) s

-- The ports sent nothing in a poll and nothing was closed, whatever it answered.
pub poll_takes : {R E : Type 0} (answer : Result R E) (old new : Tx) (ports : List PortView) (now : ℕ) (bench : AtBench)
    → record { tx = old; ports = ports } ≡ bench → OnErr answer (new ≡ old) → OnOk answer (IsRun now old.links new.links old.lines new.lines) → new.plan ≡ old.plan
    → ((k s : ℕ) → total_in new.links k s ≡ total_in old.links k s)
    → OnlyTakes bench (record { tx = new; ports = ports })
poll_takes {R = R} {E = E} answer old new ports now bench is unchanged run plan totals = rw (← is) record {
  ports = refl;
  closes = grind arith;
  grown = grown answer unchanged run;
}
  where
    grown : (a : Result R E) → OnErr a (new ≡ old) → OnOk a (IsRun now old.links new.links old.lines new.lines) → (k s : ℕ)
        → k < length old.links → Grows (taken_in old.links k s) (taken_in new.links k s)
    grown (Ok r) same ran k s lt = taken_grows old new now ran k s lt
    grown (Err e) same ran k s lt = grows_not _ _ (grind arith)

-- A poll after which both networks are up.
pub obeys_poll : (old new : Tx) (ports : List PortView) (now released : ℕ) → old.moment ≤ now
    → IsRun now old.links new.links old.lines new.lines → IsMirrored new.lines → new.lines.a_stands ≡ true
    → new.lines.b_stands ≡ true → new.plan ≡ old.plan → new.moment ≡ now
    → ((k s : ℕ) → total_in new.links k s ≡ total_in old.links k s)
    → released ≡ length new.lines.logged - length old.lines.logged → released ≤ 64
    → Obeys (Said.At now) (record { tx = old; ports = ports }) (record { tx = new; ports = ports }) (Became.Released released)
obeys_poll old new ports now released le run mirrored a b plan moment totals many few = record {
  ok = λ accepted es m.
      let late : nat_lt now es.moment ≡ false = grind (arith, le-ltb) in
      record {
        answer = leaves (left_at es now new);
        may = grind (arith, polled_matches);
        is = grind arith;
        told = λ place sub at. absurd at;
        matches = grind (arith, left_matches);
      };
  few = few;
  asked = grind (arith, asked_on);
  closes = same_totals (Said.At now) old new plan totals;
}
