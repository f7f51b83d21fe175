-- How a run goes on, how its lines end, and how it ends once its streams are written.
use Rattle.tx_script.proofs.Names.{◌≡◌, ℕ, ◌+◌, ◌*◌, ◌<◌, ◌≤◌, List, [], ◌∷◌, append-nil, Option, Some, None, refl, sym, ◌∙◌, subst, arith, true, inl, inr, ◌++◌, IfSome, Ok, Err, Result, Appends, Appends-nil, Appends-trans, All-cons, All-head, All-tail, IfSome_then, Plan, Tx, first_line, after_mark, meaning_of, counted, HasFew, note_of, streams, ends_writing, Outcome, RunFault, AtBench, IsFreshBench, Obeys, OnlyTakes, ClosesOnly, AreTold, TellsTotal, IsGathered, AnsweredLine, Play, play, ClosesAt, transcript, left_after, AreRun, HasPlayed, IsWhole, Plays, Ends, Leaves, SaysLine, ReadsLine, Running, Halted, Stops, HandsOver, Finishes, EndsEarly, false≢true, FrameLog, Played, Whole, Broken, Said, Sums}
use Rattle.script_text.specs.declared.faults.RunFault.TheVariants as Fault
use Rattle.tx_script.proofs.Matched.{same_totals, each_fresh}
use Rattle.tx_script.proofs.Finding.{finds_first, totals_are}

-- counts grow slowly
pub record IsWithin (sums : Sums) (count : ℕ) : Type 0 where
  pub accepted : sums.accepted ≤ count
  pub refused : sums.refused ≤ count
  pub frames : sums.frames ≤ 64 * count

-- one line counts at most one, and 64 frames
pub within_more : (outcome : Outcome) (sums : Sums) (count : ℕ) → HasFew outcome → IsWithin sums count
    → IsWithin (counted outcome sums) (count + 1)
unfolding counted
within_more outcome sums count few w = grind arith

-- some lines of a text were run, and these bytes are left
pub record Goes (plan : Plan) (text : List ℕ) (left old new : Option (List ℕ)) (bench : AtBench) (count : ℕ)
    (sums : Sums) : Type 0 where
  pub turns : List AnsweredLine
  pub left_is : left ≡ Some (left_after text turns)
  pub count_is : (play plan turns).count ≡ count
  pub sums_are : (play plan turns).summary ≡ sums
  pub ran : Running plan text old new bench turns

-- the same if the reader's bytes are known
abbrev pub IsRunning : Plan → (bytes left old new : Option (List ℕ)) → AtBench → ℕ → Sums → Type 0
IsRunning plan bytes left old new bench count sums =
    IfSome bytes (λ text. Goes plan text left old new bench count sums)

-- nothing was run
pub running_none : (plan : Plan) (bytes old : Option (List ℕ)) (bench : AtBench) → IsFreshBench plan bench
    → IsRunning plan bytes bytes old old bench 0 (record { accepted = 0; refused = 0; frames = 0 })
running_none plan None old bench is_fresh = tt
running_none plan (Some text) old bench is_fresh = record {
  turns = [];
  left_is = refl;
  count_is = refl;
  sums_are = refl;
  ran = record {
    lines = tt;
    matches = grind (arith, each_fresh);
    told = λ k d lt. absurd (omega arith);
    others = λ place sub none. (each_fresh plan bench.tx is_fresh.tx place sub).1;
    wrote = Appends-nil old;
  };
}

-- a text of which no line was read
pub stops_unread : (plan : Plan) (bytes old : Option (List ℕ)) (bench : AtBench) → IsFreshBench plan bench
    → IfSome bytes (λ text. Stops plan (after_mark text) old old bench (Err Fault.Read))
unfolding running_none
stops_unread plan None old bench is_fresh = tt
stops_unread plan (Some text) old bench is_fresh = record {
  turns = [];
  ran = (running_none plan (Some (after_mark text)) old bench is_fresh).ran;
  at = grind arith;
}

-- What closes reported stays so.
pub told_still : (line : Said) (old new : Tx) (turns : List AnsweredLine) → ClosesOnly line old new → AreTold old turns
    → AreTold new turns
told_still line old new turns closes told = grind arith

-- A bench that stays as it is.
pub stays : (bench : AtBench) → OnlyTakes bench bench
stays bench = grind (arith, same_totals, append-nil)

-- Some lines were run.
module _ (plan : Plan) (bytes left old mid : Option (List ℕ)) (bench : AtBench) (count : ℕ) (sums : Sums)
    (goes : IsRunning plan bytes left old mid bench count sums) where
  -- a line was read, obeyed and noted
  pub running_turn : (new fin : Option (List ℕ)) (bench2 : AtBench) (said : Said) (outcome : Outcome)
      → IfSome left (λ known. ReadsLine known new (count + 1) (Ok (Some said))) → Obeys said bench bench2 outcome
      → Appends mid fin (note_of (count + 1) outcome)
      → IsRunning plan bytes new old fin bench2 (count + 1) (counted outcome sums)
  running_turn new fin bench2 said outcome reads obeys wrote = IfSome_then bytes goes (λ text known.
      let st : Play = play plan known.turns in
      let says : SaysLine (left_after text known.turns) new said = rw known.left_is at reads in
      let line : List ℕ = first_line (left_after text known.turns) in
      let obeyed : Obeys (meaning_of line) bench bench2 outcome = grind arith in
      let ran = obeyed.ok st.accepted st.es known.ran.matches in
      let turn : AnsweredLine = record { line = line; answer = ran.answer } in
      record {
        turns = turn ∷ known.turns;
        left_is = says.behind;
        count_is = grind arith;
        sums_are = grind arith;
        ran = record {
          lines = grind arith;
          matches = ran.matches;
          told = All-cons (λ (t : AnsweredLine). TellsTotal bench2.tx (meaning_of t.line) t.answer) turn known.turns
              ran.told (told_still _ bench.tx bench2.tx known.turns obeyed.closes known.ran.told);
          others = λ place sub none.
              let mine = rw obeyed.closes.plan at none in
              let not = λ (t : AnsweredLine). ClosesAt bench.tx.plan (meaning_of t.line) place sub → ⊥ in
              obeyed.closes.only place sub (All-head not turn known.turns mine)
              ∙ known.ran.others place sub (All-tail not turn known.turns mine);
          wrote = rw (known.count_is, ← ran.is)
              (Appends-trans old mid fin st.notes (note_of (count + 1) outcome) known.ran.wrote wrote);
        };
      })

  -- an allocation failed at a line
  pub stop_memory : (bench2 : AtBench) → OnlyTakes bench bench2 → IfSome bytes (λ text. Halted plan text old mid bench2)
  stop_memory bench2 since = grind arith

  -- the next line has a fault, or could not be read
  pub stop_fault : (new : Option (List ℕ)) (fault : RunFault) → count < 1000000
      → IfSome left (λ known. ReadsLine known new (count + 1) (Err fault))
      → IfSome bytes (λ text. Stops plan text old mid bench (Err fault))
  stop_fault new fault few reads = grind (arith, stays bench)

-- what is known of the lines that were run is known at the end
ends_more : (plan : Plan) (text : List ℕ) (Ran More : List AnsweredLine → Type 0) (Halts Begun : Type 0)
    → ((turns : List AnsweredLine) → Ran turns → More turns) → (result : Result Sums RunFault)
    → (result ≡ Err Fault.Memory → Begun) → Ends plan text Ran Halts result → Ends plan text More Begun result
ends_more plan text Ran More Halts Begun more result begun h = grind arith

-- The lines of a text stopped, and its streams may have been written.
module _ (plan : Plan) (text : List ℕ) (old mid fin : Option (List ℕ)) (bench : AtBench) where
  -- the ports were taken back after some lines were run
  are_run : (before : AtBench) (turns : List AnsweredLine) → Running plan text old mid before turns
      → OnlyTakes before bench → IsGathered bench → AreRun plan text turns
  are_run before turns ran since gathered = record {
    lines = ran.lines;
    finds = finds_first (play plan turns) before bench ran.matches since gathered;
    totals = totals_are (play plan turns) before bench ran.matches since gathered turns
        (told_still _ before.tx bench.tx turns since.closes ran.told);
  }

  -- the streams follow the notes
  has_played : (a b : FrameLog) (turns : List AnsweredLine) → Running plan text old mid bench turns
      → HandsOver bench a b mid fin → HasPlayed plan text old fin a.handed b.handed turns
  has_played a b turns ran hands =
      let st : Play = play plan turns in
      let m = ran.matches.emitter in
      let same : st.notes ++ streams bench.tx.lines.a bench.tx.lines.b ≡ transcript st = rw (m.a, m.b) refl in
      record {
        ran = record {
          run = are_run bench turns ran (stays bench) hands.gathered;
          wrote = subst (Appends old fin) same (Appends-trans old mid fin st.notes _ ran.wrote hands.wrote);
        };
        on_a = sym (hands.on_a ∙ m.a);
        on_b = sym (hands.on_b ∙ m.b);
      }

  -- The streams were written unless the writer failed.
  pub finished : (ended : Result Sums RunFault) (played : Played) → IsWhole ended → Stops plan text old mid bench ended
      → Finishes ended bench mid fin played → Plays plan text old fin played
  finished ended (Whole told a b) whole stops w = rw w.0 (
    whole,
    ends_more plan text (Running plan text old mid bench) (HasPlayed plan text old fin a.handed b.handed)
        (Halted plan text old mid bench) ⊥ (λ turns ran. has_played a b turns ran w.1) ended
        (grind arith) stops,
  )
  finished ended (Broken told) whole stops w = rw w (refl, tt)

  -- The lines stopped at a fault.
  pub early : (fault : RunFault) (played : Played) → Stops plan text old mid bench (Err fault)
      → EndsEarly fault bench mid fin played → Plays plan text old fin played
  early fault played stops (inl w) = grind (arith, finished)
  early fault played stops (inr w) = rw w.1 (w.0, silent fault stops w.0)
    where
      silent : (end : RunFault) → Stops plan text old mid bench (Err end) → ends_writing end ≡ true
          → Leaves plan text old fin (Err end)
      silent Fault.Memory halted ends =
          let st : Play = play plan halted.turns in
          record {
            turns = halted.turns;
            run = grind (arith, are_run);
            written = st.notes;
            unwritten = _;
            begins = refl;
            wrote = grind arith;
          }
      silent Fault.Write halted ends = tt
      silent _ halted ends = absurd (false≢true ends)

-- The same of the plan and the bytes that were given.
pub plays_by : (plan own : Plan) (bytes given old mid fin : Option (List ℕ)) (bench : AtBench)
    (ended : Result Sums RunFault) (played : Played) → bytes ≡ given → own ≡ plan
    → IfSome bytes (λ text. Stops own text old mid bench ended)
    → ((text : List ℕ) → Stops own text old mid bench ended → Plays own text old fin played)
    → IfSome given (λ text. Plays plan text old fin played)
plays_by plan own bytes given old mid fin bench ended played same is stops plays = grind arith

-- An allocation failed before the first line.
plays_nothing : (plan : Plan) (text : List ℕ) (old : Option (List ℕ)) → Plays plan text old old (Broken Fault.Memory)
plays_nothing plan text old = (
  refl,
  record {
    turns = [];
    run = grind arith;
    written = [];
    unwritten = transcript (play plan []);
    begins = refl;
    wrote = Appends-nil old;
  },
)

-- An allocation failed before a reader gave its first byte.
pub plays_none : (plan : Plan) (bytes old : Option (List ℕ))
    → IfSome bytes (λ text. Plays plan (after_mark text) old old (Broken Fault.Memory))
plays_none plan None old = tt
plays_none plan (Some text) old = plays_nothing plan (after_mark text) old
