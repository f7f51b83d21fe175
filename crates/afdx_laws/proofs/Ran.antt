-- A run of polls, as the polls of one link, and what it adds to the stream of the link.
use Rattle.afdx_laws.proofs.RunNames.{ℕ, ◌≡◌, ◌+◌, ◌<◌, ◌≤◌, List, [], ◌∷◌, ◌++◌, Bool, true, ◌&&◌, cond, nat_eq, nat_le, arith, refl, Option, Some, None, inl, inr, ◌-◌, ◌*◌, length, map, All, nat_tests, cases_lt, filter-append, append_assoc, append-nil, length-append, map-append, Plan, bag_ms, sub_in, Entry, entry, Lines, BothEndure, stood_before, Poll, is_of, released_by, IsOfUser, IsServed, AreServed, ServeUsers, HasAtPolls, latest, latest_push, stream_at, ArePolls, AreTimely, seen_of, Bag, counted}
use Rattle.afdx_laws.proofs.PollStep.{Adds, IsStep, StandsAt, gap_at, subs_at, uses_at, StepsAt}

-- the entry that a poll released, if any, and those after it
abbrev pub ShowsOne : ℕ → Option ℕ → (added rest : List Entry) → Type 0
ShowsOne now None added rest = added ≡ rest
ShowsOne now (Some chosen) added rest = (e : Entry) × (added ≡ e ∷ rest) × (e.at ≡ now) × (sub_in e.frame ≡ chosen)

-- the entries that polls released, in order
abbrev pub Show : List Poll → List Entry → Type 0
Show [] added = added ≡ []
Show (p ∷ polls) added = (rest : List Entry) × ShowsOne p.at p.released added rest × Show polls rest

abbrev pub at_of : Poll → ℕ
at_of p = p.at

-- the fragments in two parts of a stream
pub seen_append : (x : ℕ) (S U : List Entry) → seen_of x (S ++ U) ≡ seen_of x S ++ seen_of x U
seen_append x S U = grind (arith, filter-append, map-append)

pub seen_both : (x : ℕ) (S U : List Entry) → length (seen_of x (S ++ U)) ≡ length (seen_of x S) + length (seen_of x U)
seen_both x S U = grind (arith, seen_append, length-append, seen_of)

-- one entry more, in front
seen_first : (x : ℕ) (e : Entry) (U : List Entry) → length (seen_of x (e ∷ U)) ≡ cond (nat_eq (sub_in e.frame) x) 1 0 + length (seen_of x U)
seen_first x e U = grind (arith, nat_tests)

-- what a poll adds to the fragments that were sent
pub adds_seen : (now x : ℕ) (released : Option ℕ) (S T : List Entry) → Adds now released S T
    → length (seen_of x T) ≡ length (seen_of x S) + cond (is_of x released) 1 0
adds_seen now x released S T same = grind (arith, seen_both, seen_first)

-- the times of polls don't fall
abbrev pub Rise : ℕ → List Poll → Type 0
Rise before [] = Unit {0}
Rise before (p ∷ polls) = (before ≤ p.at) × Rise p.at polls

pub timely_rise : (gap late end before : ℕ) (polls : List Poll) → AreTimely gap late end before (map at_of polls) → Rise before polls
timely_rise gap late end before [] timely = tt
timely_rise gap late end before (p ∷ polls) timely = (timely.0, timely_rise gap late end p.at polls timely.2)

-- entries by a time, with at least `many` of a sub-VL
pub record IsSplit (x bound many : ℕ) (added : List Entry) : Type 0 where
  pub soon : List Entry
  pub more : List Entry
  pub is : added ≡ soon ++ more
  pub by : All (λ (e : Entry). e.at ≤ bound) soon
  pub seen : many ≤ length (seen_of x soon)

-- nothing is counted after the bound
pub past_none : (x bound before : ℕ) (polls : List Poll) → bound < before → Rise before polls → released_by x bound polls ≡ 0
past_none x bound before [] past rise = refl
past_none x bound before (p ∷ polls) past rise =
    let later : bound < p.at = omega arith in
    grind (arith, nat_tests, counted x bound p polls, past_none x bound p.at polls later rise.1)

-- what polls release by a time comes first
pub splits : (polls : List Poll) (added : List Entry) (x bound before : ℕ) → Rise before polls → Show polls added
    → IsSplit x bound (released_by x bound polls) added
splits [] added x bound before rise show = grind arith
splits (p ∷ polls) added x bound before rise show = elim (cases_lt bound p.at) [
  | inl past ↦
      let none = past_none x bound p.at (p ∷ polls) past (omega arith, rise.1) in
      (grind arith)
  | inr soon ↦ by_release soon p.released refl show.1 (splits polls show.0 x bound p.at rise.1 show.2)
]
  where
    by_release : p.at ≤ bound → (o : Option ℕ) → p.released ≡ o → ShowsOne p.at o added show.0 → IsSplit x bound (released_by x bound polls) show.0
        → IsSplit x bound (released_by x bound (p ∷ polls)) added
    by_release soon None is same rest = grind (arith, counted)
    by_release soon (Some chosen) is (e, more, at, of) rest =
        let whole = counted x bound p polls in
        let first = seen_first x e rest.soon in
        let test : cond {A = ℕ} (nat_le p.at bound && is_of x p.released) 1 0 ≤ cond {A = ℕ} (nat_eq (sub_in e.frame) x) 1 0 = grind (arith, nat_tests, is, of) in
        record {
          soon = e ∷ rest.soon;
          more = rest.more;
          is = grind arith;
          by = grind arith;
          seen = omega arith;
        }

-- the sub-VL has something at each of these polls before which fewer of its fragments were sent than are owed at its time
abbrev pub HasOwed : ℕ → (ℕ → ℕ) → ℕ → List Poll → Type 0
HasOwed x owed sent [] = Unit {0}
HasOwed x owed sent (p ∷ polls) = (sent < owed p.at → p.has x ≡ true) × HasOwed x owed (sent + cond (is_of x p.released) 1 0) polls

-- no more of its fragments are sent by each of these polls than are owed just after its time
abbrev pub SendsOwed : ℕ → (ℕ → ℕ) → ℕ → List Poll → Type 0
SendsOwed x owed sent [] = Unit {0}
SendsOwed x owed sent (p ∷ polls) = (sent + cond (is_of x p.released) 1 0 ≤ owed (p.at + 1))
    × SendsOwed x owed (sent + cond (is_of x p.released) 1 0) polls

-- at as many polls as are left of the same number at all times
pub has_at : (x f total sent : ℕ) (polls : List Poll) → f ≤ total - sent → HasOwed x (λ t. total) sent polls → HasAtPolls x f polls
has_at x f total sent [] few has = tt
has_at x f total sent (p ∷ polls) few has =
    let c : ℕ = cond (is_of x p.released) 1 0 in
    (λ some. has.0 (omega arith), has_at x (f - c) total (sent + c) polls (omega arith) has.1)

-- Polls of a link at these times, of which this is known, and what they add to its stream.
pub record HaveRun (gap subs : ℕ) (uses : ℕ → Bool) (Had : List Entry → List Poll → Type 0) (moments : List ℕ) (S T : List Entry) : Type 0 where
  pub polls : List Poll
  pub at : map at_of polls ≡ moments
  pub served : AreServed gap subs (latest None S) polls
  pub users : ServeUsers uses polls
  pub had : Had S polls
  pub added : List Entry
  pub grown : T ≡ S ++ added
  pub show : Show polls added

-- one poll before others
run_more : (now gap subs : ℕ) (uses waiting : ℕ → Bool) (Had : List Entry → List Poll → Type 0) (moments : List ℕ) (S M T : List Entry)
    (step : IsStep now gap subs uses waiting S M) (run : HaveRun gap subs uses Had moments M T)
    → Had S (record { at = now; has = step.has; released = step.released } ∷ run.polls) → HaveRun gap subs uses Had (now ∷ moments) S T
run_more now gap subs uses waiting Had moments S M T step run had = by_release step.released step.user step.served step.adds had
  where
    by_release : (o : Option ℕ) → IsOfUser uses o → IsServed gap subs (latest None S) (record { at = now; has = step.has; released = o }) o
        → Adds now o S M → Had S (record { at = now; has = step.has; released = o } ∷ run.polls) → HaveRun gap subs uses Had (now ∷ moments) S T
    by_release None user served same had = record {
      polls = record { at = now; has = step.has; released = None } ∷ run.polls;
      at = grind arith;
      served = grind arith;
      users = (user, run.users);
      had = had;
      added = run.added;
      grown = grind arith;
      show = (run.added, refl, run.show);
    }
    by_release (Some chosen) user served (frame, of, more) had =
        let last : latest None M ≡ Some (record { at = now; sub = chosen }) = grind (arith, latest_push) in
        record {
          polls = record { at = now; has = step.has; released = Some chosen } ∷ run.polls;
          at = grind arith;
          served = grind arith;
          users = (user, run.users);
          had = had;
          added = entry now frame ∷ run.added;
          grown = grind (arith, append_assoc, entry);
          show = grind arith;
        }

-- Polls of one kind step on the link at a place: by this test of their time and its stream a fragment of a sub-VL waits.
-- From that, and from what is known of each poll, follows what is known of them all.
pub record AreSteps (plan : Plan) (k : ℕ) (Polls : ℕ → Lines → Lines → Type 0) (Had : List Entry → List Poll → Type 0)
    (test : ℕ → List Entry → ℕ → Bool) : Type 0 where
  pub stays_down : (now : ℕ) (lines after : Lines) → Polls now lines after → BothEndure lines after
  pub step : (now : ℕ) (lines after : Lines) → Polls now lines after → StandsAt plan k after
      → StepsAt now plan k (test now (stream_at plan k lines)) lines after
  pub none : (S : List Entry) → Had S []
  pub more : (p : Poll) (polls : List Poll) (lines mid : Lines) → Polls p.at lines mid
      → Adds p.at p.released (stream_at plan k lines) (stream_at plan k mid)
      → ((s : ℕ) → test p.at (stream_at plan k lines) s ≡ true → p.has s ≡ true)
      → Had (stream_at plan k mid) polls → Had (stream_at plan k lines) (p ∷ polls)

-- they never bring a network up
polls_endure : (Polls : ℕ → Lines → Lines → Type 0) (moments : List ℕ) (lines after : Lines)
    → ((now : ℕ) (lines after : Lines) → Polls now lines after → BothEndure lines after)
    → ArePolls Polls moments lines after → BothEndure lines after
polls_endure Polls [] lines after each r = grind arith
polls_endure Polls (now ∷ moments) lines after each r = grind (arith, polls_endure Polls moments r.0 after each r.2)

-- the run of polls
pub have_run : (moments : List ℕ) (plan : Plan) (k : ℕ) (Polls : ℕ → Lines → Lines → Type 0) (Had : List Entry → List Poll → Type 0)
    (test : ℕ → List Entry → ℕ → Bool) (lines after : Lines) → AreSteps plan k Polls Had test
    → ArePolls Polls moments lines after → StandsAt plan k after
    → HaveRun (gap_at plan k) (subs_at plan k) (uses_at plan k) Had moments (stream_at plan k lines) (stream_at plan k after)
have_run [] plan k Polls Had test lines after each r stands = record {
  polls = [];
  at = refl;
  served = tt;
  users = tt;
  had = each.none (stream_at plan k lines);
  added = [];
  grown = grind (arith, append-nil);
  show = refl;
}
have_run (now ∷ moments) plan k Polls Had test lines after each r stands =
    let stood : StandsAt plan k r.0 = grind (arith, stood_before, polls_endure) in
    let step : StepsAt now plan k (test now (stream_at plan k lines)) lines r.0 = each.step now lines r.0 r.1 stood in
    let run = have_run moments plan k Polls Had test r.0 after each r.2 stands in
    run_more now (gap_at plan k) (subs_at plan k) (uses_at plan k) (test now (stream_at plan k lines)) Had moments (stream_at plan k lines)
    (stream_at plan k r.0) (stream_at plan k after) step run
    (each.more (record { at = now; has = step.has; released = step.released }) run.polls lines r.0 r.1 step.adds step.waits run.had)

pub some_gap : (bag : Bag) → 1 ≤ 1000 * bag_ms bag
some_gap bag = grind arith
