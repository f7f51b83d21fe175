-- What the polls of a group of sub-VLs release, from the last time on at which the group had sent all.
use Rattle.afdx_laws.proofs.RunNames.{ℕ, suc, zero, ◌≡◌, ◌+◌, ◌-◌, ◌*◌, ◌<◌, ◌≤◌, List, [], ◌∷◌, Bool, true, cond, arith, Option, Some, None, inl, inr, map, cases_lt, cases_eq, ◌/◌, mul-div-le, IsLater, users_among, Poll, is_of, released_by, AreServed, ServeUsers, AreTimely, last_after, Stamp, counted, nat_tests}
use Rattle.afdx_laws.proofs.Groups.{HasLess, outside, sum_in, sum_in_both, sum_in_same}
use Rattle.afdx_laws.proofs.GroupPolls.{HasInGroup}
use Rattle.afdx_laws.proofs.Ran.{HasOwed, Rise, at_of, past_none, timely_rise}
use Rattle.afdx_laws.proofs.Timely.{group_released}

-- a poll by a time is counted if it is of the sub-VL
pub counted_soon : (x bound : ℕ) (p : Poll) (polls : List Poll) → p.at ≤ bound
    → released_by x bound (p ∷ polls) ≡ cond (is_of x p.released) 1 0 + released_by x bound polls
counted_soon x bound p polls soon = grind (arith, nat_tests, counted x bound p polls)

-- no fewer are released by a later time
pub released_more : (x soon late : ℕ) (polls : List Poll) → soon ≤ late → released_by x soon polls ≤ released_by x late polls
released_more x soon late [] le = omega arith
released_more x soon late (p ∷ polls) le =
    grind (arith, nat_tests, counted x soon p polls, counted x late p polls, released_more x soon late polls le)

timely_less : (gap late end less before : ℕ) (moments : List ℕ) → less ≤ end → AreTimely gap late end before moments
    → AreTimely gap late less before moments
timely_less gap late end less before [] le timely = omega arith
timely_less gap late end less before (now ∷ moments) le timely =
    (timely.0, λ far. timely.1 (omega arith), timely_less gap late end less now moments le timely.2)

-- A group that had sent what was owed before `q`, and owed more since, until `at`. `gone` has how many fragments it has
-- sent by each time. It sends one each round while one of its sub-VLs owes some, up to a time.
pub record IsQuietAt (round at until q : ℕ) (owed gone : ℕ → ℕ) (IsBusy : ℕ → Type 0) : Type 0 where
  pub by : q ≤ at
  pub quiet : owed q ≤ gone q
  pub busy : (t : ℕ) → q < t → t ≤ at → gone t < owed t
  pub timed : (f end : ℕ) → end ≤ until → ((t : ℕ) → q < t → t ≤ end → IsBusy t) → q + round * f ≤ end → gone q + f ≤ gone end

-- it has sent a fragment for each round since
pub rounds_since : (round at until q : ℕ) (owed gone : ℕ → ℕ) (IsBusy : ℕ → Type 0) → IsQuietAt round at until q owed gone IsBusy → at ≤ until
    → ((t : ℕ) → gone t < owed t → IsBusy t) → (t : ℕ) → t ≤ at - q → gone q + t / round ≤ gone (q + t)
rounds_since round at until q owed gone IsBusy quiet long busy t le =
    let by = quiet.by in
    let below = mul-div-le t round in
    quiet.timed (t / round) (q + t) (omega arith) (λ u low soon. busy u (quiet.busy u low (omega arith))) (omega arith)

later_after : (last : Option Stamp) (before now : ℕ) (o : Option ℕ) → before ≤ now → IsLater last before → IsLater (last_after last now o) now
later_after last before now (Some chosen) le after = omega arith
later_after None before now None le after = tt
later_after (Some l) before now None le after = omega arith

-- the fragments of each sub-VL that were sent after a poll
abbrev sent_after : (ℕ → ℕ) → Poll → ℕ → ℕ
sent_after sent p s = sent s + cond (is_of s p.released) 1 0

module _ (gap subs : ℕ) (uses group : ℕ → Bool) (owed : ℕ → ℕ → ℕ) (late until : ℕ) (some : 1 ≤ gap)
    (rises : (s t u : ℕ) → t ≤ u → owed s t ≤ owed s u) where
  abbrev pub round : ℕ
  round = suc (users_among subs (outside uses group)) * (gap + late)

  -- Polls after one at `before`, and the last release then: what is known of them if each sub-VL had sent this much.
  pub record AreAfter (before : ℕ) (sent : ℕ → ℕ) (last : Option Stamp) (polls : List Poll) : Type 0 where
    pub later : IsLater last before
    pub served : AreServed gap subs last polls
    pub users : ServeUsers uses polls
    pub timely : AreTimely gap late until before (map at_of polls)
    pub has : (s : ℕ) → s < subs → group s ≡ true → HasOwed s (owed s) (sent s) polls

  abbrev pub gone_of : (ℕ → ℕ) → List Poll → ℕ → ℕ
  gone_of sent polls t = sum_in subs group (λ s. sent s + released_by s t polls)

  abbrev pub owed_of : ℕ → ℕ
  owed_of t = sum_in subs group (λ s. owed s t)

  -- a sub-VL of the group has not sent what it owed before a time
  abbrev pub IsBusy : (ℕ → ℕ) → List Poll → ℕ → Type 0
  IsBusy sent polls t = HasLess subs group (λ s. sent s + released_by s t polls) (λ s. owed s t)

  -- from a time on, until an end
  abbrev pub IsBusyFrom : ℕ → ℕ → (ℕ → ℕ) → List Poll → Type 0
  IsBusyFrom low end sent polls = (t : ℕ) → low ≤ t → t ≤ end → IsBusy sent polls t

  -- also after a poll
  still_busy : (sent : ℕ → ℕ) (p : Poll) (polls : List Poll) (t : ℕ) → p.at ≤ t → IsBusy sent (p ∷ polls) t → IsBusy (sent_after sent p) polls t
  still_busy sent p polls t le here =
      let one = counted_soon here.sub t p polls le in
      let less = here.less in
      record { sub = here.sub; below = here.below; inside = here.inside; less = omega arith }

  -- the sub-VL owes something at the first poll, if it comes by the end
  abbrev OwesFirst : ℕ → (ℕ → ℕ) → ℕ → List Poll → Type 0
  OwesFirst end sent x [] = Unit {0}
  OwesFirst end sent x (p ∷ polls) = p.at ≤ end → sent x < owed x p.at

  -- Polls from a time on at which the group is busy, until an end, with sub-VL `x` next to send.
  record IsBusySince (end x many : ℕ) (polls : List Poll) : Type 0 where
    low : ℕ
    sent : ℕ → ℕ
    owes : (s : ℕ) → s < subs → group s ≡ true → HasOwed s (owed s) (sent s) polls
    busy : IsBusyFrom low end sent polls
    rise : Rise low polls
    below : x < subs
    inside : group x ≡ true
    first : OwesFirst end sent x polls

  -- some sub-VL is next
  next_since : (low end x many : ℕ) (sent : ℕ → ℕ) (polls : List Poll) → x < subs → group x ≡ true
      → ((s : ℕ) → s < subs → group s ≡ true → HasOwed s (owed s) (sent s) polls) → Rise low polls → IsBusyFrom low end sent polls
      → (y : ℕ) × (y < subs) × (group y ≡ true) × IsBusySince end y many polls
  next_since low end x many sent [] lt inside owes rise busy =
      (x, lt, inside, record { low = low; sent = sent; owes = owes; busy = busy; rise = rise; below = lt; inside = inside; first = tt })
  next_since low end x many sent (p ∷ polls) lt inside owes rise busy = elim (cases_lt end p.at) [
    | inl past ↦ (
      x,
      lt,
      inside,
      record { low = low; sent = sent; owes = owes; busy = busy; rise = rise; below = lt; inside = inside; first = λ soon. absurd (omega arith) },
    )
    | inr soon ↦
        let here = busy p.at rise.0 soon in
        let less = here.less in
        let one = counted_soon here.sub p.at p polls (omega arith) in (
          here.sub,
          here.below,
          here.inside,
          record {
            low = low;
            sent = sent;
            owes = owes;
            busy = busy;
            rise = rise;
            below = here.below;
            inside = here.inside;
            first = λ by. omega arith;
          },
        )
  ]

  -- after a poll that is not of it, it still owes something
  still_owes : (end : ℕ) (sent after : ℕ → ℕ) (x now : ℕ) (polls : List Poll) → Rise now polls → sent x < owed x now → after x ≡ sent x
      → OwesFirst end after x polls
  still_owes end sent after x now [] rise owes same = tt
  still_owes end sent after x now (p ∷ polls) rise owes same = λ soon. (let more = rises x now p.at rise.0 in omega arith)

  busy_group : (end : ℕ) → HasInGroup subs group end (IsBusySince end)
  busy_group end = record {
    here = λ x many p polls b soon. (b.owes x b.below b.inside).0 (b.first soon);
    stays = λ x many p polls b soon none. record {
      low = p.at;
      sent = sent_after b.sent p;
      owes = λ s lt inside. (b.owes s lt inside).1;
      busy = λ t le by. still_busy b.sent p polls t le (b.busy t (let low = b.rise.0 in omega arith) by);
      rise = b.rise.1;
      below = b.below;
      inside = b.inside;
      first = still_owes end b.sent (sent_after b.sent p) x p.at polls b.rise.1 (b.first soon)
          (let not = none x b.inside in rw not (omega arith));
    };
    next = λ x many chosen p polls b soon is lt inside. next_since p.at end chosen many (sent_after b.sent p) polls lt inside
        (λ s below its. (b.owes s below its).1) b.rise.1
        (λ t le by. still_busy b.sent p polls t le (b.busy t (let low = b.rise.0 in omega arith) by));
  }

  -- fragments are released each round after that time while the group is busy
  abbrev IsTimed : ℕ → (ℕ → ℕ) → List Poll → Type 0
  IsTimed q sent polls = (f end : ℕ) → end ≤ until → IsBusyFrom (suc q) end sent polls → q + round * f ≤ end
      → gone_of sent polls q + f ≤ gone_of sent polls end

  -- all polls are after that time
  after_quiet : (q before x : ℕ) (sent : ℕ → ℕ) (last : Option Stamp) (polls : List Poll) → x < subs → group x ≡ true
      → AreAfter before sent last polls → before ≤ q → Rise (suc q) polls → IsTimed q sent polls
  after_quiet q before x sent last polls xl inside run soon rise f end less busy enough =
      let next = next_since (suc q) end x f sent polls xl inside run.has rise busy in
      let sent_all = group_released polls subs uses group (IsBusySince end) next.0 f gap late before end last (busy_group end) next.1 next.2 some
      run.later run.served run.users next.3 (timely_less gap late until end before (map at_of polls) less run.timely) (omega arith) in
      let none = sum_in_same subs group (λ s. sent s + released_by s q polls) sent
      (λ s lt its. (let zero_is = past_none s q (suc q) polls (omega arith) rise in omega arith)) in
      let both = sum_in_both subs group sent (λ s. released_by s end polls) in
      omega arith

  -- some polls are before it
  from_quiet : (polls : List Poll) (q before x : ℕ) (sent : ℕ → ℕ) (last : Option Stamp) → x < subs → group x ≡ true
      → AreAfter before sent last polls → before ≤ q → IsTimed q sent polls
  from_quiet [] q before x sent last xl inside run soon f end less busy enough =
      after_quiet q before x sent last [] xl inside run soon tt f end less busy enough
  from_quiet (p ∷ polls) q before x sent last xl inside run soon f end less busy enough = elim (cases_lt q p.at) [
    | inl past ↦
        let rise = timely_rise gap late until before (p ∷ polls) run.timely in
        after_quiet q before x sent last (p ∷ polls) xl inside run soon (past, rise.1) f end less busy enough
    | inr come ↦
        let here = sum_in_same subs group (λ s. sent s + released_by s q (p ∷ polls)) (λ s. sent_after sent p s + released_by s q polls)
        (λ s lt its. (let one = counted_soon s q p polls come in omega arith)) in
        let there = sum_in_same subs group (λ s. sent s + released_by s end (p ∷ polls)) (λ s. sent_after sent p s + released_by s end polls)
        (λ s lt its. (let one = counted_soon s end p polls (omega arith) in omega arith)) in
        let rest = from_quiet polls q p.at x (sent_after sent p) (last_after last p.at p.released) xl inside (record {
          later = later_after last before p.at p.released run.timely.0 run.later;
          served = run.served.1;
          users = run.users.1;
          timely = run.timely.2;
          has = λ s lt its. (run.has s lt its).1;
        }) come f end less (λ t low le. still_busy sent p polls t (omega arith) (busy t low le)) (omega arith) in
        omega arith
  ]

  -- The last quiet time of a run from `start` on: it is looked for from `q` down.
  pub last_quiet : (start x : ℕ) (sent : ℕ → ℕ) (last : Option Stamp) (polls : List Poll) → x < subs → group x ≡ true
      → AreAfter start sent last polls → owed_of start ≤ gone_of sent polls start → (at : ℕ) → at ≤ until
      → (more q : ℕ) → start + more ≡ q → q ≤ at → ((t : ℕ) → q < t → t ≤ at → gone_of sent polls t < owed_of t)
      → (quiet : ℕ) × (start ≤ quiet) × IsQuietAt round at until quiet owed_of (gone_of sent polls) (IsBusy sent polls)
  last_quiet start x sent last polls xl inside run quiet at long zero q is by busy = (
    q,
    omega arith,
    record {
      by = by;
      quiet = (let same : q ≡ start = omega arith in rw same quiet);
      busy = busy;
      timed = λ f end less has enough. from_quiet polls q start x sent last xl inside run (omega arith) f end less has enough;
    },
  )
  last_quiet start x sent last polls xl inside run quiet at long (suc more) q is by busy =
      elim (cases_lt (gone_of sent polls q) (owed_of q)) [
        | inl few ↦
            last_quiet start x sent last polls xl inside run quiet at long more (q - 1) (omega arith) (omega arith) (λ t low le. elim (cases_eq t q) [
              | inl here ↦ rw here few
              | inr not ↦ busy t (omega arith) le
            ])
        | inr all ↦ (
          q,
          omega arith,
          record {
            by = by;
            quiet = all;
            busy = busy;
            timed = λ f end less has enough. from_quiet polls q start x sent last xl inside run (omega arith) f end less has enough;
          },
        )
      ]
