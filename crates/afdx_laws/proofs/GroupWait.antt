-- When a message is wholly released, if the ports of a group of sub-VLs that contains its own keep periods.
use Rattle.afdx_laws.proofs.RunNames.{ℕ, suc, ◌≡◌, ◌+◌, ◌-◌, ◌/◌, ◌<◌, ◌≤◌, List, [], ◌∷◌, subst, refl, Bool, true, false, cond, ◌&&◌, nat_le, nat_lt, nat_tests, min, arith, Option, inl, inr, cases_lt, Poll, Stamp, released_by, users_among, LinkPlan, Sender, flows_of, flows_with, arrived, arrived_before, IsWaitInGroup, IsBusyUntil, waits_in_group, lt-mul-div-succ, mul-div-le, mul-le}
use Rattle.afdx_laws.proofs.Groups.{has_less, in_group, outside, sum_in, sum_in_le, sum_in_with}
use Rattle.afdx_laws.proofs.QuietPolls.{AreAfter, IsBusy, IsQuietAt, counted_soon, gone_of, last_quiet, owed_of, released_more, round, rounds_since}
use Rattle.afdx_laws.proofs.Ran.{Rise, SendsOwed, past_none, timely_rise}

-- What a sub-VL owes before each time, if it accepts so much in each time without its end, and with it.
pub record KeepsOwed (owed before by : ℕ → ℕ) : Type 0 where
  pub kept_before : (q t : ℕ) → 1 ≤ t → owed (q + t) ≤ owed q + before t
  pub kept : (q t : ℕ) → owed (q + suc t) ≤ owed q + by t

-- what the ports of a sub-VL, and of its mates, hand over
abbrev pub KeepsOwn : (ℕ → ℕ) → LinkPlan → ℕ → List Sender → Type 0
KeepsOwn owed link s senders = KeepsOwed owed (arrived_before (flows_of link s senders)) (arrived (flows_of link s senders))

abbrev pub KeepsRest : (ℕ → ℕ) → LinkPlan → ℕ → List Sender → Type 0
KeepsRest owed link mates senders = KeepsOwed owed (arrived_before (flows_with link mates senders)) (arrived (flows_with link mates senders))

-- nothing is sent before it is owed
sooner_at : (y low sent t : ℕ) (owed : ℕ → ℕ) (polls : List Poll) → ((a b : ℕ) → a ≤ b → owed a ≤ owed b) → Rise low polls → SendsOwed y owed sent polls
    → sent ≤ owed (low + 1) → low ≤ t → sent + released_by y t polls ≤ owed (t + 1)
sooner_at y low sent t owed [] rises rise sends begin le = let more = rises (low + 1) (t + 1) (omega arith) in omega arith
sooner_at y low sent t owed (p ∷ polls) rises rise sends begin le = elim (cases_lt t p.at) [
  | inl early ↦
      let none = past_none y t p.at (p ∷ polls) early (omega arith, rise.1) in
      let more = rises (low + 1) (t + 1) (omega arith) in
      omega arith
  | inr come ↦
      let one = counted_soon y t p polls come in
      let rest = sooner_at y p.at _ t owed polls rises rise.1 sends.1 sends.0 come in
      omega arith
]

module _ (gap subs : ℕ) (uses : ℕ → Bool) (late until : ℕ) (some : 1 ≤ gap) (s : ℕ) (rest : ℕ → Bool) (xl : s < subs)
    (other : rest s ≡ false) (owed : ℕ → ℕ → ℕ) (rises : (y t u : ℕ) → t ≤ u → owed y t ≤ owed y u)
    (start : ℕ) (sent : ℕ → ℕ) (last : Option Stamp) (polls : List Poll)
    (run : AreAfter gap subs uses (in_group s rest) owed late until some rises start sent last polls)
    (link : LinkPlan) (mates : ℕ) (senders : List Sender)
    (at total : ℕ) (few_at : owed s at < total) (all : (t : ℕ) → at < t → total ≤ owed s t) where
  abbrev group : ℕ → Bool
  group = in_group s rest

  abbrev turn : ℕ
  turn = round gap subs uses group owed late until some rises

  abbrev gone_at : ℕ → ℕ → ℕ
  gone_at y t = sent y + released_by y t polls

  abbrev rest_owed : ℕ → ℕ
  rest_owed t = sum_in subs rest (λ y. owed y t)

  abbrev all_gone : ℕ → ℕ
  all_gone = gone_of gap subs uses group owed late until some rises sent polls

  abbrev all_owed : ℕ → ℕ
  all_owed = owed_of gap subs uses group owed late until some rises

  abbrev Busy : ℕ → Type 0
  Busy t = IsBusy gap subs uses group owed late until some rises sent polls t

  own_inside : group s ≡ true
  own_inside = grind (arith, nat_tests)

  rest_rises : (t u : ℕ) → t ≤ u → rest_owed t ≤ rest_owed u
  rest_rises t u le = sum_in_le subs rest (λ y. owed y t) (λ y. owed y u) (λ y lt its. rises y t u le)

  owed_parts : (t : ℕ) → all_owed t ≡ owed s t + rest_owed t
  owed_parts t = sum_in_with subs s rest (λ y. owed y t) xl other

  gone_parts : (t : ℕ) → all_gone t ≡ gone_at s t + sum_in subs rest (λ y. gone_at y t)
  gone_parts t = sum_in_with subs s rest (λ y. gone_at y t) xl other

  own_more : (t u : ℕ) → t ≤ u → gone_at s t ≤ gone_at s u
  own_more t u le = let more = released_more s t u polls le in omega arith

  -- the rest has not sent more than it owes
  rest_sends : (t : ℕ) → start ≤ t → ((y : ℕ) → y < subs → rest y ≡ true → SendsOwed y (owed y) (sent y) polls)
      → ((y : ℕ) → y < subs → rest y ≡ true → sent y ≤ owed y (start + 1)) → sum_in subs rest (λ y. gone_at y t) ≤ rest_owed (suc t)
  rest_sends t from sends begin = sum_in_le subs rest (λ y. gone_at y t) (λ y. owed y (suc t)) (λ y lt its. (
      let soon = sooner_at y start (sent y) t (owed y) polls (rises y) (timely_rise gap late until start polls run.timely) (sends y lt its) (begin y lt its) from in
      let same : t + 1 ≡ suc t = omega arith in
      subst (λ (n : ℕ). gone_at y t ≤ owed y n) same soon
      ))

  -- a round takes time
  some_turn : 1 ≤ turn
  some_turn = mul-le 1 1 (suc (users_among subs (outside uses group))) (gap + late) (omega arith) (omega arith)

  -- from the last quiet time on
  module _ (q : ℕ) (from : start ≤ q) (long : at ≤ until) (quiet : IsQuietAt turn at until q all_owed all_gone Busy)
      (rest_keeps : KeepsRest rest_owed link mates senders) (sends : (y : ℕ) → y < subs → rest y ≡ true → SendsOwed y (owed y) (sent y) polls)
      (begin : (y : ℕ) → y < subs → rest y ≡ true → sent y ≤ owed y (start + 1)) where
    -- the group is busy until the message is released
    busy_until : (t : ℕ) → gone_at s t < total → (u : ℕ) → q < u → u ≤ t → Busy u
    busy_until t few u low le = elim (cases_lt at u) [
      | inl past ↦
          let more = own_more u t le in
          let is = all u past in
          record { sub = s; below = xl; inside = own_inside; less = omega arith }
      | inr soon ↦ has_less subs group (λ y. gone_at y u) (λ y. owed y u) (quiet.busy u low soon)
    ]

    -- and sends one fragment each round
    rounds : (t : ℕ) → q + t ≤ until → ((u : ℕ) → q < u → u ≤ q + t → Busy u) → all_gone q + t / turn ≤ all_gone (q + t)
    rounds t le busy = let below = mul-div-le t turn in quiet.timed (t / turn) (q + t) le busy (omega arith)

    still_has : (t : ℕ) → 1 ≤ t → t ≤ at - q → t / turn < (owed s (q + t) - owed s q) + (rest_owed (q + t) - rest_owed q)
    still_has t one le =
        let begin = quiet.quiet in
        let has = quiet.busy (q + t) (omega arith) (omega arith) in
        let sent_then = rounds_since turn at until q all_owed all_gone Busy quiet long (λ u few. has_less subs group (λ y. gone_at y u) (λ y. owed y u) few) t le in
        let first = owed_parts q in
        let then = owed_parts (q + t) in
        let own = rises s q (q + t) (omega arith) in
        let others = rest_rises q (q + t) (omega arith) in
        omega arith

    limit : (t : ℕ) → q + t ≤ until → gone_at s (q + t) < total → t / turn < (total - owed s q) + arrived (flows_with link mates senders) t
    limit t le few =
        let quiet_then = quiet.quiet in
        let sent_then = rounds t le (λ u low by. busy_until (q + t) few u low by) in
        let first = owed_parts q in
        let whole = gone_parts (q + t) in
        let soon = rest_sends (q + t) (omega arith) sends begin in
        let same : suc (q + t) ≡ q + suc t = omega arith in
        let others : sum_in subs rest (λ y. gone_at y (q + t)) ≤ rest_owed (q + suc t) =
        subst (λ (n : ℕ). sum_in subs rest (λ y. gone_at y (q + t)) ≤ rest_owed n) same soon in
        let kept = rest_keeps.kept q t in
        let by = quiet.by in
        let own = rises s q at by in
        omega arith

    -- What the group has released since, at least, while the message isn't: the rest as much as it may.
    abbrev rest_gone : ℕ → ℕ
    rest_gone t = min (t / turn) (arrived (flows_with link mates senders) t)

    abbrev waits : ℕ → Bool
    waits t = nat_lt (gone_at s (q + t)) total && nat_le (q + t) until

    abbrev own_gone : ℕ → ℕ
    own_gone t = cond (waits t) (t / turn - rest_gone t) (total - owed s q)

    while_waits : (t : ℕ) → own_gone t < total - owed s q
        → (gone_at s (q + t) < total) × (q + t ≤ until) × (own_gone t + rest_gone t ≡ t / turn)
    while_waits t few = by_test (waits t) refl few
      where
        by_test : (b : Bool) → waits t ≡ b → cond b (t / turn - rest_gone t) (total - owed s q) < total - owed s q
            → (gone_at s (q + t) < total) × (q + t ≤ until)
            × (cond b (t / turn - rest_gone t) (total - owed s q) + rest_gone t ≡ t / turn)
        by_test false is few = absurd (omega arith)
        by_test true is few = (grind (arith, nat_tests), grind (arith, nat_tests), omega arith)

    not_waits : (t : ℕ) → q + t ≤ until → total - owed s q ≤ own_gone t → total ≤ gone_at s (q + t)
    not_waits t le all_of = elim (cases_lt (gone_at s (q + t)) total) [
      | inr done ↦ done
      | inl few ↦
          let test : waits t ≡ true = grind (arith, nat_tests) in
          let few_so = limit t le few in
          let by = quiet.by in
          let own = rises s q at by in
          let here : t / turn - rest_gone t ≡ own_gone t = rw test refl in
          absurd (omega arith)
    ]

    busy_is : KeepsOwn (owed s) link s senders → gone_at s at < total
        → IsBusyUntil turn (flows_of link s senders) (flows_with link mates senders) (at - q) (λ t. owed s (q + t) - owed s q) (λ t. rest_owed (q + t) - rest_owed q)
        (total - owed s q) own_gone rest_gone
    busy_is keeps few = record {
      own_kept = λ t one le. (let kept = keeps.kept_before q t one in omega arith);
      rest_kept = λ t one le. (let kept = rest_keeps.kept_before q t one in omega arith);
      kept = (
          let by = quiet.by in
          let is = all (q + suc (at - q)) (omega arith) in
          let kept = keeps.kept q (at - q) in
          omega arith
          );
      rest_accepted = λ t few. omega arith;
      has = λ t one le. (
          let by = quiet.by in
          let has = still_has t one le in
          let more = own_more (q + t) at (omega arith) in
          let test : waits t ≡ true = grind (arith, nat_tests) in
          let here : own_gone t ≡ t / turn - rest_gone t = rw test refl in
          let few_so = limit t (omega arith) (omega arith) in
          let own = rises s q at by in
          (omega arith, omega arith)
          );
      sends = λ t few. (
          let waiting = while_waits t few in
          let below = lt-mul-div-succ t some_turn in
          rw waiting.2 below
          );
    }

    sent_by : (wait : ℕ) → KeepsOwn (owed s) link s senders → IsWaitInGroup turn (flows_of link s senders) (flows_with link mates senders) wait → at + wait ≤ until
        → gone_at s at < total → total ≤ gone_at s (at + wait)
    sent_by wait keeps is far few =
        let by = quiet.by in
        let found = waits_in_group turn (flows_of link s senders) (flows_with link mates senders) wait (at - q) (λ t. owed s (q + t) - owed s q) (λ t. rest_owed (q + t) - rest_owed q)
        (total - owed s q) own_gone rest_gone some_turn is (busy_is keeps few) in
        let soon = found.1 in
        let done = not_waits found.0 (omega arith) found.2 in
        let more = own_more (q + found.0) (at + wait) (omega arith) in
        omega arith

  -- A message is wholly released within the wait by traffic in the group.
  pub sent_in_group : (wait : ℕ) → KeepsOwn (owed s) link s senders → KeepsRest rest_owed link mates senders
      → ((y : ℕ) → y < subs → rest y ≡ true → SendsOwed y (owed y) (sent y) polls) → ((y : ℕ) → y < subs → group y ≡ true → sent y ≡ owed y start)
      → IsWaitInGroup turn (flows_of link s senders) (flows_with link mates senders) wait → start ≤ at → at + wait ≤ until → total ≤ sent s + released_by s (at + wait) polls
  sent_in_group wait keeps rest_keeps sends begin is from far = elim (cases_lt (gone_at s at) total) [
    | inr done ↦ (let more = own_more at (at + wait) (omega arith) in omega arith)
    | inl few ↦
        let quiet = last_quiet gap subs uses group owed late until some rises start s sent last polls xl own_inside run
        (sum_in_le subs group (λ y. owed y start) (λ y. gone_at y start) (λ y lt its. (let same = begin y lt its in omega arith)))
        at (omega arith) (at - start) at (omega arith) (omega arith) (λ t past le. absurd (omega arith)) in
        sent_by quiet.0 quiet.1 (omega arith) quiet.2 rest_keeps sends
        (λ y lt its. (let same = begin y lt (grind arith) in let more = rises y start (start + 1) (omega arith) in omega arith)) wait keeps is far few
  ]
