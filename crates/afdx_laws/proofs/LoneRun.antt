-- What a sub-VL alone has sent in a run since its last quiet time.
use Rattle.afdx_laws.proofs.RunNames.{AreMates, IsGroupRun, Poll, is_in, is_outside, ℕ, ◌≡◌, ◌+◌, ◌-◌, ◌/◌, ◌<◌, ◌≤◌, List, Bool, true, None, length, arith, ap, subst, inl, inr, cases_lt, mul-le, div-le_self, lt-mul-div-succ, Plan, IsPlan, link_plan_at, bag_micros, LinkPlan, Sent, Accepted, Lines, latest, stream_at, has_port, users_among, released_by, seen_of, AreTimely, Sender, AreSendersOf, have_periods, flows_of, arrived_before, IsBusyTime, round_of, Arrival, accepted_by}
use Rattle.afdx_laws.proofs.GroupWait.{KeepsOwn}
use Rattle.afdx_laws.proofs.Groups.{sum_in, sum_in_le, sum_in_sole}
use Rattle.afdx_laws.proofs.Mates.{round_is}
use Rattle.afdx_laws.proofs.QuietPolls.{IsQuietAt, last_quiet, rounds_since}
use Rattle.afdx_laws.proofs.Ran.{some_gap}
use Rattle.afdx_laws.proofs.TrafficRun.{are_after, are_none, at_rises, gone_by, group_run, only_own, own_in, sent_all, sub_keeps}

-- What is known at `now` of a time at which the sub-VL had sent all that it had accepted before, with `sent` fragments
-- sent in all.
pub record IsSince (round now sent : ℕ) (owed : ℕ → ℕ) (link : LinkPlan) (s : ℕ) (senders : List Sender) (q : ℕ) : Type 0 where
  pub by : q ≤ now
  pub within : (busy : ℕ) → IsBusyTime round (flows_of link s senders) busy → now - q ≤ busy
  pub gone : owed q + (now - q - 1) / round ≤ sent
  pub came : owed q + (now - q - 1) / round ≤ owed now

-- the sub-VL at its last quiet time
quiet_since : (round now sent q : ℕ) (owed gone : ℕ → ℕ) (link : LinkPlan) (s : ℕ) (senders : List Sender) (IsBusy : ℕ → Type 0) → 1 ≤ round → 1 ≤ now
    → ((t u : ℕ) → t ≤ u → owed t ≤ owed u) → KeepsOwn owed link s senders → IsQuietAt round (now - 1) (now - 1) q owed gone IsBusy
    → ((t : ℕ) → gone t < owed t → IsBusy t) → gone (now - 1) ≤ sent → IsSince round now sent owed link s senders q
quiet_since round now sent q owed gone link s senders IsBusy turns some rises keeps quiet busy all =
    let by = quiet.by in
    let begin = quiet.quiet in
    let rounds = rounds_since round (now - 1) (now - 1) q owed gone IsBusy quiet (omega arith) busy in
    let order : now - 1 - q ≡ now - q - 1 = omega arith in
    let part : (now - 1 - q) / round ≡ (now - q - 1) / round = ap (λ (t : ℕ). t / round) order in
    let last : q + (now - 1 - q) ≡ now - 1 = omega arith in
    let whole : gone q + (now - 1 - q) / round ≤ gone (now - 1) =
    subst (λ (t : ℕ). gone q + (now - 1 - q) / round ≤ gone t) last (rounds (now - 1 - q) (omega arith)) in
    record {
      by = omega arith;
      within = λ t is. elim (cases_lt t (now - q)) [
        | inr soon ↦ soon
        | inl late ↦
            let then = rounds t (omega arith) in
            let has = quiet.busy (q + t) (let one = is.some in omega arith) (omega arith) in
            let kept = keeps.kept_before q t is.some in
            let below = lt-mul-div-succ t turns in
            let le = mul-le round (t / round + 1) round (arrived_before (flows_of link s senders) t) (omega arith) (omega arith) in
            absurd (omega (arith, is.is))
      ];
      gone = omega arith;
      came = elim (cases_lt q (now - 1)) [
        | inl past ↦
            let has = quiet.busy (now - 1) past (omega arith) in
            let more = rises (now - 1) now (omega arith) in
            omega arith
        | inr here ↦
            let more = rises q now (omega arith) in
            let less = div-le_self (now - q - 1) round in
            omega arith
      ];
    }

-- A run of a sub-VL alone.
module _ (plan : Plan) (senders : List Sender) (accepted : Accepted) (moments : List ℕ) (lines after : Lines) (k s late start now : ℕ)
    (before : ℕ → List Sent) (arrivals : ℕ → List Arrival) (later : ℕ → List Sent) (valid : IsPlan plan) (of : AreSendersOf plan senders)
    (run : IsGroupRun plan senders accepted k s 0 start before arrivals later moments lines after) where
  abbrev gap : ℕ
  gap = bag_micros (link_plan_at plan.links k).bag

  abbrev subs : ℕ
  subs = (link_plan_at plan.links k).sub_vls

  abbrev uses : ℕ → Bool
  uses = has_port (link_plan_at plan.links k) plan.ports

  abbrev none : AreMates plan (link_plan_at plan.links k) s senders 0
  none = are_none plan (link_plan_at plan.links k) s senders

  abbrev polls : List Poll
  polls = (group_run plan senders accepted moments lines after k s 0 late start before arrivals later valid of none run).polls

  abbrev all_at : ℕ → ℕ → ℕ
  all_at t = accepted_by plan k (before t) (arrivals t)

  abbrev sent : ℕ → ℕ
  sent t = length (seen_of t (stream_at plan k lines))

  abbrev gone : ℕ → ℕ
  gone t = sent s + released_by s t polls

  abbrev rises : (t u v : ℕ) → u ≤ v → all_at t u ≤ all_at t v
  rises = at_rises plan senders accepted moments lines after k s 0 late start before arrivals later valid of none run

  inside : is_in s 0 s ≡ true
  inside = own_in plan senders accepted moments lines after k s 0 late start before arrivals later valid of none run

  sole : (count : ℕ → ℕ) → sum_in subs (is_in s 0) count ≡ count s
  sole count = sum_in_sole subs s (is_in s 0) count run.sub inside (only_own s)

  -- the last quiet time
  lone_quiet : 1 ≤ now → start ≤ now - 1 → AreTimely gap late (now - 1) start moments
      → (q : ℕ) × IsQuietAt (round_of late plan (link_plan_at plan.links k) s 0) (now - 1) (now - 1) q (all_at s) gone (λ t. gone t < all_at s t)
  lone_quiet some past timely =
      let found = last_quiet gap subs uses (is_in s 0) all_at late (now - 1) (some_gap (link_plan_at plan.links k).bag) rises start s sent
      (latest None (stream_at plan k lines)) polls run.sub inside
      (are_after plan senders accepted moments lines after k s 0 late start before arrivals later valid of none run (now - 1) timely)
      (sum_in_le subs (is_in s 0) (λ y. all_at y start) (λ y. sent y + released_by y start polls)
      (λ y lt its. (let same = sent_all plan senders accepted moments lines after k s 0 late start before arrivals later valid of none run y lt its in omega arith)))
      (now - 1) (omega arith) (now - 1 - start) (now - 1) (omega arith) (omega arith) (λ t far le. absurd (omega arith)) in
      let q : ℕ = found.0 in
      let quiet = found.2 in (
        q,
        subst (λ (r : ℕ). IsQuietAt r (now - 1) (now - 1) q (all_at s) gone (λ t. gone t < all_at s t)) (round_is late plan (link_plan_at plan.links k) s 0)
            (record {
              by = quiet.by;
              quiet = (let begin = quiet.quiet in let one = sole (λ y. all_at y q) in let two = sole (λ y. sent y + released_by y q polls) in omega arith);
              busy = λ t low le. (
                  let has = quiet.busy t low le in
                  let one = sole (λ y. all_at y t) in
                  let two = sole (λ y. sent y + released_by y t polls) in
                  omega arith
                  );
              timed = λ f end less busy enough. (
                  let all = quiet.timed f end less (λ t low le. record { sub = s; below = run.sub; inside = inside; less = busy t low le }) enough in
                  let one = sole (λ y. sent y + released_by y q polls) in
                  let two = sole (λ y. sent y + released_by y end polls) in
                  omega arith
                  );
            }),
      )

  pub lone_since : have_periods (link_plan_at plan.links k) s senders ≡ true → start ≤ now → AreTimely gap late (now - 1) start moments
      → (q : ℕ) × IsSince (round_of late plan (link_plan_at plan.links k) s 0) now (length (seen_of s (stream_at plan k after))) (all_at s)
      (link_plan_at plan.links k) s senders q
  lone_since periods from timely =
      let round : ℕ = round_of late plan (link_plan_at plan.links k) s 0 in
      let seen = λ (t : ℕ). gone_by plan senders accepted moments lines after k s 0 late start before arrivals later valid of none run t (now - 1) timely in
      let begin = sent_all plan senders accepted moments lines after k s 0 late start before arrivals later valid of none run s run.sub inside in
      elim (cases_lt start now) [
        | inr here ↦ (
          now,
          record {
            by = omega arith;
            within = λ busy is. omega arith;
            gone = (
                let same : start ≡ now = omega arith in
                let owes = ap (all_at s) same in
                let more = seen start in
                let part = div-le_self (now - now - 1) round in
                omega arith
                );
            came = (let part = div-le_self (now - now - 1) round in omega arith);
          },
        )
        | inl past ↦
            let quiet = lone_quiet (omega arith) (omega arith) timely in
            let some = some_round in (
              quiet.0,
              quiet_since round now (length (seen_of s (stream_at plan k after))) quiet.0 (all_at s) gone (link_plan_at plan.links k) s senders
                  (λ t. gone t < all_at s t) some (omega arith) (rises s)
                  (sub_keeps plan senders accepted moments lines after k s 0 late start before arrivals later valid of none run s run.sub inside periods)
                  quiet.1 (λ t few. few) (seen (now - 1)),
            )
      ]
    where
      some_round : 1 ≤ round_of late plan (link_plan_at plan.links k) s 0
      some_round =
          let some = some_gap (link_plan_at plan.links k).bag in
          mul-le 1 1 (1 + users_among (link_plan_at plan.links k).sub_vls (is_outside (link_plan_at plan.links k) plan.ports s 0))
          (bag_micros (link_plan_at plan.links k).bag + late) (omega arith) (omega arith)
