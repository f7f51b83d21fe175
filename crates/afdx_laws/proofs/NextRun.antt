-- The law of the next fragment in a run of polls.
use Rattle.afdx_laws.proofs.RunNames.{not_begun, all_back, cond, is_of, HasAtPolls, ◌-◌, ℕ, ◌≡◌, ◌≢◌, ◌⊎◌, ◌+◌, ◌<◌, ◌≤◌, List, [], ◌∷◌, ◌++◌, Bool, true, map, length, arith, refl, Option, Some, None, inl, inr, ⊎_elim, All, nat_tests, cases_eq, eq-eqb, append_assoc, All-nil, All-head, Plan, IsPlan, link_plan_at, sub_in, Entry, Poll, AreTimely, none_begun, begun_after, begun_by, stamp_of, latest, latest_push, stream_at, next_wait, used_sub_vls, LinkPlan, mul-le, seen_of, ComeWithin, NextInRun, EmitterPolls, DrainPolls, ComesBy, wait_at, more_in, longest_wait, users_most}
use Rattle.afdx_laws.proofs.Used.{has_port_below}
use Rattle.afdx_laws.proofs.PollStep.{Adds, gap_at, subs_at, uses_at, emitter_step, emitter_lacks, drain_step, emitter_endures, drain_endures}
use Rattle.afdx_laws.proofs.Timely.{apart_timely, timely_released}
use Rattle.afdx_laws.proofs.Ran.{at_of, splits, timely_rise, AreSteps, have_run, some_gap}

come_later : (late before : ℕ) (moments : List ℕ) → ComeWithin late before moments → ComeWithin (late + 1) before moments
come_later late before [] come = tt
come_later late before (now ∷ moments) come = (come.0, omega arith, come_later late now moments come.2)

-- the first entry of a sub-VL among these
record IsFound (x : ℕ) (added : List Entry) : Type 0 where
  pub between : List Entry
  pub next : Entry
  pub later : List Entry
  pub is : added ≡ between ++ next ∷ later
  pub others : All (λ (e : Entry). sub_in e.frame ≢ x) between
  pub its : sub_in next.frame ≡ x

finds : (x : ℕ) (added : List Entry) → 1 ≤ length (seen_of x added) → IsFound x added
finds x [] one = absurd (omega arith)
finds x (e ∷ added) one = elim (cases_eq (sub_in e.frame) x) [
  | inl own ↦ record { between = []; next = e; later = added; is = refl; others = All-nil _; its = own }
  | inr other ↦
      let rest = finds x added (grind (arith, nat_tests)) in
      record {
        between = e ∷ rest.between;
        next = rest.next;
        later = rest.later;
        is = grind arith;
        others = grind arith;
        its = rest.its;
      }
]

-- whether a message of a sub-VL is begun, after one more entry
begun_push : (begun : ℕ → Bool) (S : List Entry) (e : Entry) (x : ℕ) → begun_by begun (S ++ e ∷ []) x ≡ begun_after (begun_by begun S) e x
begun_push begun [] e x = refl
begun_push begun (d ∷ S) e x = begun_push (begun_after begun d) S e x

-- one fragment at most is awaited, and only of a message that is begun
abbrev AwaitsOne : ℕ → ℕ → List Entry → Type 0
AwaitsOne x many S = (many ≤ 1) × (1 ≤ many → begun_by none_begun S x ≡ true)

-- the fragments that are still awaited after a poll
abbrev left : ℕ → ℕ → Option ℕ → ℕ
left x many released = many - cond (is_of x released) 1 0

still_awaits : (now x many : ℕ) (released : Option ℕ) (S M : List Entry) → AwaitsOne x many S → Adds now released S M
    → AwaitsOne x (left x many released) M
still_awaits now x many released S M (few, begun) adds = grind (arith, begun_push)

-- so the sub-VL has something at these polls until it is sent
abbrev HasOne : ℕ → List Entry → List Poll → Type 0
HasOne x S polls = (many : ℕ) → AwaitsOne x many S → HasAtPolls x many polls

polls_step : (plan : Plan) (k x : ℕ) → IsPlan plan → k < length plan.links
    → AreSteps plan k (λ now lines after. EmitterPolls plan now lines after ⊎ DrainPolls plan now lines after) (HasOne x)
    (λ now S. begun_by none_begun S)
polls_step plan k x valid inside = record {
  stays_down = λ now lines after p. ⊎_elim (λ emitter. emitter_endures now plan lines after emitter)
      (grind (arith, drain_endures)) p;
  step = λ now lines after p stands. ⊎_elim
      (λ emitter. emitter_step now plan k _ lines after valid inside emitter (emitter_lacks now plan k lines after inside emitter) stands)
      (grind (arith, drain_step, not_begun))
      p;
  none = λ S many awaits. tt;
  more = λ p polls lines mid of adds waits had many awaits. (
    λ some. waits x (awaits.1 some),
    had (left x many p.released) (still_awaits p.at x many p.released (stream_at plan k lines) (stream_at plan k mid) awaits adds),
  );
}

next_by : (T earlier soon more : List Entry) (first : Entry) (bound : ℕ) → more_in first.frame ≡ true
    → T ≡ (earlier ++ first ∷ []) ++ (soon ++ more) → All (λ (e : Entry). e.at ≤ bound) soon → IsFound (sub_in first.frame) soon
    → ComesBy T first bound
next_by T earlier soon more first bound flag grown by found = record {
  between = found.between;
  next = found.next;
  are = grind (arith, append_assoc);
  soon = All-head (λ (e : Entry). e.at ≤ bound) found.next found.later (all_back (λ (e : Entry). e.at ≤ bound) found.between
      (found.next ∷ found.later) (grind arith));
}

-- no more sub-VLs have a port than there are
next_less : (late : ℕ) (plan : Plan) (k : ℕ) → k < length plan.links → next_wait late plan k ≤ longest_wait late plan.links
next_less late plan k inside =
    let link : LinkPlan = link_plan_at plan.links k in
    let few = users_most link.sub_vls (uses_at plan k) in
    let less = mul-le (used_sub_vls link plan.ports) (gap_at plan k + late) link.sub_vls (gap_at plan k + late) few (omega arith) in
    let most = wait_at late plan.links k inside in
    omega arith

pub next_in_run_holds : NextInRun
next_in_run_holds plan moments lines after k late earlier first valid inside ends more has runs stands come reach =
    let x : ℕ = sub_in first.frame in
    let bound : ℕ = first.at + next_wait late plan k in
    let below = has_port_below plan k x valid inside has in
    let begun : begun_by none_begun (stream_at plan k lines) (sub_in first.frame) ≡ true = grind (arith, begun_push, eq-eqb) in
    let run = have_run moments plan k _ (HasOne x) _ lines after (polls_step plan k x valid inside) runs stands in
    let last : latest None (stream_at plan k lines) ≡ Some (stamp_of first) = grind (arith, latest_push) in
    let when : AreTimely (gap_at plan k) late bound first.at (map at_of run.polls) = rw run.at (apart_timely (gap_at plan k) late bound first.at
    moments (some_gap (link_plan_at plan.links k).bag) (come_later late first.at moments come) reach) in
    let one = timely_released run.polls (subs_at plan k) (uses_at plan k) x 1 (gap_at plan k) late first.at bound (latest None (stream_at plan k lines))
    below has (some_gap (link_plan_at plan.links k).bag) (rw last (omega arith)) run.served run.users (run.had 1 (omega arith, λ some. begun)) when
    (grind arith) in
    let rise = timely_rise (gap_at plan k) late bound first.at run.polls when in
    grind (arith, splits run.polls run.added x bound first.at rise run.show, next_less, next_by, finds)
