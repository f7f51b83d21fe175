-- The next fragment of a message comes within a round of the sub-VLs.
use Rattle.afdx_laws.proofs.Names.{◌≡◌, ◌≢◌, ℕ, zero, suc, ◌+◌, ◌*◌, ◌≤◌, ◌<◌, true, false, eqb, List, [], ◌∷◌, ◌++◌, length, map, refl, subst, arith, All, AllByRecursion, IsDistinct, list_any, nat_tests, ne_eqb, length-map, link_plan_at, bag_micros, LinkPlan, sub_in, Entry, sub_stream, link_stream, id_at, IsDistinct-cons, IsDistinct-from_apart, length-le_from_distinct_below, before_next, IsFollowedInTurn, TakesTurns, AreNeighbours, IsOfOneOf, NextInARound, FollowWithin, NextInTime, link_wait, longest_wait, NextInPlan, LieTwoGapsApart, TurnsAreTold}
use Rattle.afdx_laws.proofs.ListLemmas.{all_back, all_front}
use Rattle.afdx_laws.proofs.LegalSpacing.{stream_within}

abbrev subs_of : List Entry → List ℕ
subs_of es = map (λ (e : Entry). sub_in e.frame) es

none_in : (x : ℕ) (es : List Entry) → length (sub_stream x es) ≤ 0 → AllByRecursion (λ y. eqb x y ≡ false) (subs_of es)
none_in x [] none = tt
none_in x (e ∷ es) none = grind (arith, nat_tests, none_in x es)

distinct_of : (es : List Entry) → ((y : ℕ) → length (sub_stream y es) ≤ 1) → IsDistinct eqb (subs_of es)
distinct_of [] one = grind (arith, IsDistinct-from_apart)
distinct_of (e ∷ es) one = IsDistinct-cons eqb (sub_in e.frame) (subs_of es)
    (grind (arith, none_in))
    (distinct_of es (grind arith))

below_of : (n : ℕ) (es : List Entry) → All (IsOfOneOf n) es → (q : ℕ) → list_any (eqb q) (subs_of es) ≡ true → q < n
below_of n [] of q any = grind arith
below_of n (e ∷ es) of q any = grind (arith, nat_tests, below_of n es (λ k d h. of (suc k) d (omega arith)) q, of 0 e (omega arith))

none_of : (x : ℕ) (es : List Entry) → All (λ (e : Entry). sub_in e.frame ≢ x) es → length (sub_stream x es) ≤ 0
none_of x [] others = omega arith
none_of x (e ∷ es) others = rw (ne_eqb (sub_in e.frame) x (others 0 e (omega arith)))
    (none_of x es (λ k d h. others (suc k) d (omega arith)))

before_is : (x : ℕ) (between : List Entry) (next : Entry) (after : List Entry)
    → All (λ (e : Entry). sub_in e.frame ≢ x) between → sub_in next.frame ≡ x → before_next x (between ++ next ∷ after) ≡ between
before_is x [] next after others its = grind arith
before_is x (e ∷ es) next after others its = grind (
  arith,
  nat_tests,
  others 0 e (omega arith),
  before_is x es next after (λ k d h. others (suc k) d (omega arith)) its,
)

-- the entry is followed in turn, and those after it are of the link's sub-VLs
turn_at : (before : List Entry) (first : Entry) (rest : List Entry) → TakesTurns (before ++ first ∷ rest) → IsFollowedInTurn first rest
turn_at [] first rest h = h.0
turn_at (e ∷ es) first rest h = turn_at es first rest h.1

between_of : (subs : ℕ) (stream : List Entry) (first : Entry) (between : List Entry) (next : Entry)
    → All (IsOfOneOf subs) stream → (n : AreNeighbours stream first between next)
    → All (IsOfOneOf subs) (first ∷ (between ++ next ∷ n.after))
between_of subs stream first between next of n =
    all_back (IsOfOneOf subs) n.before (first ∷ (between ++ next ∷ n.after)) (grind arith)

pub next_in_a_round : NextInARound
next_in_a_round subs stream first between next turns of n =
    let x : ℕ = sub_in first.frame in
    let all : All (IsOfOneOf subs) (first ∷ between) = grind (arith, all_front (IsOfOneOf subs) (first ∷ between) (next ∷ n.after) (first ∷ (between ++ next ∷ n.after)) refl (between_of subs stream first between next of n), between_of subs stream first between next of n) in
    let turn = turn_at n.before first (between ++ next ∷ n.after) (subst TakesTurns n.is turns) in
    let one : (y : ℕ) → length (sub_stream y between) ≤ 1 = grind (arith, before_is) in
    let apart : AllByRecursion (λ y. eqb x y ≡ false) (subs_of between) =
    none_in x between (none_of x between n.others) in
    let few = length-le_from_distinct_below (subs_of (first ∷ between)) subs
    (IsDistinct-cons eqb x (subs_of between) apart (distinct_of between one)) (below_of subs (first ∷ between) all) in
    grind (arith, length-map)

last_within : (most before : ℕ) (es : List Entry) (e : Entry) → FollowWithin most before (es ++ e ∷ [])
    → e.at ≤ before + (length es + 1) * most
last_within most before [] e h = grind arith
last_within most before (d ∷ es) e h = grind (arith, last_within most d.at es e h.1)

pub next_in_time : NextInTime
next_in_time subs gap late stream first between next turns of n follow =
    let round = next_in_a_round subs stream first between next turns of n in
    grind (arith, last_within)

pub wait_at : (late : ℕ) (links : List LinkPlan) (k : ℕ) → k < length links
    → link_wait late (link_plan_at links k) ≤ longest_wait late links
wait_at late [] k lt = absurd (omega arith)
wait_at late (link ∷ links) zero lt = omega arith
wait_at late (link ∷ links) (suc k) lt = let h = wait_at late links k (omega arith) in omega arith

pub next_in_plan : NextInPlan
next_in_plan plan accepted net handed late k first between next valid legal turns inside n follow =
    let of : All (IsOfOneOf (link_plan_at plan.links k).sub_vls) (link_stream (id_at plan k) handed) =
    grind (arith, stream_within plan net k handed valid inside legal.known) in
    let bound = next_in_time (link_plan_at plan.links k).sub_vls (bag_micros (link_plan_at plan.links k).bag) late
    (link_stream (id_at plan k) handed) first between next (turns k inside) of n follow in
    grind (arith, wait_at)

pub lie_two_gaps_apart : LieTwoGapsApart
lie_two_gaps_apart = record {
  are = record {
    before = [];
    after = [];
    is = refl;
    more = refl;
    others = grind arith;
    its = refl;
  };
  round = refl;
  within = omega arith;
  most = refl;
  number = refl;
}

pub turns_are_told : TurnsAreTold
turns_are_told = record {
  kept = grind arith;
  failed = λ turns. let two : 2 ≤ 1 = turns.0 refl 1 in omega arith;
  free = grind arith;
}
