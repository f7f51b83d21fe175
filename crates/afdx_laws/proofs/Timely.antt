-- How long a sub-VL waits if polls come when its link is due.
use Rattle.afdx_laws.proofs.RunNames.{Bool, ServeUsers, users_among, ℕ, suc, ◌≡◌, ◌+◌, ◌*◌, ◌<◌, ◌≤◌, List, [], ◌∷◌, true, arith, Option, inl, inr, map, cases_lt, IsLater, Poll, AreServed, HasAtPolls, released_by, ComeWithin, latest_of, ComesIn, AreTimely, ApartAreTimely, Stamp, released_in_time, ComeWhenDue, mul_right_comm}
use Rattle.afdx_laws.proofs.Groups.{outside, sum_in}
use Rattle.afdx_laws.proofs.GroupPolls.{HasInGroup, group_in_time}
use Rattle.afdx_laws.proofs.Ran.{at_of}

comes_due : (gap late end before : ℕ) (moments : List ℕ) → AreTimely gap late end before moments → before + (gap + late) ≤ end
    → ComesIn (before + gap) (before + (gap + late)) moments
comes_due gap late end before [] timely far = absurd (omega arith)
comes_due gap late end before (now ∷ moments) timely far = timely.1 far

not_before : (gap late end before low high : ℕ) (moments : List ℕ) → AreTimely gap late end before moments → ComesIn low high moments
    → before ≤ high
not_before gap late end before low high [] timely comes = absurd comes
not_before gap late end before low high (now ∷ moments) timely (inl here) = omega arith
not_before gap late end before low high (now ∷ moments) timely (inr later) =
    grind (arith, not_before gap late end now low high moments timely.2 later)

-- Polls that come when their link is due, until an end.
abbrev ComeDue : (gap late end : ℕ) → ℕ → ℕ → List Poll → Type 0
ComeDue gap late end before polled polls = AreTimely gap late end polled (map at_of polls)
    × (before + (gap + late) ≤ end → ComesIn (before + gap) (before + (gap + late)) (map at_of polls))

after_early : (now low high : ℕ) (moments : List ℕ) → now < low → ComesIn low high (now ∷ moments) → ComesIn low high moments
after_early now low high moments early (inl here) = absurd (omega arith)
after_early now low high moments early (inr later) = later

first_soon : (gap late end now low high : ℕ) (moments : List ℕ) → AreTimely gap late end now moments → ComesIn low high (now ∷ moments) → now ≤ high
first_soon gap late end now low high moments timely (inl here) = here.1
first_soon gap late end now low high moments timely (inr later) = not_before gap late end now low high moments timely later

come_due : (gap late end : ℕ) → 1 ≤ gap → ComeWhenDue gap late end (ComeDue gap late end)
come_due gap late end some = record {
  some = some;
  none = λ before polled comes. grind (arith, cases_lt);
  soon = λ before polled p ps comes far. first_soon gap late end p.at _ _ (map at_of ps) comes.0.2 (comes.1 far);
  early = λ before polled p ps comes early. (comes.0.2, λ far. after_early p.at _ _ (map at_of ps) early (comes.1 far));
  again = λ before polled p ps comes. (comes.0.2, comes_due gap late end p.at (map at_of ps) comes.0.2);
}

-- `f` frames of a group are released within `f` rounds, of one gap and one lateness for the group and each user outside.
pub group_released : (polls : List Poll) (subs : ℕ) (uses group : ℕ → Bool) (Has : ℕ → ℕ → List Poll → Type 0) (x f gap late start end : ℕ)
    (last : Option Stamp) → HasInGroup subs group end Has → x < subs → group x ≡ true → 1 ≤ gap → IsLater last start
    → AreServed gap subs last polls → ServeUsers uses polls → Has x f polls → AreTimely gap late end start (map at_of polls)
    → start + suc (users_among subs (outside uses group)) * (gap + late) * f ≤ end
    → f ≤ sum_in subs group (λ s. released_by s end polls)
group_released polls subs uses group Has x f gap late start end last known xl inside some after served users has timely enough =
    let turned = mul_right_comm (suc (users_among subs (outside uses group))) f (gap + late) in
    group_in_time subs uses group gap late end (ComeDue gap late end) Has (come_due gap late end some) known
    polls x f start last xl inside after served users has (timely, comes_due gap late end start (map at_of polls) timely) (omega arith)

-- `f` frames of a sub-VL are released within `f` rounds, of one gap and one lateness per sub-VL that uses the link.
pub timely_released : (polls : List Poll) (subs : ℕ) (uses : ℕ → Bool) (x f gap late start end : ℕ) (last : Option Stamp) → x < subs → uses x ≡ true
    → 1 ≤ gap → IsLater last start → AreServed gap subs last polls → ServeUsers uses polls → HasAtPolls x f polls
    → AreTimely gap late end start (map at_of polls)
    → start + users_among subs uses * f * (gap + late) ≤ end → f ≤ released_by x end polls
timely_released polls subs uses x f gap late start end last xl user some after served users has timely enough =
    released_in_time subs uses x gap late end (ComeDue gap late end) xl user (come_due gap late end some)
    polls f start last after served users has (timely, comes_due gap late end start (map at_of polls) timely) enough

comes_close : (late low high from : ℕ) (moments : List ℕ) → from < low → high ≡ low + late → ComeWithin (late + 1) from moments
    → high ≤ latest_of from moments → ComesIn low high moments
comes_close late low high from [] before wide close far = absurd (omega arith)
comes_close late low high from (now ∷ moments) before wide close far = elim (cases_lt now low) [
  | inl early ↦ inr (comes_close late low high now moments early wide close.2 far)
  | inr here ↦ inl (omega arith, omega arith)
]

pub apart_timely : ApartAreTimely
apart_timely gap late end before [] some close far = omega arith
apart_timely gap late end before (now ∷ moments) some close far =
    grind (arith, comes_close, apart_timely gap late end now moments some close.2 far)
