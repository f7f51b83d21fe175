-- How long a message waits, by the polls of its link.
use Rattle.vl_shaper.proofs.Names.{ℕ, Bool, mul-suc, zero, suc, ◌≡◌, ◌+◌, ◌-◌, ◌*◌, ◌%◌, ◌<◌, ◌≤◌, true, nat_le, ◌&&◌, cond, List, [], ◌∷◌, arith, refl, ap, ◌∙◌, ◌⊎◌, inl, inr, Option, Some, None, cases_eq, eq-eqb, le-leb, mul-le, sum_by-cons, Choice, next_turn, IsChosen, turn_of, IsLater, Stamp, mod-add-mod, mod-lt, Poll, IsServed, AreServed, ArePolled, latest_poll, is_of, IsOfUser, ServeUsers, HasAtPolls, released_by, PolledInTime, users_among}
use Rattle.vl_shaper.proofs.Users.{passed, passed_lt, passed_more, passed_self}
use Rattle.vl_shaper.proofs.OneEach.{chosen_behind, turn_cases}

-- A poll adds at most one to the count.
pub counted : (x moment : ℕ) (poll : Poll) (polls : List Poll)
    → released_by x moment (poll ∷ polls)
    ≡ cond (nat_le poll.at moment && is_of x poll.released) 1 0 + released_by x moment polls
counted x moment poll polls = sum_by-cons (λ (p : Poll). cond (nat_le p.at moment && is_of x p.released) 1 0) poll polls

-- One choice fewer needs one pause fewer.
one_pause : (fewer more pause : ℕ) → suc fewer ≤ more → pause + fewer * pause ≤ more * pause
one_pause fewer more pause less = grind arith

-- A poll releases a frame or none.
by_release : (o : Option ℕ) → (o ≡ None) ⊎ ((chosen : ℕ) × (o ≡ Some chosen))
by_release None = inl refl
by_release (Some chosen) = inr (chosen, refl)

-- the sub-VL after which the cyclic order starts
abbrev behind : ℕ → Option Stamp → ℕ
behind subs None = subs - 1
behind subs (Some l) = l.sub % subs

behind_lt : (subs : ℕ) (last : Option Stamp) {x : ℕ} → x < subs → behind subs last < subs
behind_lt subs None xl = omega arith
behind_lt subs (Some l) xl = mod-lt l.sub (omega arith)

from_0 : (subs k : ℕ) → k < subs → next_turn subs (subs - 1) k ≡ k
from_0 subs k lt = grind (arith, turn_cases)

same_turn : (subs last k : ℕ) → next_turn subs (last % subs) k ≡ next_turn subs last k
same_turn subs last k =
    let left : last % subs + 1 + k ≡ last % subs + (1 + k) = omega arith in
    grind (arith, mod-add-mod last subs (1 + k), left)

is_behind : (subs : ℕ) (last : Option Stamp) (c : Choice) → IsChosen subs (turn_of subs last) c
    → IsChosen subs (next_turn subs (behind subs last)) c
is_behind subs None c ch = grind (arith, from_0)
is_behind subs (Some l) c ch = grind (arith, same_turn)

-- Polls that come when the link is due, until an end. `Comes before polled polls` says so of the polls after one at
-- `polled`, if the last release was at `before`.
pub record ComeWhenDue (gap late end : ℕ) (Comes : ℕ → ℕ → List Poll → Type 0) : Type 0 where
  pub some : 1 ≤ gap
  pub none : (before polled : ℕ) → Comes before polled [] → end < before + (gap + late)
  pub soon : (before polled : ℕ) (p : Poll) (ps : List Poll) → Comes before polled (p ∷ ps) → before + (gap + late) ≤ end
      → p.at ≤ before + (gap + late)
  pub early : (before polled : ℕ) (p : Poll) (ps : List Poll) → Comes before polled (p ∷ ps) → p.at < before + gap
      → Comes before p.at ps
  pub again : (before polled : ℕ) (p : Poll) (ps : List Poll) → Comes before polled (p ∷ ps) → Comes p.at p.at ps

module _ (subs : ℕ) (uses : ℕ → Bool) (x gap late end : ℕ) (Comes : ℕ → ℕ → List Poll → Type 0) (xl : x < subs)
    (user : uses x ≡ true) (when : ComeWhenDue gap late end Comes) where
  -- From any poll on, one round is left for each turn but the rest of the first.
  in_time : (polls : List Poll) (l f before polled : ℕ) (last : Option Stamp) → l < subs → IsLater last before
      → ((c : Choice) → IsChosen subs (turn_of subs last) c → IsChosen subs (next_turn subs l) c)
      → AreServed gap subs last polls → ServeUsers uses polls → HasAtPolls x f polls → Comes before polled polls
      → (1 ≤ f → before + (users_among subs uses * f - passed subs uses x l) * (gap + late) ≤ end)
      → f ≤ released_by x end polls
  in_time polls l zero before polled last ll after order served u has comes enough = omega arith
  in_time [] l (suc f) before polled last ll after order served u has comes enough =
      let e = enough (omega arith) in
      let b = passed_lt subs uses x l xl user in
      let m = mul-suc (users_among subs uses) f in
      let one = one_pause 0 (users_among subs uses * suc f - passed subs uses x l) (gap + late) (omega arith) in
      absurd (omega (arith, when.none before polled comes))
  in_time (p ∷ ps) l (suc f) before polled last ll after order served u has comes enough =
      let pause : ℕ = gap + late in
      let round : ℕ = users_among subs uses in
      let had : p.has x ≡ true = has.0 (omega arith) in
      let b = passed_lt subs uses x l xl user in
      let m = mul-suc round f in
      let e = enough (omega arith) in
      let one = one_pause 0 (round * suc f - passed subs uses x l) pause (omega arith) in
      elim (by_release p.released) [
        | inl is ↦
            let early : p.at < before + gap = grind (arith, when.some) in
            let left : suc f - cond (is_of x p.released) 1 0 ≡ suc f = rw is (omega arith) in
            let rest : suc f ≤ released_by x end ps =
            in_time ps l (suc f) before p.at last ll after order (rw is at served.1) u.1 (rw left at has.1)
            (when.early before polled p ps comes early) enough in
            let count = counted x end p ps in
            omega arith
        | inr (chosen, is) ↦
            let stamp : Stamp = record { at = p.at; sub = chosen } in
            let made : IsServed gap subs last p (Some chosen) = rw is at served.0 in
            let served' : AreServed gap subs (Some stamp) ps = rw is at served.1 in
            let its : IsOfUser uses (Some chosen) = rw is at u.0 in
            let to = chosen_behind subs x l (record { has = p.has; sub = chosen }) xl ll (order _ made.1) had in
            let soon : p.at ≤ before + pause = when.soon before polled p ps comes (omega arith) in
            let next = λ (left : ℕ) (fewer : suc (round * left - passed subs uses x chosen) ≤ round * suc f - passed subs uses x l) (has' : HasAtPolls x left ps).
            let one = one_pause (round * left - passed subs uses x chosen) (round * suc f - passed subs uses x l) pause fewer in
            in_time ps chosen left p.at p.at (Some stamp) to.0 (omega arith) (λ c ch. ch) served' u.1 has'
            (when.again before polled p ps comes) (λ h. omega arith) in
            elim (cases_eq chosen x) [
              | inl own ↦
                  let mine : is_of x p.released ≡ true = ap (is_of x) is ∙ eq-eqb chosen x own in
                  let left : suc f - cond (is_of x p.released) 1 0 ≡ f = rw mine (omega arith) in
                  let none = passed_self subs uses x chosen xl own in
                  let rest : f ≤ released_by x end ps = next f (omega arith) (rw left at has.1) in
                  grind (arith, counted x end p ps, le-leb)
              | inr ne ↦
                  let more = passed_more subs uses x l chosen to.0 its (to.1 ne) in
                  grind arith
            ]
      ]

  -- `f` frames are released within `f` rounds of one gap and one lateness for each sub-VL that uses the link.
  pub released_in_time : (polls : List Poll) (f start : ℕ) (last : Option Stamp) → IsLater last start
      → AreServed gap subs last polls → ServeUsers uses polls → HasAtPolls x f polls → Comes start start polls
      → start + users_among subs uses * f * (gap + late) ≤ end → f ≤ released_by x end polls
  released_in_time polls f start last after served u has comes enough =
      let l : ℕ = behind subs last in
      let round : ℕ = users_among subs uses in
      let fewer = mul-le (round * f - passed subs uses x l) (gap + late) (round * f) (gap + late) (omega arith) (omega arith) in
      in_time polls l f start start last (behind_lt subs last xl) after (is_behind subs last) served u has comes (λ h. omega arith)

-- The law.
pub polled_in_time_holds : PolledInTime
polled_in_time_holds subs x q f gap late accepted uses last polls xl user some below after served u paced has reach =
    released_in_time subs uses x gap late end
    (λ before polled ps. (polled < before + gap) × ArePolled late polled ps × (end ≤ latest_poll polled ps)) xl user
    (record {
      some = some;
      none = λ before polled comes. omega arith;
      soon = λ before polled p ps comes far. omega arith;
      early = λ before polled p ps comes early. (early, comes.1.1, comes.2);
      again = λ before polled p ps comes. (omega arith, comes.1.1, comes.2);
    })
    polls (q + f) accepted last after served u has (omega arith, paced, reach) (omega arith)
  where
    end : ℕ
    end = accepted + users_among subs uses * (q + f) * (gap + late)
