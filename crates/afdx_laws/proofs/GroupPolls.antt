-- How long a group of sub-VLs waits, by the polls of its link.
use Rattle.afdx_laws.proofs.RunNames.{ℕ, Bool, mul-suc, zero, suc, ◌≡◌, ◌≢◌, ◌+◌, ◌-◌, ◌*◌, ◌%◌, ◌<◌, ◌≤◌, true, false, nat_le, nat_lt, ◌&&◌, cond, List, [], ◌∷◌, arith, refl, ap, sym, ◌∙◌, ◌⊎◌, inl, inr, Option, Some, None, cases_Bool, false≢true, eq-eqb, ne_eqb, le-leb, mul-le, Choice, next_turn, IsChosen, turn_of, IsLater, Stamp, mod-add-mod, mod-lt, Poll, IsServed, AreServed, is_of, IsOfUser, ServeUsers, released_by, users_among, ComeWhenDue, counted, passed, passed_more, users_le, back, chosen_behind, turn_cases}
use Rattle.afdx_laws.proofs.Groups.{but, outside, sum_in, sum_in_le, sum_in_one}

-- One choice fewer needs one pause fewer.
one_pause : (fewer more pause : ℕ) → suc fewer ≤ more → pause + fewer * pause ≤ more * pause
one_pause fewer more pause less = grind arith

-- A poll releases a frame or none.
by_release : (o : Option ℕ) → (o ≡ None) ⊎ ((chosen : ℕ) × (o ≡ Some chosen))
by_release None = inl refl
by_release (Some chosen) = inr (chosen, refl)

-- the sub-VL after which the cyclic order starts
abbrev behind : ℕ → Option Stamp → ℕ
behind subs None = subs - 1
behind subs (Some l) = l.sub % subs

behind_lt : (subs : ℕ) (last : Option Stamp) {x : ℕ} → x < subs → behind subs last < subs
behind_lt subs None xl = omega arith
behind_lt subs (Some l) xl = mod-lt l.sub (omega arith)

from_0 : (subs k : ℕ) → k < subs → next_turn subs (subs - 1) k ≡ k
from_0 subs k lt = grind (arith, turn_cases)

same_turn : (subs last k : ℕ) → next_turn subs (last % subs) k ≡ next_turn subs last k
same_turn subs last k =
    let left : last % subs + 1 + k ≡ last % subs + (1 + k) = omega arith in
    grind (arith, mod-add-mod last subs (1 + k), left)

is_behind : (subs : ℕ) (last : Option Stamp) (c : Choice) → IsChosen subs (turn_of subs last) c
    → IsChosen subs (next_turn subs (behind subs last)) c
is_behind subs None c ch = grind (arith, from_0)
is_behind subs (Some l) c ch = grind (arith, same_turn)

-- A released frame belongs to no other sub-VL.
is_not : (o : Option ℕ) (chosen s : ℕ) → o ≡ Some chosen → chosen ≢ s → is_of s o ≡ false
is_not o chosen s is not = ap (is_of s) is ∙ ne_eqb chosen s not

-- At most all users outside are passed.
passed_most : (subs : ℕ) (uses : ℕ → Bool) (x l : ℕ) → passed subs uses x l ≤ users_among subs uses
passed_most subs uses x l =
    users_le subs (λ y. uses y && (nat_lt 0 (back subs x y) && nat_le (back subs x y) (back subs x l))) uses (λ y lt is. grind arith)

-- What is known of a group of sub-VLs at polls until an end: `Has x many polls` says that sub-VL x of the group has
-- something until the group's next frame, and some sub-VL of it until `many` of its frames are released.
pub record HasInGroup (subs : ℕ) (group : ℕ → Bool) (end : ℕ) (Has : ℕ → ℕ → List Poll → Type 0) : Type 0 where
  pub here : (x many : ℕ) (p : Poll) (ps : List Poll) → Has x (suc many) (p ∷ ps) → p.at ≤ end → p.has x ≡ true
  pub stays : (x many : ℕ) (p : Poll) (ps : List Poll) → Has x (suc many) (p ∷ ps) → p.at ≤ end
      → ((s : ℕ) → group s ≡ true → is_of s p.released ≡ false) → Has x (suc many) ps
  pub next : (x many chosen : ℕ) (p : Poll) (ps : List Poll) → Has x (suc many) (p ∷ ps) → p.at ≤ end → p.released ≡ Some chosen
      → chosen < subs → group chosen ≡ true → (y : ℕ) × (y < subs) × (group y ≡ true) × Has y many ps

module _ (subs : ℕ) (uses group : ℕ → Bool) (gap late end : ℕ) (Comes : ℕ → ℕ → List Poll → Type 0)
    (Has : ℕ → ℕ → List Poll → Type 0) (when : ComeWhenDue gap late end Comes) (has : HasInGroup subs group end Has) where
  abbrev round : ℕ
  round = suc (users_among subs (outside uses group))

  -- the users outside that were served since the group's last frame
  abbrev served_since : ℕ → ℕ → ℕ
  served_since x l = passed subs (outside uses group) x l

  abbrev released : List Poll → ℕ
  released polls = sum_in subs group (λ s. released_by s end polls)

  -- a poll adds to the frames of the group, or leaves them
  no_fewer : (p : Poll) (ps : List Poll) → released ps ≤ released (p ∷ ps)
  no_fewer p ps = sum_in_le subs group (λ s. released_by s end ps) (λ s. released_by s end (p ∷ ps)) (λ s lt is. (let one = counted s end p ps in omega arith))

  one_more : (chosen : ℕ) (p : Poll) (ps : List Poll) → chosen < subs → group chosen ≡ true → p.released ≡ Some chosen → p.at ≤ end
      → suc (released ps) ≤ released (p ∷ ps)
  one_more chosen p ps lt inside is soon =
      let rest = sum_in_one subs chosen group (λ s. released_by s end ps) lt inside in
      let all = sum_in_one subs chosen group (λ s. released_by s end (p ∷ ps)) lt inside in
      let others = sum_in_le subs (but chosen group) (λ s. released_by s end ps) (λ s. released_by s end (p ∷ ps))
      (λ s lt is. (let one = counted s end p ps in omega arith)) in
      let own = counted chosen end p ps in
      let mine : is_of chosen p.released ≡ true = ap (is_of chosen) is ∙ eq-eqb chosen chosen refl in
      let test : (nat_le p.at end && is_of chosen p.released) ≡ true = grind (arith, le-leb) in
      let one : cond {A = ℕ} (nat_le p.at end && is_of chosen p.released) 1 0 ≡ 1 = rw test refl in
      omega arith

  -- From any poll on, one round is left for each frame but the turns since the group's last frame.
  in_time : (polls : List Poll) (x l f before polled : ℕ) (last : Option Stamp) → x < subs → group x ≡ true → l < subs → IsLater last before
      → ((c : Choice) → IsChosen subs (turn_of subs last) c → IsChosen subs (next_turn subs l) c)
      → AreServed gap subs last polls → ServeUsers uses polls → Has x f polls → Comes before polled polls
      → (1 ≤ f → before + (round * f - served_since x l) * (gap + late) ≤ end)
      → f ≤ released polls
  in_time polls x l zero before polled last xl xi ll after order served u own comes enough = omega arith
  in_time [] x l (suc f) before polled last xl xi ll after order served u own comes enough =
      let e = enough (omega arith) in
      let b = passed_most subs (outside uses group) x l in
      let m = mul-suc round f in
      let one = one_pause 0 (round * suc f - served_since x l) (gap + late) (omega arith) in
      absurd (omega (arith, when.none before polled comes))
  in_time (p ∷ ps) x l (suc f) before polled last xl xi ll after order served u own comes enough =
      let pause : ℕ = gap + late in
      let b = passed_most subs (outside uses group) x l in
      let m = mul-suc round f in
      let e = enough (omega arith) in
      let one = one_pause 0 (round * suc f - served_since x l) pause (omega arith) in
      let soon : p.at ≤ before + pause = when.soon before polled p ps comes (omega arith) in
      let in_end : p.at ≤ end = omega arith in
      let had : p.has x ≡ true = has.here x f p ps own in_end in
      let more = no_fewer p ps in
      elim (by_release p.released) [
        | inl is ↦
            let early : p.at < before + gap = grind (arith, when.some) in
            let rest : suc f ≤ released ps =
            in_time ps x l (suc f) before p.at last xl xi ll after order (rw is at served.1) u.1
            (has.stays x f p ps own in_end (λ s inside. rw is refl)) (when.early before polled p ps comes early) enough in
            omega arith
        | inr (chosen, is) ↦
            let stamp : Stamp = record { at = p.at; sub = chosen } in
            let made : IsServed gap subs last p (Some chosen) = rw is at served.0 in
            let served' : AreServed gap subs (Some stamp) ps = rw is at served.1 in
            let its : IsOfUser uses (Some chosen) = rw is at u.0 in
            let to = chosen_behind subs x l (record { has = p.has; sub = chosen }) xl ll (order _ made.1) had in
            let next = λ (y left : ℕ) (yl : y < subs) (yi : group y ≡ true) (fewer : suc (round * left - served_since y chosen) ≤ round * suc f - served_since x l) (has' : Has y left ps).
            let one = one_pause (round * left - served_since y chosen) (round * suc f - served_since x l) pause fewer in
            in_time ps y chosen left p.at p.at (Some stamp) yl yi to.0 (omega arith) (λ c ch. ch) served' u.1 has'
            (when.again before polled p ps comes) (λ h. omega arith) in
            elim (cases_Bool (group chosen)) [
              | inl inside ↦
                  let then = has.next x f chosen p ps own in_end is to.0 inside in
                  let rest = next then.0 f then.1 then.2 (let c = passed_most subs (outside uses group) then.0 chosen in omega arith) then.3 in
                  let gain = one_more chosen p ps to.0 inside is in_end in
                  omega arith
              | inr other ↦
                  let apart : chosen ≢ x = λ same. false≢true (sym other ∙ (ap group same ∙ xi)) in
                  let further = passed_more subs (outside uses group) x l chosen to.0 (grind arith) (to.1 apart) in
                  let none = λ (s : ℕ) (inside : group s ≡ true). is_not p.released chosen s is (λ same. false≢true (sym other ∙ (ap group same ∙ inside))) in
                  let rest = next x (suc f) xl xi (omega arith) (has.stays x f p ps own in_end none) in
                  omega arith
            ]
      ]

  -- `f` frames of the group are released within `f` rounds, of one gap and one lateness for each user outside and one more.
  pub group_in_time : (polls : List Poll) (x f start : ℕ) (last : Option Stamp) → x < subs → group x ≡ true → IsLater last start
      → AreServed gap subs last polls → ServeUsers uses polls → Has x f polls → Comes start start polls
      → start + round * f * (gap + late) ≤ end → f ≤ released polls
  group_in_time polls x f start last xl xi after served u own comes enough =
      let l : ℕ = behind subs last in
      let fewer = mul-le (round * f - served_since x l) (gap + late) (round * f) (gap + late) (omega arith) (omega arith) in
      in_time polls x l f start start last xl xi (behind_lt subs last xl) after (is_behind subs last) served u own comes (λ h. omega arith)
