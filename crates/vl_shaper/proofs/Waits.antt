-- How many choices a sub-VL waits, and rounds in which it waits that long.
use Rattle.vl_shaper.proofs.Names.{ℕ, Bool, true, zero, suc, ◌≡◌, ◌+◌, ◌-◌, ◌*◌, ◌<◌, ◌≤◌, List, [], ◌∷◌, length, take, arith, refl, ap, subst, inl, inr, mul-suc, lt_of_mul-lt-mul_left, Choice, next_turn, AreChosen, turns_of, HasUntil, QueuedMessage, BoundIsMet, busy_choice, take_all, AreOfUsers, users_among}
use Rattle.vl_shaper.proofs.Users.{passed, passed_lt, passed_more, passed_self}
use Rattle.vl_shaper.proofs.OneEach.{back, back_cases, back_self, turn_cases, turn_lt, chosen_behind, count_cases}

-- n choices suffice: the users still before x, and one round for each turn but the first.
pub waits : (n : ℕ) (choices : List Choice) (subs : ℕ) (uses : ℕ → Bool) (x l f : ℕ) → x < subs → l < subs → uses x ≡ true
    → AreChosen subs l choices → AreOfUsers uses choices → HasUntil x f choices
    → n ≤ length choices → users_among subs uses * f ≤ n + passed subs uses x l → f ≤ turns_of x (take n choices)
waits n choices subs uses x l zero xl ll user a u h long enough = omega arith
waits zero choices subs uses x l (suc f) xl ll user a u h long enough =
    let b = passed_lt subs uses x l xl user in
    absurd (omega (arith, mul-suc (users_among subs uses) f))
waits (suc n) [] subs uses x l (suc f) xl ll user a u h long enough = absurd (omega arith)
waits (suc n) (c ∷ cs) subs uses x l (suc f) xl ll user a u h long enough =
    let to = chosen_behind subs x l c xl ll a.0 (h.0 (omega arith)) in
    let b = passed_lt subs uses x l xl user in
    let m = mul-suc (users_among subs uses) f in
    elim (count_cases x c (take n cs)) [
      | inl (e, one, mine) ↦
          let left : suc f - turns_of x (c ∷ []) ≡ f = omega arith in
          let none = passed_self subs uses x c.sub xl e in
          let rest : f ≤ turns_of x (take n cs) = waits n cs subs uses x c.sub f xl to.0 user a.1 u.1 (rw left at h.1) (omega arith) (omega arith) in
          omega arith
      | inr (ne, none, mine) ↦
          let left : suc f - turns_of x (c ∷ []) ≡ suc f = omega arith in
          let more = passed_more subs uses x l c.sub to.0 u.0 (to.1 ne) in
          let rest : suc f ≤ turns_of x (take n cs) = waits n cs subs uses x c.sub (suc f) xl to.0 user a.1 u.1 (rw left at h.1) (omega arith) (omega arith) in
          omega arith
    ]

-- The law, after any last served sub-VL.
pub queued_message_holds : QueuedMessage
queued_message_holds subs x last q f uses choices xl ll user a u h enough =
    subst (λ (cs : List Choice). q + f ≤ turns_of x cs) (take_all (length choices) choices (omega arith))
    (grind (arith, waits))

-- n choices at which every sub-VL has something, after this last served sub-VL
abbrev rounds : ℕ → ℕ → ℕ → List Choice
rounds subs last zero = []
rounds subs last (suc n) = busy_choice (next_turn subs last 0) ∷ rounds subs (next_turn subs last 0) n

-- The rounds are n choices.
length-rounds : (n subs last : ℕ) → length (rounds subs last n) ≡ n
length-rounds zero subs last = refl
length-rounds (suc n) subs last = ap suc (length-rounds n subs (next_turn subs last 0))

-- Each choice is the first in cyclic order.
rounds_chosen : (n subs last : ℕ) → last < subs → AreChosen subs last (rounds subs last n)
rounds_chosen zero subs last below = tt
rounds_chosen (suc n) subs last below = (
  grind arith,
  rounds_chosen n subs (next_turn subs last 0) (turn_lt subs last 0 below (omega arith)),
)

-- Each sub-VL had something at each choice.
rounds_have : (n subs last x many : ℕ) → HasUntil x many (rounds subs last n)
rounds_have zero subs last x many = tt
rounds_have (suc n) subs last x many =
    let next : ℕ = next_turn subs last 0 in
    ((λ h. refl), rounds_have n subs next x (many - turns_of x (busy_choice next ∷ [])))

-- x has at most one turn per round.
few_turns : (n subs x l : ℕ) → x < subs → l < subs → subs * turns_of x (rounds subs l n) ≤ n + back subs x l
few_turns zero subs x l xl ll = omega arith
few_turns (suc n) subs x l xl ll =
    let next : ℕ = next_turn subs l 0 in
    let cs : List Choice = rounds subs next n in
    let below : next < subs = turn_lt subs l 0 ll (omega arith) in
    let rest : subs * turns_of x cs ≤ n + back subs x next = few_turns n subs x next xl below in
    elim (count_cases x (busy_choice next) cs) [
      | inl (e, one, mine) ↦
          grind (arith, back_self, mul-suc, turn_cases, back_cases)
      | inr (ne, none, mine) ↦
          grind (arith, turn_cases, back_cases, next_turn)
    ]

-- The law, by rounds that begin after x itself.
pub bound_is_met_holds : BoundIsMet
bound_is_met_holds subs x zero xl some = absurd (omega arith)
bound_is_met_holds subs x (suc f) xl some =
    let n : ℕ = subs * suc f - 1 in
    let few : subs * turns_of x (rounds subs x n) ≤ n + back subs x x = few_turns n subs x x xl xl in
    let z = back_self subs x x xl refl in (
      rounds subs x n,
      rounds_chosen n subs x xl,
      rounds_have n subs x x (suc f),
      (let l = length-rounds n subs x in omega arith),
      lt_of_mul-lt-mul_left subs (omega arith),
    )
