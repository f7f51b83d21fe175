-- Groups of a link's sub-VLs: sums over a group, and the users outside it.
use Rattle.afdx_laws.proofs.RunNames.{ℕ, zero, suc, ◌≡◌, ◌+◌, ◌<◌, ◌≤◌, Bool, true, false, nat_eq, not, ◌&&◌, ◌||◌, cond, arith, refl, inl, inr, cases_eq, cases_lt, eq-eqb, nat_tests}

-- the sum of a count over the sub-VLs of a group
abbrev pub sum_in : ℕ → (ℕ → Bool) → (ℕ → ℕ) → ℕ
sum_in zero group count = 0
sum_in (suc subs) group count = cond (group subs) (count subs) 0 + sum_in subs group count

pub sum_in_le : (subs : ℕ) (group : ℕ → Bool) (few many : ℕ → ℕ) → ((s : ℕ) → s < subs → group s ≡ true → few s ≤ many s)
    → sum_in subs group few ≤ sum_in subs group many
sum_in_le zero group few many le = omega arith
sum_in_le (suc n) group few many le = grind (arith, sum_in_le n group few many, le n)

pub sum_in_same : (subs : ℕ) (group : ℕ → Bool) (one other : ℕ → ℕ) → ((s : ℕ) → s < subs → group s ≡ true → one s ≡ other s)
    → sum_in subs group one ≡ sum_in subs group other
sum_in_same zero group one other is = refl
sum_in_same (suc n) group one other is = grind (arith, sum_in_same n group one other, is n)

pub sum_in_both : (subs : ℕ) (group : ℕ → Bool) (one other : ℕ → ℕ)
    → sum_in subs group (λ s. one s + other s) ≡ sum_in subs group one + sum_in subs group other
sum_in_both zero group one other = refl
sum_in_both (suc n) group one other = by_place (group n) (sum_in_both n group one other)
  where
    by_place : (b : Bool) → sum_in n group (λ s. one s + other s) ≡ sum_in n group one + sum_in n group other
        → cond b (one n + other n) 0 + sum_in n group (λ s. one s + other s)
        ≡ cond b (one n) 0 + sum_in n group one + (cond b (other n) 0 + sum_in n group other)
    by_place true rest = omega arith
    by_place false rest = omega arith

-- a sub-VL of the group that has less
pub record HasLess (subs : ℕ) (group : ℕ → Bool) (few many : ℕ → ℕ) : Type 0 where
  pub sub : ℕ
  pub below : sub < subs
  pub inside : group sub ≡ true
  pub less : few sub < many sub

pub has_less : (subs : ℕ) (group : ℕ → Bool) (few many : ℕ → ℕ) → sum_in subs group few < sum_in subs group many
    → HasLess subs group few many
has_less zero group few many lt = absurd (omega arith)
has_less (suc n) group few many lt =
    by_place (group n) refl lt (λ more. (
    let rest = has_less n group few many more in
    record { sub = rest.sub; below = (let below = rest.below in omega arith); inside = rest.inside; less = rest.less }
    ))
  where
    by_place : (b : Bool) → group n ≡ b → cond b (few n) 0 + sum_in n group few < cond b (many n) 0 + sum_in n group many
        → (sum_in n group few < sum_in n group many → HasLess (suc n) group few many) → HasLess (suc n) group few many
    by_place false is lt more = more (omega arith)
    by_place true is lt more = elim (cases_lt (few n) (many n)) [
      | inl here ↦ record { sub = n; below = omega arith; inside = is; less = here }
      | inr not ↦ more (omega arith)
    ]

-- the group without one of its sub-VLs
abbrev pub but : ℕ → (ℕ → Bool) → ℕ → Bool
but x group s = group s && not (nat_eq s x)

sum_in_but : (subs x : ℕ) (group : ℕ → Bool) (count : ℕ → ℕ) → subs ≤ x → sum_in subs (but x group) count ≡ sum_in subs group count
sum_in_but zero x group count le = refl
sum_in_but (suc n) x group count le = grind (arith, nat_tests, sum_in_but n x group count)

pub sum_in_one : (subs x : ℕ) (group : ℕ → Bool) (count : ℕ → ℕ) → x < subs → group x ≡ true
    → sum_in subs group count ≡ count x + sum_in subs (but x group) count
sum_in_one zero x group count lt is = absurd (omega arith)
sum_in_one (suc n) x group count lt is = elim (cases_eq x n) [
  | inl last ↦ grind (arith, nat_tests, sum_in_but n n group count)
  | inr before ↦ grind (arith, nat_tests, sum_in_one n x group count)
]

-- the group of a sub-VL and the rest
abbrev pub in_group : ℕ → (ℕ → Bool) → ℕ → Bool
in_group x rest s = nat_eq s x || rest s

sum_without : (subs x : ℕ) (rest : ℕ → Bool) (count : ℕ → ℕ) → subs ≤ x → sum_in subs (in_group x rest) count ≡ sum_in subs rest count
sum_without zero x rest count le = refl
sum_without (suc n) x rest count le = grind (arith, nat_tests, sum_without n x rest count)

pub sum_in_with : (subs x : ℕ) (rest : ℕ → Bool) (count : ℕ → ℕ) → x < subs → rest x ≡ false
    → sum_in subs (in_group x rest) count ≡ count x + sum_in subs rest count
sum_in_with zero x rest count lt not_in = absurd (omega arith)
sum_in_with (suc n) x rest count lt not_in = elim (cases_eq x n) [
  | inl last ↦ grind (arith, nat_tests, sum_without n n rest count)
  | inr before ↦ grind (arith, nat_tests, sum_in_with n x rest count)
]

-- the sub-VL x alone
abbrev pub alone : ℕ → ℕ → Bool
alone x s = nat_eq s x

-- the users that are not of the group
abbrev pub outside : (uses group : ℕ → Bool) → ℕ → Bool
outside uses group s = uses s && not (group s)

-- a group of one
sum_in_none : (subs : ℕ) (group : ℕ → Bool) (count : ℕ → ℕ) → ((s : ℕ) → s < subs → group s ≡ false) → sum_in subs group count ≡ 0
sum_in_none zero group count none = refl
sum_in_none (suc n) group count none = grind (arith, none n, sum_in_none n group count)

pub sum_in_sole : (subs x : ℕ) (group : ℕ → Bool) (count : ℕ → ℕ) → x < subs → group x ≡ true → ((s : ℕ) → group s ≡ true → s ≡ x)
    → sum_in subs group count ≡ count x
sum_in_sole subs x group count lt its only =
    let one = sum_in_one subs x group count lt its in
    let none = sum_in_none subs (but x group) count (λ s below. by_test (group s) (nat_eq s x) (λ is. eq-eqb s x (only s is))) in
    omega arith
  where
    by_test : (b c : Bool) → (b ≡ true → c ≡ true) → (b && not c) ≡ false
    by_test false c same = refl
    by_test true c same = rw (same refl) refl
