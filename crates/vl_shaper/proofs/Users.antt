-- The sub-VLs that use a link, counted.
use Rattle.vl_shaper.proofs.Names.{ℕ, zero, suc, ◌≡◌, ◌<◌, ◌≤◌, Bool, true, false, nat_le, ◌&&◌, arith, inl, inr, cases_eq, refl, ap, nat_tests, nat_lt, users_among}
use Rattle.vl_shaper.proofs.OneEach.{back, back_self}

-- More users are more, and one more makes a difference.
pub users_le : (n : ℕ) (few many : ℕ → Bool) → ((y : ℕ) → y < n → few y ≡ true → many y ≡ true) → users_among n few ≤ users_among n many
users_le zero few many more = omega arith
users_le (suc n) few many more = grind (arith, users_le n few many, more n)

pub users_lt : (n w : ℕ) (few many : ℕ → Bool) → ((y : ℕ) → y < n → few y ≡ true → many y ≡ true) → w < n → few w ≡ false
    → many w ≡ true → suc (users_among n few) ≤ users_among n many
users_lt zero w few many more inside not is = absurd (omega arith)
users_lt (suc n) w few many more inside not is =
    let below : (y : ℕ) → y < n → few y ≡ true → many y ≡ true = λ y lt. more y (omega arith) in
    elim (cases_eq w n) [
      | inl last ↦ grind (arith, users_le n few many below)
      | inr before ↦ grind (arith, users_lt n w few many below, more n)
    ]

pub users_none : (n : ℕ) (uses : ℕ → Bool) → ((y : ℕ) → y < n → uses y ≡ false) → users_among n uses ≡ 0
users_none zero uses none = refl
users_none (suc n) uses none = grind (arith, users_none n uses, none n)

-- At most all sub-VLs of a link are its users.
pub users_most : (n : ℕ) (uses : ℕ → Bool) → users_among n uses ≤ n
users_most zero uses = omega arith
users_most (suc n) uses = grind (arith, users_most n uses)

-- The users after x in cyclic order, up to the last served.
abbrev is_passed : ℕ → (ℕ → Bool) → (x l : ℕ) → ℕ → Bool
is_passed subs uses x l y = uses y && (nat_lt 0 (back subs x y) && nat_le (back subs x y) (back subs x l))

abbrev pub passed : ℕ → (ℕ → Bool) → (x l : ℕ) → ℕ
passed subs uses x l = users_among subs (is_passed subs uses x l)

-- They are fewer than all, if x is a user.
pub passed_lt : (subs : ℕ) (uses : ℕ → Bool) (x l : ℕ) → x < subs → uses x ≡ true → suc (passed subs uses x l) ≤ users_among subs uses
passed_lt subs uses x l xl user =
    users_lt subs x (is_passed subs uses x l) uses (λ y lt is. grind arith) xl (grind (arith, nat_tests, back_self subs x x xl refl)) user

-- A user further on is one more.
pub passed_more : (subs : ℕ) (uses : ℕ → Bool) (x l c : ℕ) → c < subs → uses c ≡ true → back subs x l < back subs x c
    → suc (passed subs uses x l) ≤ passed subs uses x c
passed_more subs uses x l c cl user further =
    users_lt subs c (is_passed subs uses x l) (is_passed subs uses x c) (λ y lt is. grind (arith, nat_tests)) cl (grind (arith, nat_tests))
    (grind (arith, nat_tests))

-- None is after x itself.
pub passed_self : (subs : ℕ) (uses : ℕ → Bool) (x c : ℕ) → x < subs → c ≡ x → passed subs uses x c ≡ 0
passed_self subs uses x c xl is =
    users_none subs (is_passed subs uses x c) (λ y lt. grind (arith, nat_tests, back_self subs x c xl is))
