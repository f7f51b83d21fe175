-- Findings in the order of the numbers of their faults.
use Rattle.afdx_config.proofs.Names.{fold-append, common_steps, length-take, map-append, drop-map, take-append-le, take-take, fold, insert, ◌≡◌, ℕ, zero, suc, ◌+◌, ◌≤◌, List, [], ◌∷◌, ◌++◌, length, take, drop, map, Bool, true, ◌||◌, refl, ap, sym, ◌∙◌, arith, take_all, take-map, length-map, fault_number, AllByRecursion, list_any, nat_tests, or-false, PlanFinding, KeepsOne, finding_of, by_fault, lines_limit, number_of, put, IsOrdered, Written, Kept, nat_le, prefix_len, prefix_len-le-length}

-- what holds of each element of two lists holds of those of both
pub r_append : {A : Type 0} (P : A → Type 0) (xs ys : List A) → AllByRecursion P xs → AllByRecursion P ys → AllByRecursion P (xs ++ ys)
r_append P xs ys one two = grind (arith, nat_tests, common_steps)

pub r_map : {A : Type 0} (P Q : A → Type 0) (xs : List A) → ((x : A) → P x → Q x) → AllByRecursion P xs → AllByRecursion Q xs
r_map P Q [] step each = tt
r_map P Q (x ∷ xs) step each = (step x each.0, r_map P Q xs step each.1)

-- a finding put among others
r_put : (P : PlanFinding → Type 0) (ys : List PlanFinding) (x : PlanFinding) → AllByRecursion P ys → P x → AllByRecursion P (put ys x)
r_put P [] x each this = (this, tt)
r_put P (y ∷ ys) x each this = grind (arith, nat_tests, (r_put P ys x each.1 this))

put_any : (p : PlanFinding → Bool) (ys : List PlanFinding) (x : PlanFinding) → list_any p (put ys x) ≡ (p x || list_any p ys)
put_any p [] x = refl
put_any p (y ∷ ys) x = grind (arith, put_any p ys x)

put_ordered : (ys : List PlanFinding) (x : PlanFinding) → IsOrdered ys → IsOrdered (put ys x)
put_ordered [] x ordered = (tt, tt)
put_ordered (y ∷ ys) x ordered = grind (arith, nat_tests, r_map, r_put, (put_ordered ys x ordered.1))

-- the same of all findings, put one after the other
pub r_fold : (P : PlanFinding → Type 0) (ys xs : List PlanFinding) → AllByRecursion P ys → AllByRecursion P xs → AllByRecursion P (fold put ys xs)
r_fold P ys [] before each = before
r_fold P ys (x ∷ xs) before each = r_fold P (put ys x) xs (r_put P ys x before each.0) each.1

fold_any : (p : PlanFinding → Bool) (ys xs : List PlanFinding) → list_any p (fold put ys xs) ≡ (list_any p ys || list_any p xs)
fold_any p ys [] = sym (or-false (list_any p ys))
fold_any p ys (x ∷ xs) = grind (arith, nat_tests, put_any, (fold_any p (put ys x) xs))

put_length : (ys : List PlanFinding) (x : PlanFinding) → length (put ys x) ≡ length ys + 1
put_length [] x = refl
put_length (y ∷ ys) x = grind (arith, put_length ys x)

pub any_by_fault : (p : PlanFinding → Bool) (xs : List PlanFinding) → list_any p (by_fault xs) ≡ list_any p xs
any_by_fault p xs = fold_any p [] xs

fold_ordered : (ys xs : List PlanFinding) → IsOrdered ys → IsOrdered (fold put ys xs)
fold_ordered ys [] ordered = ordered
fold_ordered ys (x ∷ xs) ordered = fold_ordered (put ys x) xs (put_ordered ys x ordered)

pub are_ordered : (xs : List PlanFinding) → IsOrdered (by_fault xs)
are_ordered xs = fold_ordered [] xs tt

-- no finding is lost
pub no_finding : (xs : List PlanFinding) → by_fault xs ≡ [] → xs ≡ []
no_finding [] is = refl
no_finding (x ∷ xs) is = let none = ap (list_any (λ y. true)) is in let any = any_by_fault (λ y. true) (x ∷ xs) in cc

-- the first findings, with one put among them
take_put : (k : ℕ) (ys : List PlanFinding) (x : PlanFinding) → take k (put (take k ys) x) ≡ take k (put ys x)
take_put zero ys x = refl
take_put (suc k) [] x = refl
take_put (suc k) (y ∷ ys) x =
    let head = take-take k (suc k) (y ∷ ys) (omega arith) in grind (arith, nat_tests, head, take_put k ys x)

-- the index of a finding among those that are written
abbrev pub index_in : List Written → PlanFinding → ℕ
index_in first x = prefix_len (λ w. nat_le (fault_number w.fault) (number_of x)) first

-- a finding goes after those of no greater faults
placed : (first : List Written) (x : PlanFinding)
    → insert (map finding_of first) (index_in first x) x ≡ put (map finding_of first) x
placed [] x = refl
placed (w ∷ ws) x =
    let next : 1 + index_in ws x ≡ suc (index_in ws x) = omega arith in grind (arith, nat_tests, next, placed ws x)

-- a finding that was written among others
pub map_insert : (first : List Written) (i : ℕ) (x : Written)
    → map finding_of (take lines_limit (insert first i x)) ≡ take lines_limit (insert (map finding_of first) i (finding_of x))
map_insert first i x = sym (take-map finding_of lines_limit (insert first i x)) ∙ ap (take lines_limit) (map-append finding_of (take i first) (x ∷ drop i first)
    ∙ rw (take-map finding_of i first, drop-map finding_of i first) refl)

-- one finding, which is kept if it is among the first
pub adds_put : (old new : Kept) (x : PlanFinding) (index : ℕ) → new.count ≡ old.count + 1
    → index ≡ index_in old.first.items x
    → map finding_of new.first.items ≡ take lines_limit (insert (map finding_of old.first.items) index x) → KeepsOne old new x
adds_put old new x index counted at kept all holds =
    let more : by_fault (all ++ x ∷ []) ≡ put (by_fault all) x = fold-append put [] all (x ∷ []) in
    record {
      first_are = rw more (kept ∙ ap (take lines_limit) (rw at (placed old.first.items x)
          ∙ ap (λ ys. put ys x) holds.first_are)
          ∙ take_put lines_limit (by_fault all) x);
      count_is = rw more (counted ∙ ap (λ n. n + 1) holds.count_is ∙ sym (put_length (by_fault all) x));
    }

-- one finding past the first ones
pub adds_past : (old new : Kept) (x : PlanFinding) (index : ℕ) → new.count ≡ old.count + 1
    → index ≡ index_in old.first.items x
    → lines_limit ≤ index → new.first ≡ old.first → KeepsOne old new x
adds_past old new x index counted at past same all holds =
    let ys = map finding_of old.first.items in
    let most : length ys ≤ lines_limit = let is = holds.first_are in let size = length-take lines_limit (by_fault all) in rw is (omega arith) in
    let within : index ≤ length ys =
    rw (at, length-map old.first.items finding_of) (prefix_len-le-length _ old.first.items) in
    adds_put old new x index counted at (ap (λ v. map finding_of v.items) same ∙ sym (all_kept ys most within)) all holds
  where
    all_kept : (ys : List PlanFinding) → length ys ≤ lines_limit → index ≤ length ys → take lines_limit (insert ys index x) ≡ ys
    all_kept ys most within = rw (take_all index ys (omega arith)) (take-append-le lines_limit ys (x ∷ drop index ys) (omega arith)
        ∙ take_all lines_limit ys (omega arith))
