-- Findings of which one cause is told once.
use Rattle.afdx_config.proofs.Names.{◌≡◌, List, [], ◌∷◌, ◌++◌, Bool, true, false, ◌||◌, ◌&&◌, ◌==◌, refl, sym, ◌∙◌, arith, nat_tests, AllByRecursion, list_any, list_any-append, or-false, UnknownKey, fault_number, ConfigFault, PlanFinding, has, Adds, Kept, KeepsOne, is_newer, once_after, told_once}

-- one more finding, which is told
pub told_more : (told : Bool) (xs : List PlanFinding) (x : PlanFinding) → ((told || list_any is_newer xs) && is_newer x) ≡ false
    → once_after told (xs ++ x ∷ []) ≡ once_after told xs ++ x ∷ []
told_more true [] x new = grind arith
told_more false [] x new = refl
told_more told (y ∷ ys) x new = grind (arith, nat_tests, told_more told ys x, told_more (told || is_newer y) ys x)

-- or isn't
pub told_same : (told : Bool) (xs : List PlanFinding) (x : PlanFinding) → ((told || list_any is_newer xs) && is_newer x) ≡ true
    → once_after told (xs ++ x ∷ []) ≡ once_after told xs
told_same true [] x old = grind arith
told_same false [] x old = grind arith
told_same told (y ∷ ys) x old = grind (arith, nat_tests, told_same told ys x, told_same (told || is_newer y) ys x)

-- what holds of all holds of those that are told
pub r_once : (P : PlanFinding → Type 0) (told : Bool) (xs : List PlanFinding) → AllByRecursion P xs → AllByRecursion P (once_after told xs)
r_once P told [] each = each
r_once P told (x ∷ xs) each = grind (arith, nat_tests, r_once P told xs each.1, r_once P (told || is_newer x) xs each.1)

-- what isn't told has the fault of what was told
same_fault : (f : ConfigFault) (x : PlanFinding) → is_newer x ≡ true
    → has f x ≡ (fault_number f == fault_number UnknownKey)
same_fault f x new = grind (arith, nat_tests)

other_fault : (f : ConfigFault) (xs : List PlanFinding) → (fault_number f == fault_number UnknownKey) ≡ false
    → list_any (has f) (once_after true xs) ≡ list_any (has f) xs
other_fault f [] not = refl
other_fault f (x ∷ xs) not = grind (arith, nat_tests, same_fault f x, other_fault f xs not)

-- a fault that a finding has, one that is told has
pub any_once : (f : ConfigFault) (xs : List PlanFinding) → list_any (has f) (told_once xs) ≡ list_any (has f) xs
any_once f [] = refl
any_once f (x ∷ xs) = grind (arith, nat_tests, same_fault f x, other_fault f xs, any_once f xs)

pub no_once : (xs : List PlanFinding) → told_once xs ≡ [] → xs ≡ []
no_once [] is = refl
no_once (x ∷ xs) is = cc

-- adding a finding whose cause was told
pub adds_none : (old new : Kept) (x : PlanFinding) → (old.has_newer && is_newer x) ≡ true
    → new ≡ old → Adds old new (x ∷ [])
adds_none old new x both same all holds =
    let kept = told_same false all x (rw (← holds.newer_is) both) in
    let told = holds.newer_is in
    rw same (record { keeps = rw kept holds.keeps; newer_is = grind (arith, nat_tests, list_any-append) })

-- adding one whose cause wasn't
pub adds_told : (old mid new : Kept) (x : PlanFinding) → (old.has_newer && is_newer x) ≡ false → KeepsOne old mid x
    → new.first ≡ mid.first → new.count ≡ mid.count → new.has_newer ≡ (old.has_newer || is_newer x) → Adds old new (x ∷ [])
adds_told old mid new x own one first count newer all holds =
    let kept = one (told_once all) holds.keeps in
    let told = told_more false all x (rw (← holds.newer_is) own) in
    record {
      keeps = rw told (record { first_are = rw first kept.first_are; count_is = count ∙ kept.count_is });
      newer_is = newer ∙ sym (rw (list_any-append is_newer all (x ∷ []), or-false (is_newer x), ← holds.newer_is) refl);
    }
