-- A document whose values have no fault has rows with all values.
use Rattle.afdx_config.proofs.Names.{◌≡◌, ◌+◌, List, [], ◌∷◌, ◌++◌, Option, Some, None, ℕ, refl, AllByRecursion, flat_map, unwrap_or, Result, Ok, Err, Members, ConfigFault, Field, field_fault, IsSoundTable, Place, key_finding, each_row, result_ok, result_err, arith, nat_tests}
use Rattle.afdx_config.specs.Findings.{table_findings}

-- two lists are empty if their concatenation is
pub none : {A : Type 0} (xs ys : List A) → xs ++ ys ≡ [] → (xs ≡ []) × (ys ≡ [])
none [] ys is = (refl, is)
none (x ∷ xs) ys is = cc

-- a key without a finding has no fault
no_fault : (place : Place) (key : List ℕ) (o : Option ConfigFault) → key_finding place key o ≡ [] → o ≡ None
no_fault place key o is = grind (arith, nat_tests)

-- fields without findings are sound
fields_sound : (place : Place) (fields : List Field) (members : Members)
    → flat_map (λ field. key_finding place field.key (field_fault members field)) fields ≡ [] → IsSoundTable fields members
fields_sound place [] members is = tt
fields_sound place (x ∷ xs) members is = let (one, rest) = none _ _ is in
    (no_fault place x.key (field_fault members x) one, fields_sound place xs members rest)

-- a table without findings is sound
pub table_sound : (place : Place) (fields : List Field) (members : Members) → table_findings place fields members ≡ [] → IsSoundTable fields members
unfolding table_findings
table_sound place fields members is = fields_sound place fields members (none _ _ is).0

-- the tables of an array are sound
pub rows_sound : (like : ℕ → Place) (fields : List Field) (k : ℕ) (rows : List Members)
    → each_row (λ k m. table_findings (like k) fields m) k rows ≡ [] → AllByRecursion (IsSoundTable fields) rows
rows_sound like fields k [] is = tt
rows_sound like fields k (x ∷ xs) is = let (one, rest) = none _ _ is in
    (table_sound (like k) fields x one, rows_sound like fields (k + 1) xs rest)

-- a value without a fault is there
pub known : {Y : Type 0} (r : Result Y ConfigFault) (d : Y) → result_err r ≡ None → result_ok r ≡ Some (unwrap_or (result_ok r) d)
known (Ok y) d is = refl
known (Err fault) d is = cc
