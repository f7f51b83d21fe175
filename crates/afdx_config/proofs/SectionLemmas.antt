-- The tables and keys of a document, in the code and in the specification.
use Rattle.afdx_config.proofs.Names.{◌≡◌, ℕ, Bool, ◌||◌, is_none, List, [], ◌∷◌, String, Global, string_bytes, refl, ap, false, map, Bor, BTreeMap, cons_option, filter_map, list_any, as_table, view, items_view, members_view, member_keys, tables_among, has_other_item, keys_of, Value, find, arith, cond, is_some, sum_by-cons}
use Rattle.std.specs.List.{count_by}

-- the keys of a table
pub keys_are : (es : List (String Global × Value)) → map (λ k. string_bytes k) (keys_of es) ≡ member_keys (members_view es)
keys_are [] = refl
keys_are (e ∷ es) = ap (λ ks. string_bytes e.0 ∷ ks) (keys_are es)

-- the tables among the values
pub tables_among_values : (vs : List Value) → filter_map (λ v. as_table (view v)) vs ≡ tables_among (items_view vs)
tables_among_values [] = refl
tables_among_values (v ∷ vs) = ap (cons_option (as_table (view v))) (tables_among_values vs)

-- an item that is not a table, among the values
pub other_item_among : (vs : List Value) → list_any (λ v. is_none (as_table (view v))) vs ≡ has_other_item (items_view vs)
other_item_among [] = refl
other_item_among (v ∷ vs) = ap (λ b. is_none (as_table (view v)) || b) (other_item_among vs)

-- a borrowed table
abbrev pub Found : Type 0
Found = Bor (BTreeMap (String Global) Value)

-- an element passes a test after `map` exactly if the search for it finds one
pub any_mapped : {A B : Type 0} (p : B → Bool) (f : A → B) (xs : List A) → list_any p (map f xs) ≡ is_some (find (λ x. p (f x)) xs)
any_mapped p f [] = refl
any_mapped p f (x ∷ xs) = grind (arith, any_mapped p f xs)

-- none is counted if none passes
pub none_on : {A : Type 0} (test : A → Bool) (rows : List A) → ((x : A) → test x ≡ false) → count_by test rows ≡ 0
none_on test [] fails = refl
none_on test (x ∷ xs) fails = let step = sum_by-cons (λ y. cond {A = ℕ} (test y) 1 0) x xs in grind (arith, fails x, none_on test xs fails, step)
