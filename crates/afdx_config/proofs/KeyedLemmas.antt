-- Rows by their keys.
use Rattle.afdx_config.proofs.Names.{fun_ext, ◌≡◌, ℕ, ◌+◌, ◌<◌, List, [], ◌∷◌, length, Bool, false, Option, None, refl, ap, sym, ◌∙◌, arith, map, nat_eq, position, position_from, position_from-zero, option_map_or, nat_cmp, nat_tests, Ordering, both, is_key, first_row, each_row, pair_finding, pair_findings, ConfigFault, Place, is_eq, bytes_eq, slice_cmp, is_eq-slice_cmp, find, find_at, position_or_len, option_and_then, slice_get, PortRow, LinkRow, is_row_of, slice_get_past, IfSome, position-Some}
use Rattle.afdx_config.proofs.AddLemmas.{each_row-map}

from_map : {A B : Type 0} (p : B → Bool) (f : A → B) (k : ℕ) (rows : List A) → position_from p k (map f rows) ≡ position_from (λ x. p (f x)) k rows
from_map p f k [] = refl
from_map p f k (x ∷ xs) = rw (from_map p f (k + 1) xs) refl

pub position_map : {A B : Type 0} (p : B → Bool) (f : A → B) (rows : List A)
    → position_from p 0 (map f rows) ≡ position (λ x. p (f x)) rows
position_map p f rows = from_map p f 0 rows ∙ sym (position_from-zero (λ x. p (f x)) rows)

from_none : {A : Type 0} (k : ℕ) (rows : List A) → position_from (λ x. false) k rows ≡ None
from_none k [] = refl
from_none k (x ∷ xs) = from_none (k + 1) xs

pub position_none : {A : Type 0} (p : A → Bool) (rows : List A) → ((x : A) → p x ≡ false) → position p rows ≡ None
position_none p rows fails = ap (λ t. position t rows) (fun_ext fails) ∙ position_from-zero (λ x. false) rows ∙ from_none 0 rows

-- the first row that clashes is the first with the key
pub row_is : {A K : Type 0} (cmp : K → K → Ordering) (key : A → Option K) (rows : List A) (test : A → Bool) (o : Option K)
    → ((e : A) → test e ≡ option_map_or (λ k. is_key cmp k (key e)) o false) → first_row cmp (map key rows) o ≡ position test rows
row_is cmp key rows test o same = grind (arith, nat_tests, is_key, position_map, position_none)

pub rows_keyed : {A K : Type 0} (cmp : K → K → Ordering) (key : A → Option K) (clash : A → A → Bool) (fault : ConfigFault) (name : List ℕ)
    (at : ℕ → Place) (rows : List A) → ((e r : A) → clash e r ≡ option_map_or (λ k. is_key cmp k (key e)) (key r) false)
    → each_row (λ k own. pair_finding fault name at k (first_row cmp (map key rows) own)) 1 (map key rows) ≡ pair_findings fault name at clash rows
rows_keyed cmp key clash fault name at rows same = each_row-map (λ k own. pair_finding fault name at k (first_row cmp (map key rows) own)) key 1 rows
    ∙ ap (λ first. each_row (λ k r. pair_finding fault name at k (first r)) 1 rows) (fun_ext (λ r. row_is cmp key rows (λ e. clash e r) (key r) (λ e. same e r)))

-- two numbers are the same exactly if the order says so
pub tied : (a b : ℕ) → nat_eq a b ≡ is_eq (nat_cmp a b)
tied a b = grind (arith, nat_tests)

pub same_number : (a b : Option ℕ) → both nat_eq a b ≡ option_map_or (λ k. is_key nat_cmp k a) b false
same_number a b = grind (arith, nat_tests, tied)

-- two unicast addresses are the same exactly if the order says so
pub same_address : (a b : List ℕ) → bytes_eq a b ≡ is_eq (slice_cmp nat_cmp a b)
same_address a b = sym (is_eq-slice_cmp a b)

-- what a search finds is at the first index
pub find_place : {A : Type 0} (p : A → Bool) (rows : List A) → find p rows ≡ option_and_then (slice_get rows) (position p rows)
find_place p rows = grind (arith, nat_tests, find_at p rows, slice_get_past rows (position_or_len p rows))

-- the link of a port, found by its identifier
pub link_found : (links : List LinkRow) (by_id : ℕ → Option ℕ) (port : PortRow)
    → ((q : ℕ) → by_id q ≡ position_from (is_key nat_cmp q) 0 (map (λ (l : LinkRow). l.id) links))
    → option_and_then by_id port.vl ≡ position (is_row_of port) links
link_found links by_id port is = ap (λ f. option_and_then f port.vl) (fun_ext is)
    ∙ row_is nat_cmp (λ (l : LinkRow). l.id) links (is_row_of port) port.vl (λ l. same_number l.id port.vl)

pub link_within : (links : List LinkRow) (port : PortRow) (o : Option ℕ) → o ≡ position (is_row_of port) links → IfSome o (λ l. l < length links)
link_within links port o is = grind (arith, nat_tests, is_row_of, position-Some)
