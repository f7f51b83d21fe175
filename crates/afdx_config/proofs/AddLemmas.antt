-- Findings added one after the other.
use Rattle.afdx_config.proofs.Names.{flat_map-append, common_steps, take_more, length-take, ◌≡◌, ℕ, ◌+◌, ◌<◌, List, [], ◌∷◌, ◌++◌, length, get_or, refl, ap, sym, map, append_assoc, option_map_or, append-nil, take, arith, Adds, flat_map, flat_map-map, table_view, string_bytes, keys_of, String, Global, LinkRow, PortRow, Bool, cells_of, Place, Link, Port, Top, EndSystem, Field, PlanFinding, key_finding, each_row, field_of, IsDocument, Document, data_of, document_fields, end_fields, link_fields, port_fields, field_fault, key_fault, is_version_2, map-map, BTreeMap, Value, None, Members, ConfigFault, true, false, cond, codes, field_findings, key_findings, section_at, Result, Ok, Key, Kept, link_row, port_row, nat_tests, only_in_2, result_err}
use Rattle.afdx_config.specs.Findings.{table_findings, value_findings}
use Rattle.afdx_config.proofs.SectionLemmas.{Found, keys_are}

-- one after the other
pub adds_both : (old mid new : Kept) (a b : List PlanFinding) → Adds old mid a → Adds mid new b → Adds old new (a ++ b)
adds_both old mid new a b p q all holds = rw (← append_assoc all a b) (q (all ++ a) (p all holds))

pub adds_last : (old new : Kept) (a : List PlanFinding) → Adds old new a → Adds old new (a ++ [])
adds_last old new a p = rw (append-nil a) p

-- the findings of the rows after others
each_row-append : {A : Type 0} (each : ℕ → A → List PlanFinding) (k : ℕ) (xs ys : List A)
    → each_row each k (xs ++ ys) ≡ each_row each k xs ++ each_row each (k + length xs) ys
each_row-append each k [] ys = let at : k + 0 ≡ k = omega arith in rw at refl
each_row-append each k (x ∷ xs) ys = grind (arith, nat_tests, append_assoc, (each_row-append each (k + 1) xs ys))

-- a port without values
abbrev pub no_port : PortRow
no_port = record {
  id = None;
  vl = None;
  sub = None;
  partition = None;
  kind = None;
  source = None;
  destination = None;
  max = None;
  unicast = None;
  checksum = None;
}

-- adding the findings of one row
pub row_more : {A : Type 0} (each : ℕ → A → List PlanFinding) (i : ℕ) (rows : List A) (x d : A) (old mid new : Kept)
    → i < length rows → x ≡ get_or rows i d → Adds old mid (each_row each 1 (take i rows)) → Adds mid new (each (i + 1) x)
    → Adds old new (each_row each 1 (take (i + 1) rows))
row_more each i rows x d old mid new inside here before this =
    let at : 1 + length (take i rows) ≡ i + 1 = rw (length-take i rows) (omega arith) in
    rw (take_more rows i d inside, each_row-append each 1 (take i rows) (get_or rows i d ∷ []), at, ← here, append-nil (each (i + 1) x))
    (adds_both old mid new _ _ before this)

-- adding the findings of one element
pub each_more : {A : Type 0} (each : A → List PlanFinding) (xs : List A) (x : A) (old mid new : Kept) → Adds old mid (flat_map each xs)
    → Adds mid new (each x) → Adds old new (flat_map each (xs ++ x ∷ []))
each_more each xs x old mid new before this = grind (arith, nat_tests, common_steps, adds_both, append-nil, flat_map-append)

-- rows of other rows
pub each_row-map : {A B : Type 0} (each : ℕ → B → List PlanFinding) (f : A → B) (k : ℕ) (rows : List A)
    → each_row each k (map f rows) ≡ each_row (λ j x. each j (f x)) k rows
each_row-map each f k [] = refl
each_row-map each f k (x ∷ xs) = ap (λ ys. each k (f x) ++ ys) (each_row-map each f (k + 1) xs)

-- the findings of a table
pub keys_all : (place : Place) (fields : List Key) (table : BTreeMap (String Global) Value) (old new : Kept)
    → Adds old new (flat_map (λ k. key_finding place (string_bytes k) (key_fault (map field_of fields) (string_bytes k))) (keys_of table.entries))
    → Adds old new (key_findings place (map field_of fields) (table_view table))
keys_all place fields table old new p =
    let of_key : List ℕ → List PlanFinding = λ k. key_finding place k (key_fault (map field_of fields) k) in
    rw (← keys_are table.entries, flat_map-map of_key (λ (k : String Global). string_bytes k) (keys_of table.entries)) p

pub table_all : (place : Place) (fields : List Field) (m : Members) (old mid new : Kept)
    → Adds old mid (field_findings place fields m) → Adds mid new (key_findings place fields m)
    → Adds old new (table_findings place fields m)
unfolding table_findings
table_all place fields m old mid new p q = adds_both old mid new _ _ p q

-- the findings of a key that version 1 lacks
pub last_key : {Y : Type 0} (is_2 : Bool) (place : Place) (m : Members) (key : Field) (r : Result Y ConfigFault) (d : Y) (old new : Kept)
    → Adds old new (key_finding place key.key (result_err (cond is_2 r (Ok d)))) → field_fault m key ≡ result_err r
    → Adds old new (field_findings place (only_in_2 is_2 key) m)
last_key true place m key r d old new p same = adds_last old new _ (rw same p)
last_key false place m key r d old new p same = p

-- the findings of the values of a document
pub values_all : (s : Document) (old one two three new : Kept) → IsDocument s → Adds old one (table_findings Top document_fields (data_of s))
    → Adds one two (option_map_or (table_findings EndSystem end_fields) (section_at (codes "end_system") (data_of s)) [])
    → Adds two three (each_row (λ k t. table_findings (Link k) (link_fields (is_version_2 (data_of s))) (table_view t.now)) 1 s.links.items)
    → Adds three new (each_row (λ k t. table_findings (Port k) (port_fields (is_version_2 (data_of s))) (table_view t.now)) 1 s.ports.items)
    → Adds old new (value_findings (data_of s))
unfolding value_findings
values_all s old one two three new are p q r t =
    let whole = adds_both old three new _ _ (adds_both old two three _ _ (adds_both old one two _ _ p q) r) t in
    let links = sym (each_row-map (λ k m. table_findings (Link k) (link_fields (is_version_2 (data_of s))) m) (λ (t : Found). table_view t.now) 1 s.links.items) in
    let ports = sym (each_row-map (λ k m. table_findings (Port k) (port_fields (is_version_2 (data_of s))) m) (λ (t : Found). table_view t.now) 1 s.ports.items) in
    rw (links, ports, are.links_are, are.ports_are) at whole

-- the values of a document
pub rows_are : (s : Document) (links : List LinkRow) (ports : List PortRow) (has_links has_ports : Bool) → IsDocument s
    → links ≡ map (λ t. link_row (is_version_2 (data_of s)) (table_view t.now)) s.links.items
    → ports ≡ map (λ t. port_row (is_version_2 (data_of s)) (table_view t.now)) s.ports.items
    → has_links ≡ (cells_of (data_of s)).has_links → has_ports ≡ (cells_of (data_of s)).has_ports
    → record { links = links; ports = ports; has_links = has_links; has_ports = has_ports } ≡ cells_of (data_of s)
rows_are s links ports has_links has_ports are at_links at_ports hl hp =
    rw (at_links, at_ports, hl, hp, ← are.links_are, ← are.ports_are) (rw (map-map _ _ s.links.items, map-map _ _ s.ports.items) refl)
