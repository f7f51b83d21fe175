-- Ports with the same keys.
use Rattle.afdx_config.proofs.Names.{fun_ext, ◌≡◌, ℕ, List, [], ◌∷◌, Bool, true, false, ◌&&◌, Option, Some, None, refl, ap, ◌∙◌, arith, option_map_or, nat_eq, eq-eqb, nat_cmp, is_eq, Ordering, ordering_then, both_tied, and-false, slice_cmp, option_cmp, not, ◌==◌, position, position_from, position_from-zero, get_or, eqb-true, share_unicast, cond, length, ◌<◌, both, is_key, PortRow, same_flow, flow_of, are_one_destination, are_one_address, on_sub_of, ◌-◌, nat_le, one_if, found, Limit, Port, codes, crowd_finding, Equal, ◌+◌, ◌^◌, take, count_by, add-zero, count_by-le-length, count_by_more_yes, count_by_more_no, exact_bytes, exact_pairs, exact_unsigned, sub_in, is_on_sub, all_five, address_in, address_of, address_cmp, first_at, off_link, sharing_place, nat_tests}
use Rattle.std.proofs.Common.{length-take}
use Rattle.afdx_config.proofs.SectionLemmas.{none_on}
use Rattle.afdx_config.proofs.KeyedLemmas.{same_address, position_none}

-- no key, no match
keyless : {A : Type 0} (o : Option A) → option_map_or (λ k. false) o false ≡ false
keyless o = grind (arith, nat_tests)

-- the order of flows, if this is the order of their destinations
abbrev pub Flow : Type 0
Flow = ℕ × ℕ × ℕ × ℕ × Option (List ℕ)

abbrev pub flow_cmp : (Option (List ℕ) → Option (List ℕ) → Ordering) → Flow → Flow → Ordering
flow_cmp cmp x y = ordering_then (ordering_then (ordering_then (ordering_then (nat_cmp x.0 y.0) (nat_cmp x.1 y.1)) (nat_cmp x.2 y.2))
    (nat_cmp x.3 y.3)) (cmp x.4 y.4)

five : (cmp : Option (List ℕ) → Option (List ℕ) → Ordering) (same : (a b : Option (List ℕ)) → are_one_destination a b ≡ is_eq (cmp a b))
    (a a' b b' c c' d d' : Option ℕ) (u u' : Option (Option (List ℕ)))
    → (both nat_eq a a' && both nat_eq b b' && both nat_eq c c' && both nat_eq d d' && both are_one_destination u u')
    ≡ option_map_or (λ k. is_key (flow_cmp cmp) k (all_five a b c d u)) (all_five a' b' c' d' u') false
five cmp same a a' b b' c c' d d' u u' = grind (arith, nat_tests, and-false, both_tied, keyless)

-- two destinations are the same exactly if the order says so
abbrev pub destination_cmp : Option (List ℕ) → Option (List ℕ) → Ordering
destination_cmp = option_cmp (slice_cmp nat_cmp)

same_destination : (a b : Option (List ℕ)) → are_one_destination a b ≡ is_eq (destination_cmp a b)
same_destination a b = grind (arith, nat_tests, same_address)

-- two flows are the same exactly if the order says so
pub same_flows : (e r : PortRow) → same_flow e r ≡ option_map_or (λ k. is_key (flow_cmp destination_cmp) k (flow_of e)) (flow_of r) false
same_flows e r = grind (arith, nat_tests, five, same_destination)

-- two ports share an address exactly if they are on different links and the order says so
abbrev share : Option ((ℕ × List ℕ) × ℕ) → Option ((ℕ × List ℕ) × ℕ) → Bool
share None b = false
share (Some a) None = false
share (Some a) (Some b) = not (a.1 == b.1) && is_eq (address_cmp a.0 b.0)

share_none : (o : Option ((ℕ × List ℕ) × ℕ)) → share o None ≡ false
share_none o = grind (arith, nat_tests)

sharing_key : (v w a b : Option ℕ) (u t : Option (Option (List ℕ)))
    → (both (λ x y. not (x == y)) v w && both nat_eq a b && both are_one_address u t) ≡ share (address_in v a u) (address_in w b t)
sharing_key v w a b u t = grind (arith, nat_tests, and-false, both_tied, same_address, share_none)

-- equal addresses in the order are equal
equal : (o : Ordering) → is_eq o ≡ true → o ≡ Equal
equal o is = grind (arith, nat_tests)

exact : (a b : ℕ × List ℕ) → is_eq (address_cmp a b) ≡ true → a ≡ b
exact a b is = exact_pairs nat_cmp (slice_cmp nat_cmp) exact_unsigned exact_bytes a b (equal (address_cmp a b) is)

-- the first port on another link with an address
next_found : (q a : ℕ × List ℕ) (v w i : ℕ) (place : Option ℕ) (rest : List PortRow) → place ≡ off_link v (first_at q (i + 1) rest)
    → cond (not (w == v) && is_eq (address_cmp a q)) (Some i) place
    ≡ off_link v (cond (is_eq (address_cmp a q)) (Some (i, w, off_link w (first_at a (i + 1) rest))) (first_at q (i + 1) rest))
next_found q a v w i place rest is = grind (arith, nat_tests, and-false, eqb-true, exact)

found_from : (p : PortRow) (q : ℕ × List ℕ) (v : ℕ) → address_of p ≡ Some (q, v) → (i : ℕ) (ports : List PortRow)
    → position_from (λ e. share_unicast e p) i ports ≡ off_link v (first_at q i ports)
found_from p q v at i [] = refl
found_from p q v at i (e ∷ rest) = here (address_of e) refl (found_from p q v at (i + 1) rest)
  where
    with_key : (o : Option ((ℕ × List ℕ) × ℕ)) → position_from (λ d. share_unicast d p) (i + 1) rest ≡ off_link v (first_at q (i + 1) rest)
        → cond (share o (Some (q, v))) (Some i) (position_from (λ d. share_unicast d p) (i + 1) rest)
        ≡ off_link v (option_map_or (λ k. cond (is_eq (address_cmp k.0 q)) (Some (i, k.1, off_link k.1 (first_at k.0 (i + 1) rest)))
        (first_at q (i + 1) rest)) o (first_at q (i + 1) rest))
    with_key None more = more
    with_key (Some (a, w)) more = next_found q a v w i _ rest more

    here : (o : Option ((ℕ × List ℕ) × ℕ)) → address_of e ≡ o → position_from (λ d. share_unicast d p) (i + 1) rest ≡ off_link v (first_at q (i + 1) rest)
        → position_from (λ d. share_unicast d p) i (e ∷ rest) ≡ off_link v (first_at q i (e ∷ rest))
    here o is more = rw (sharing_key e.vl p.vl e.partition p.partition e.unicast p.unicast, is, at) (with_key o more)

pub sharing : (ports : List PortRow) (first : ℕ × List ℕ → Option (ℕ × ℕ × Option ℕ)) → ((q : ℕ × List ℕ) → first q ≡ first_at q 0 ports)
    → (p : PortRow) → sharing_place first p ≡ position (λ e. share_unicast e p) ports
sharing ports first is p = grind (arith, nat_tests, sharing_key, share_none, position_none, position_from-zero, found_from)

-- a port on no known sub-VL
no_sub : (v u a b : Option ℕ) → (both nat_eq v v && both nat_eq u u) ≡ false → (both nat_eq a v && both nat_eq b u) ≡ false
no_sub v u a b is = grind (arith, nat_tests, and-false, eq-eqb)

-- the ports before one on its sub-VL
pub before_is : (ports : List PortRow) (i n : ℕ) (port : PortRow)
    → n ≡ option_map_or (λ q. count_by (is_on_sub q) (take i ports)) (sub_in port.vl port.sub) 0 → n ≡ count_by (on_sub_of port) (take i ports)
before_is ports i n port is = grind (arith, nat_tests, and-false, no_sub, none_on)

-- counting one port more
pub count_more : (ports : List PortRow) (i : ℕ) (d port : PortRow) (old new : ℕ × ℕ → ℕ) → i < length ports → port ≡ get_or ports i d
    → ((q : ℕ × ℕ) → old q ≡ count_by (is_on_sub q) (take i ports)) → ((q : ℕ × ℕ) → new q ≡ old q + cond (is_on_sub q port) 1 0)
    → (q : ℕ × ℕ) → new q ≡ count_by (is_on_sub q) (take (i + 1) ports)
count_more ports i d port old new inside is before after q = grind (arith, nat_tests, add-zero, count_by_more_no, count_by_more_yes)

-- so few fit
pub count_small : (ports : List PortRow) (i : ℕ) (old : ℕ × ℕ → ℕ) → i < 2 ^ 63
    → ((q : ℕ × ℕ) → old q ≡ count_by (is_on_sub q) (take i ports)) → (q : ℕ × ℕ) → old q < 2 ^ 63
count_small ports i old small is q = grind (arith, nat_tests, count_by-le-length, length-take)

-- the finding of a port that was counted
pub crowd_is : (ports : List PortRow) (i n : ℕ) (port : PortRow) (old : ℕ × ℕ → ℕ) → ((q : ℕ × ℕ) → old q ≡ count_by (is_on_sub q) (take i ports))
    → n ≡ option_map_or old (sub_in port.vl port.sub) 0
    → one_if (nat_le 64 n) (found Limit (Port (i + 1)) (codes "sub") None) ≡ crowd_finding Limit (codes "sub") ports (i + 1) port
crowd_is ports i n port old are is =
    let back : i + 1 - 1 ≡ i = omega arith in
    rw (back, ← before_is ports i n port (is ∙ ap (λ f. option_map_or f (sub_in port.vl port.sub) 0) (fun_ext are))) refl
