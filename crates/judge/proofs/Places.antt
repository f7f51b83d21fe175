-- What is left of the packets of two networks from places on.
use Rattle.judge.proofs.Names.{◌≡◌, ℕ, ◌+◌, ◌-◌, ◌<◌, List, [], ◌∷◌, map, length, drop, get_or, Bool, Some, arith, refl, length-drop, drop_more, get_or-map, length-map, take_all, drop-map, slice_range, A, B, merged, next_net, Recorded, recorded, Packet, OnNet, Judging, after_packet, found_with_packet, found_from, Finding, on_net, of_net, first_time, from_places, time_of, BeginsOn}

-- the packet at a place begins what is left from there on
pub at_place : (ps : List Packet) (i : ℕ) (d : Packet) → i < length ps
    → drop i (map recorded ps) ≡ recorded (get_or ps i d) ∷ drop (i + 1) (map recorded ps)
at_place ps i d within =
    let within' : i < length (map recorded ps) = rw length-map within in
    rw (drop_more (map recorded ps) i (recorded d) within', get_or-map recorded ps i d) refl

-- what is left from a place on, as a slice
pub rest_is : (ps : List Packet) (i : ℕ) → map recorded (slice_range ps i (length ps)) ≡ drop i (map recorded ps)
rest_is ps i = rw (take_all (length ps - i) (drop i ps) (omega (arith, length-drop i ps)), drop-map) refl

abbrev time_on : OnNet → ℕ
time_on p = time_of p.packet

-- the packet of A, or of B, that comes next is the first of both networks'
a_first : (alone : Bool) (n m : ℕ) (x : Recorded) (xs ys : List Recorded) → BeginsOn alone A (x ∷ xs)
    → BeginsOn alone B ys → next_net (first_time (x ∷ xs)) (first_time ys) ≡ Some A
    → merged time_on (of_net alone A n (x ∷ xs)) (of_net alone B m ys)
    ≡ on_net A n x ∷ merged time_on (of_net alone A (n + 1) xs) (of_net alone B m ys)
a_first alone n m x xs [] of_a of_b is = rw of_a refl
a_first alone n m x xs (y ∷ ys) of_a of_b is = grind arith

b_first : (alone : Bool) (n m : ℕ) (xs : List Recorded) (y : Recorded) (ys : List Recorded) → BeginsOn alone A xs
    → BeginsOn alone B (y ∷ ys) → next_net (first_time xs) (first_time (y ∷ ys)) ≡ Some B
    → merged time_on (of_net alone A n xs) (of_net alone B m (y ∷ ys))
    ≡ on_net B m y ∷ merged time_on (of_net alone A n xs) (of_net alone B (m + 1) ys)
b_first alone n m [] y ys of_a of_b is = rw of_b refl
b_first alone n m (x ∷ xs) y ys of_a of_b is = grind arith

-- the packets from these places on, of which A's or B's is next
pub next_a : (alone : Bool) (a b : List Packet) (i j k : ℕ) (d : Packet) → i < length a
    → BeginsOn alone A (drop i (map recorded a)) → BeginsOn alone B (drop j (map recorded b))
    → next_net (first_time (drop i (map recorded a))) (first_time (drop j (map recorded b))) ≡ Some A
    → of_net alone A (k + 1) (drop k (map recorded a)) ≡ of_net alone A (i + 1 + 1) (drop (i + 1) (map recorded a))
    → from_places alone (map recorded a) i (map recorded b) j
    ≡ on_net A (i + 1) (recorded (get_or a i d)) ∷ from_places alone (map recorded a) k (map recorded b) j
next_a alone a b i j k d within of_a of_b next on =
    let is = at_place a i d within in
    rw (on, is) (a_first alone (i + 1) (j + 1) _ _ _ (rw is at of_a) of_b (rw is at next))

pub next_b : (alone : Bool) (a b : List Packet) (i j k : ℕ) (d : Packet) → j < length b
    → BeginsOn alone A (drop i (map recorded a)) → BeginsOn alone B (drop j (map recorded b))
    → next_net (first_time (drop i (map recorded a))) (first_time (drop j (map recorded b))) ≡ Some B
    → of_net alone B (k + 1) (drop k (map recorded b)) ≡ of_net alone B (j + 1 + 1) (drop (j + 1) (map recorded b))
    → from_places alone (map recorded a) i (map recorded b) j
    ≡ on_net B (j + 1) (recorded (get_or b j d)) ∷ from_places alone (map recorded a) i (map recorded b) k
next_b alone a b i j k d within of_a of_b next on =
    let is = at_place b j d within in
    rw (on, is) (b_first alone (i + 1) (j + 1) _ _ _ of_a (rw is at of_b) (rw is at next))

-- what is found from the first packet on is found from the next one on, by the judge after the first
pub found_on : (ps rest : List OnNet) (p : OnNet) (before after : Judging) (found found' wanted : List Finding)
    → ps ≡ p ∷ rest → found_from ps before found ≡ wanted → after ≡ after_packet p.net p.number p.packet before
    → found' ≡ found_with_packet p.net p.number p.packet before found → found_from rest after found' ≡ wanted
found_on ps rest p before after found found' wanted is so after_is found_is = rw (after_is, found_is) (rw is at so)
