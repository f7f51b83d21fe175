-- Histories that grow.
use Rattle.status_board.proofs.Names.{◌≡◌, ℕ, ◌+◌, List, [], ◌∷◌, ◌++◌, refl, sym, ap, ◌∙◌, append-nil, append_assoc, length, length-append, arith, map-append, nil_from_length, Counts, Stamped, NoFieldFalls, last_or, RisesFrom, value_of, IsRising, StartsWith, counts_of, AreAfter}

-- an entry that is added is the last
pub last_or-push : (c : Counts) (history : List Counts) (x : Counts) → last_or c (history ++ x ∷ []) ≡ x
last_or-push c [] x = refl
last_or-push c (y ∷ history) x = last_or-push y history x

pub rises-push : (c : Counts) (history : List Counts) (x : Counts) → RisesFrom c history
    → NoFieldFalls (last_or c history) x → RisesFrom c (history ++ x ∷ [])
rises-push c [] x r h = (h, tt)
rises-push c (y ∷ history) x r h = (r.0, rises-push y history x r.1 h)

abbrev pub starts_same : {A : Type 0} (all : List A) → StartsWith all all
starts_same all = ([], sym (append-nil all))

abbrev pub starts_more : {A : Type 0} (all first more : List A) → StartsWith all first → StartsWith (all ++ more) first
starts_more all first more s = (s.0 ++ more, ap (λ l. l ++ more) s.1 ∙ append_assoc first s.0 more)

abbrev pub starts_none : {A : Type 0} (all : List A) → StartsWith all []
starts_none all = (all, refl)

-- two lists, each of which begins with the other, are one
pub starts_both : {A : Type 0} (xs ys : List A) → StartsWith xs ys → StartsWith ys xs → xs ≡ ys
starts_both xs ys p q =
    let longer : length xs ≡ length ys + length p.0 = ap length p.1 ∙ length-append ys p.0 in
    grind (arith, length-append, nil_from_length, append-nil)

pub counts_of-append : (xs ys : List Stamped) → counts_of (xs ++ ys) ≡ counts_of xs ++ counts_of ys
counts_of-append xs ys = map-append (λ (e : Stamped). e.counts) xs ys

pub counts_start : (all first : List Stamped) → StartsWith all first → StartsWith (counts_of all) (counts_of first)
counts_start all first s = (counts_of s.0, ap counts_of s.1 ∙ counts_of-append first s.0)

pub are_after-push : (n : ℕ) (es : List Stamped) (e : Stamped) → AreAfter n es → e.loads ≡ n → AreAfter n (es ++ e ∷ [])
are_after-push n [] e all is = (is, tt)
are_after-push n (x ∷ es) e all is = (all.0, are_after-push n es e all.1 is)

pub falls_not_same : (a : Counts) → NoFieldFalls a a
falls_not_same a = search arith

pub falls_not_through : (a b c : Counts) → NoFieldFalls a b → NoFieldFalls b c → NoFieldFalls a c
falls_not_through a b c p q = search arith

rises_above : (c : Counts) (history : List Counts) → RisesFrom c history → NoFieldFalls c (last_or c history)
rises_above c [] r = falls_not_same c
rises_above c (x ∷ history) r = falls_not_through c x _ r.0 (rises_above x history r.1)

rises_after : (c : Counts) (first rest : List Counts) → RisesFrom c (first ++ rest)
    → NoFieldFalls (last_or c first) (last_or c (first ++ rest))
rises_after c [] rest r = rises_above c rest r
rises_after c (x ∷ first) rest r = rises_after x first rest r.1

-- the value of a beginning is nowhere above the value of the whole
pub never_behind : (all first : List Counts) → IsRising all → StartsWith all first
    → NoFieldFalls (value_of first) (value_of all)
never_behind all first r s = grind (arith, rises_after)
