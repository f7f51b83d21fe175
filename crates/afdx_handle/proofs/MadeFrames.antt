-- Lists that are written from their front on: the frames of a poll, and others.
use Rattle.afdx_handle.proofs.Names.{ℕ, zero, suc, ◌≡◌, ◌≤◌, ◌+◌, ◌∙◌, length, ap, arith, EndView, length-map, append-nil, concat, Net, made_at, first_made, bytes_of, lengths_of, sym, ◌<◌, set, take, map, append_assoc, drop-cons, length-take-le, get_or, map_more, drop-drop, with_front}
use Rattle.std.proofs.Common.{List, [], ◌∷◌, ◌++◌, length-append, drop}
use Rattle.std.proofs.lemmas.List.Folds.{concat-append}
use Rattle.std.proofs.lemmas.List.FromFn.{map-range_with_len_more, length-map-range_with_len}
use Rattle.std.proofs.Math.Seq.{drop-append-add, set-append_seam, take-append_seam}

-- One frame more.
pub first_more : (net : Net) (k : ℕ) (it : EndView) → first_made net (k + 1) it ≡ first_made net k it ++ made_at net k it ∷ []
first_more net k it = map-range_with_len_more (λ (n : ℕ). made_at net n it) 0 k k (omega arith)

pub bytes_more : (net : Net) (k : ℕ) (it : EndView) → bytes_of (first_made net (k + 1) it) ≡ bytes_of (first_made net k it) + length (made_at net k it)
bytes_more net k it = grind (arith, first_more, concat-append, append-nil, length-append, concat, first_made, made_at)

pub count_made : (net : Net) (k : ℕ) (it : EndView) → length (lengths_of (first_made net k it)) ≡ k
count_made net k it = grind (arith, length-map, first_made, length-map-range_with_len, made_at)

-- The first frames have at most as many bytes as more of them.
pub bytes_rise : (net : Net) (k more : ℕ) (it : EndView) → bytes_of (first_made net k it) ≤ bytes_of (first_made net (k + more) it)
bytes_rise net k zero it = grind arith
bytes_rise net k (suc more) it =
    let next : k + suc more ≡ (k + more) + 1 = omega arith in
    rw next (omega (arith, bytes_rise net k more it, bytes_more net (k + more) it))

-- One element more.
pub set_front : {X : Type 0} (front old : List X) (k : ℕ) (x : X) → length front ≡ k → k < length old
    → set (with_front front old) k x ≡ with_front (front ++ x ∷ []) old
set_front {X} front old k x is within =
    let here : length front < length old = omega (arith, is, within) in
    let long : length (front ++ x ∷ []) ≡ suc (length front) = omega (arith, length-append front (x ∷ [])) in
    ap (λ (n : ℕ). set (with_front front old) n x) (sym is)
    ∙ ap (λ (ys : List X). set (front ++ ys) (length front) x) (drop-cons old (length front) x here)
    ∙ set-append_seam front (get_or old (length front) x) (drop (suc (length front)) old) x
    ∙ sym (grind (arith, append_assoc, drop))
    ∙ ap (λ (n : ℕ). front ++ x ∷ [] ++ drop n old) (sym long)

-- The image of one element more.
pub set_map : {X Y : Type 0} (f : X → Y) (xs : List X) (old ys : List Y) (k : ℕ) (d : X) → k < length xs → k < length old
    → ys ≡ with_front (map f (take k xs)) old → set ys k (f (get_or xs k d)) ≡ with_front (map f (take (k + 1) xs)) old
set_map f xs old ys k d within room is = grind (arith, set, set_front, map, take, length-map, length-take-le, with_front, map_more)

-- One part more.
pub put_front : (front part old : List ℕ) (at : ℕ) → length front ≡ at
    → take at (with_front front old) ++ part ++ drop (at + length part) (with_front front old) ≡ with_front (front ++ part) old
put_front front part old at is = grind (arith, drop, drop-append-add, drop-drop, length-append, take, take-append_seam)
