-- Reading on from a step.
use Rattle.capture.proofs.Names.{nat_tests, Err, Fault, List, Malformed, Moved, Ok, Progress, Result, StepsOn, NoStep, StopsThere, ap, arith, content_of, drop, drop-append-le, length, length-append, length-drop, moved, next, or_stop, read_within, refl, size_of, suc, take, then_read, unit_of, with_bytes, with_packet, zero, ℕ, ◌++◌, ◌+◌, ◌<◌, ◌>>=◌, ◌∙◌, ◌≡◌, ◌≤◌}
use Rattle.capture.proofs.Prefixes.{steps_alike, from_size, from_unit, size_range}

-- what it takes to give something
then_ok : {X Y : Type 0} (first : Result X Fault) (f : X → Result Y NoStep) (y : Y) → or_stop first >>= f ≡ Ok y
    → (x : X) × (first ≡ Ok x) × (f x ≡ Ok y)
then_ok (Ok x) f y is = (x, refl, is)
then_ok (Err fault) f y is = absurd (cc)

enough_ok : {Y : Type 0} (len : ℕ) (bytes : List ℕ) (inside : Result Y NoStep) (y : Y)
    → with_bytes len bytes inside ≡ Ok y
    → (len ≤ length bytes) × (inside ≡ Ok y)
enough_ok len bytes inside y is = grind (arith, nat_tests)

-- a step takes some bytes, and no more than there are
pub used_of : (p : Progress) (bytes : List ℕ) (step : Moved) → next p bytes ≡ Ok step
    → (12 ≤ step.used) × (step.used ≤ length bytes)
unfolding next
used_of p bytes step is =
    let front = enough_ok 12 bytes (or_stop (unit_of p.format bytes) >>= from_unit p bytes) step is in
    let unit = then_ok (unit_of p.format bytes) (from_unit p bytes) step front.1 in
    let size = then_ok (size_of unit.0 bytes) (from_size p bytes unit.0) step unit.2 in
    let whole = enough_ok size.0 bytes (or_stop (content_of p unit.0 (take size.0 bytes)) >>= (λ does. Ok
    (moved size.0 does))) step size.2 in
    let does = then_ok (content_of p unit.0 (take size.0 bytes)) (λ does. Ok (moved size.0 does)) step whole.1 in
    let used : size.0 ≡ step.used = cc does.2 in
    let least : 12 ≤ size.0 = (size_range unit.0 bytes size.0 size.1).0 in
    (omega arith, omega arith)

-- more steps than bytes are enough, however many
turn_same : (n m at : ℕ) (p : Progress) (bytes : List ℕ) → length bytes < suc n → length bytes < suc m
    → ((at : ℕ) (p : Progress) (rest : List ℕ) → length rest < n → length rest < m
    → read_within n at p rest ≡ read_within m at p rest) → (r : Result Moved NoStep) → next p bytes ≡ r
    → then_read p at bytes (λ after used. read_within n (at + used) after (drop used bytes)) r
    ≡ then_read p at bytes (λ after used. read_within m (at + used) after (drop used bytes)) r
turn_same n m at p bytes lt lt' same (Err stop) is = refl
turn_same n m at p bytes lt lt' same (Ok step) is =
    let used = used_of p bytes step is in
    let left = length-drop step.used bytes in
    ap (with_packet step.content.packet)
    (same (at + step.used) step.content.after (drop step.used bytes) (omega (arith, used, left)) (omega
    (arith, used, left)))

same_within : (n m at : ℕ) (p : Progress) (bytes : List ℕ) → length bytes < n → length bytes < m
    → read_within n at p bytes ≡ read_within m at p bytes
unfolding read_within
same_within zero m at p bytes lt lt' = absurd (omega arith)
same_within (suc n) zero at p bytes lt lt' = absurd (omega arith)
same_within (suc n) (suc m) at p bytes lt lt' =
    turn_same n m at p bytes lt lt' (λ at p rest lt lt'. same_within n m at p rest lt lt') (next p bytes) refl

pub steps_on : StepsOn
unfolding read_within
steps_on at p window more step is =
    let used = used_of p window step is in
    let all : next p (window ++ more) ≡ Ok step = steps_alike p window more (λ short. cc) ∙ is in
    let rest : drop step.used (window ++ more) ≡ drop step.used window ++ more =
    drop-append-le step.used window more used.1 in
    let left = length-drop step.used window in
    rw (all, rest) (ap (with_packet step.content.packet)
    (same_within (length (window ++ more)) (suc (length (drop step.used window ++ more)))
    (at + step.used) step.content.after
    (drop step.used window ++ more)
    (omega (arith, used, left, length-append window more, length-append (drop step.used window) more))
    (omega arith)))

pub stops_there : StopsThere
unfolding read_within
stops_there at p window more fault is =
    let all : next p (window ++ more) ≡ Err (Malformed fault) = steps_alike p window more (λ short. cc) ∙ is in
    rw all refl
