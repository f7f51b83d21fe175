-- A window as long as the longest unit is never too short.
use Rattle.capture.proofs.Names.{nat_tests, Err, Fault, GREATEST_UNIT, IsRoomEnough, List, More, Moved, Ok, Result, NoStep, arith, content_of, length, moved, next, or_stop, refl, size_of, take, unit_of, with_bytes, ℕ, ◌<◌, ◌>>=◌, ◌≡◌, ◌≤◌}
use Rattle.capture.proofs.Prefixes.{from_size, from_unit, size_range}

-- bytes are too few, or what follows them asks for more
short : {X : Type 0} (len : ℕ) (bytes : List ℕ) (inside : Result X NoStep) → len ≤ GREATEST_UNIT
    → with_bytes len bytes inside ≡ Err More → (inside ≡ Err More → length bytes < GREATEST_UNIT)
    → length bytes < GREATEST_UNIT
short len bytes inside most none other = grind (arith, nat_tests)

-- a step that may be at fault, and a second one that asks for more
then_more : {X Y : Type 0} (first : Result X Fault) (f : X → Result Y NoStep) → or_stop first >>= f ≡ Err More
    → (x : X) × (first ≡ Ok x) × (f x ≡ Err More)
then_more (Ok x) f more = (x, refl, more)
then_more (Err fault) f more = absurd (cc)

pub room_enough : IsRoomEnough
unfolding next
room_enough p window none =
    short 12 window (or_stop (unit_of p.format window) >>= from_unit p window) (omega arith) none (λ in_unit.
    let unit = then_more (unit_of p.format window) (from_unit p window) in_unit in
    let size = then_more (size_of unit.0 window) (from_size p window unit.0) unit.2 in
    let does : ℕ → Result Moved NoStep = λ size. or_stop (content_of p unit.0 (take size window)) >>= (λ does. Ok (moved size does)) in
    short size.0 window (does size.0) (size_range unit.0 window size.0 size.1).1 size.2 (λ more.
    let whole = then_more (content_of p unit.0 (take size.0 window)) (λ does. Ok (moved size.0 does)) more in
    absurd (cc whole.2)))
