-- A sub-VL whose traffic takes more than its link never catches up.
use Rattle.plan_analysis.proofs.Names.{ℕ, ◌≡◌, ◌+◌, ◌*◌, ◌/◌, ◌<◌, ◌≤◌, List, [], ◌∷◌, arith, All, All-head, All-tail, div_ceil, sum_by, sum_by-cons, inl, inr, cases_lt, mul-le, add-mul, mul-add, div-le_self, div-mul-le_self, Flow, IsFlow, IsOverloaded, arrived_before, link_share, whole_share}

ceil_whole : (t p : ℕ) → 1 ≤ p → t ≤ div_ceil t p * p
ceil_whole t p step = grind arith

-- the share of one port at a time is at most what it has handed over
one_share : (round whole t c p j : ℕ) → 1 ≤ p → c * round * whole / p * t ≤ whole * (round * (c * div_ceil (t + j) p))
one_share round whole t c p j step =
    let s : ℕ = c * round * whole / p in
    let n : ℕ = div_ceil (t + j) p in
    let reach = ceil_whole (t + j) p step in
    let far = mul-le s t s (n * p) (omega arith) (omega arith) in
    let part = mul-le (s * p) n (c * round * whole) n (div-mul-le_self (c * round * whole) p) (omega arith) in
    grind arith

both_shares : (share own rest whole round came its others t : ℕ) → share ≡ own + rest → came ≡ its + others
    → own * t ≤ whole * (round * its) → rest * t ≤ whole * (round * others) → share * t ≤ whole * (round * came)
both_shares share own rest whole round came its others t is of one more =
    rw (is, of, add-mul own rest t, mul-add round its others, mul-add whole (round * its) (round * others)) (omega arith)

-- and those of all ports together
all_shares : (round whole t : ℕ) (flows : List Flow) → All IsFlow flows
    → sum_by (λ (f : Flow). f.fragments * round * whole / f.period) flows * t ≤ whole * (round * arrived_before flows t)
all_shares round whole t [] good = omega arith
all_shares round whole t (f ∷ flows) good =
    let own = All-head IsFlow f flows good in
    let first = sum_by-cons (λ (g : Flow). g.fragments * round * whole / g.period) f flows in
    let came = sum_by-cons (λ (g : Flow). g.fragments * div_ceil (t + g.jitter) g.period) f flows in
    let one = one_share round whole t f.fragments f.period f.jitter own.period in
    let rest = all_shares round whole t flows (All-tail IsFlow f flows good) in
    both_shares _ (f.fragments * round * whole / f.period) _ whole round _ (f.fragments * div_ceil (t + f.jitter) f.period) _ t first came one rest

ahead : (share whole t came : ℕ) → 1 ≤ t → whole < share → 1 ≤ whole → share * t ≤ whole * came → t < came
ahead share whole t came some more least le =
    let far = mul-le (whole + 1) t share t (omega arith) (omega arith) in
    elim (cases_lt t came) [
      | inl before ↦ before
      | inr late ↦
          let short = mul-le whole came whole t (omega arith) late in
          let one = add-mul whole 1 t in
          absurd (omega arith)
    ]

pub never_catches_up : (round : ℕ) (flows : List Flow) → All IsFlow flows → whole_share < link_share round flows
    → IsOverloaded round flows
never_catches_up round flows good more t some =
    ahead (link_share round flows) whole_share t (round * arrived_before flows t) some more (omega arith)
    (all_shares round whole_share t flows good)

-- the share of a port in the code is within 128 bits
pub share_most : (c round p : ℕ) → c ≤ 342 → round ≤ 5640000 → c * round * 18446744073709551616 / p ≤ 35581555708896879921070080000
share_most c round p few short =
    let one = mul-le c round 342 5640000 few short in
    let part = div-le_self (c * round * 18446744073709551616) p in
    omega arith
