-- Bounds of the memory of sub-VLs.
use Rattle.plan_analysis.proofs.Names.{ℕ, ◌+◌, ◌*◌, ◌≤◌, ◌≡◌, ◌++◌, List, [], ◌∷◌, length, map, arith, Bool, count_by, count_by-le-length, range_with_len, map-range_with_len_more, mul-le, LinkPlan, PortPlan, sub_row}

-- of some ports no more are on a sub-VL
pub ports_few : (on : PortPlan → Bool) (ports : List PortPlan) → count_by on ports ≤ length ports
ports_few = count_by-le-length

-- the rooms of a sub-VL have few bytes
pub rooms_few : (capacity ports greatest : ℕ) → capacity ≤ 256 → ports ≤ 256 → greatest ≤ 8192
    → (capacity + 1 + ports) * greatest ≤ 4202496
rooms_few capacity ports greatest few own most =
    mul-le (capacity + 1 + ports) greatest 513 8192 (omega arith) most

-- the rows up to a sub-VL are those before it, and its own
pub rows_more : (ports : List PortPlan) (link : LinkPlan) (sub : ℕ)
    → map (sub_row ports link) (range_with_len 0 (sub + 1))
    ≡ map (sub_row ports link) (range_with_len 0 sub) ++ sub_row ports link sub ∷ []
rows_more ports link sub = map-range_with_len_more (sub_row ports link) 0 sub sub (omega arith)
