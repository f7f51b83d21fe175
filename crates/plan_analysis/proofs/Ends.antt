-- The least time that is enough for a message, found round by round.
use Rattle.plan_analysis.proofs.Names.{ℕ, ◌+◌, ◌*◌, ◌/◌, ◌<◌, ◌≤◌, List, arith, inl, inr, cases_lt, mul-le, mul-add, div-mul-le_self, lt-mul-div-succ, Flow, IsEnough, IsLate, arrived, busy_limit}
use Rattle.plan_analysis.proofs.Busy.{arrived_mono}

-- the rounds within a time end by it
pub part_least : (round time : ℕ) → round * (time / round) ≤ time
part_least round time = let part = div-mul-le_self time round in grind arith

pub rounds_most : (round rounds most : ℕ) → round ≤ 5640000 → rounds ≤ 131072 → round * rounds ≤ 739246080000
rounds_most round rounds most short few = mul-le round rounds 5640000 131072 short few

-- a number of rounds that end no later than any time that is enough
pub record IsBeforeEnd (round own : ℕ) (rest : List Flow) (rounds : ℕ) : Type 0 where
  pub below : (t : ℕ) → IsEnough round own rest t → round * rounds ≤ t

module _ (round own : ℕ) (rest : List Flow) where
  pub first_end : IsBeforeEnd round own rest own
  first_end = record {
    below = λ t enough.
        let le = mul-le round own round (own + arrived rest t) (omega arith) (omega arith) in
        omega arith;
  }

  pub next_end : (rounds : ℕ) → IsBeforeEnd round own rest rounds → IsBeforeEnd round own rest (own + arrived rest (round * rounds))
  next_end rounds before = record {
    below = λ t enough.
        let mono = arrived_mono rest (round * rounds) t (before.below t enough) in
        let le = mul-le round (own + arrived rest (round * rounds)) round (own + arrived rest t) (omega arith) (omega arith) in
        omega arith;
  }

  -- as many rounds as are wanted, or more, are enough
  pub last_end : (rounds : ℕ) → own + arrived rest (round * rounds) ≤ rounds → IsEnough round own rest (round * rounds)
  last_end rounds le = mul-le round (own + arrived rest (round * rounds)) round rounds (omega arith) le

  -- no end within the limit is enough
  pub late_end : (rounds time : ℕ) → 1 ≤ round → IsBeforeEnd round own rest rounds → time / round + busy_limit < rounds → IsLate round own rest time
  late_end rounds time some before far end enough =
      let past = lt-mul-div-succ time some in
      let part = mul-add round (time / round + 1) busy_limit in
      let le = mul-le round (time / round + 1 + busy_limit) round rounds (omega arith) (omega arith) in
      let reach = before.below end enough in
      omega arith

-- rounds within the limit
pub end_most : (round rounds time : ℕ) → rounds ≤ time / round + busy_limit → round * rounds ≤ time + round * busy_limit
end_most round rounds time few =
    let le = mul-le round rounds round (time / round + busy_limit) (omega arith) few in
    let split = mul-add round (time / round) busy_limit in
    let part = part_least round time in
    omega arith

-- a time within two limits is within as many rounds
pub few_rounds : (round time : ℕ) → 1 ≤ round → time ≤ round * (2 * busy_limit) → time / round ≤ 131072
few_rounds round time some le = elim (cases_lt 131072 (time / round)) [
  | inl more ↦
      let part = part_least round time in
      let far = mul-le round 131073 round (time / round) (omega arith) (omega arith) in
      absurd (omega arith)
  | inr few ↦ few
]
