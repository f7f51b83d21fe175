-- A message of a group is released within its wait, and the greatest wait in a group is found.
use Rattle.plan_analysis.proofs.Names.{ℕ, ◌≡◌, ◌+◌, ◌*◌, ◌/◌, ◌≤◌, List, ◌++◌, arith, inl, inr, cases_lt, mul-le, sym, Flow, IsBusyTime, IsBusyUntil, WaitsInGroup, IsWaitInGroup, IsWaitAt, IsMetBy, IsSentIn, IsTooLong, IsFlow, All, length, arrived, arrived_before, div_ceil, sum_by-append, subst, ◌⊎◌}
use Rattle.plan_analysis.proofs.Busy.{some_arrived}

-- what two groups of ports hand over
pub both_arrived : (own rest : List Flow) (t : ℕ) → arrived (own ++ rest) t ≡ arrived own t + arrived rest t
both_arrived own rest t = sum_by-append (λ (f : Flow). f.fragments * (1 + (t + f.jitter) / f.period)) own rest

both_before : (own rest : List Flow) (t : ℕ) → arrived_before (own ++ rest) t ≡ arrived_before own t + arrived_before rest t
both_before own rest t = sum_by-append (λ (f : Flow). f.fragments * div_ceil (t + f.jitter) f.period) own rest

-- the message is accepted within the longest busy time
in_busy : (round : ℕ) (own rest : List Flow) (busy at : ℕ) (own_before rest_before : ℕ → ℕ) (own_by : ℕ) (own_gone rest_gone : ℕ → ℕ)
    → IsBusyTime round (own ++ rest) busy → IsBusyUntil round own rest at own_before rest_before own_by own_gone rest_gone → at ≤ busy
in_busy round own rest busy at own_before rest_before own_by own_gone rest_gone is b = elim (cases_lt busy at) [
  | inl late ↦
      let had = b.has busy is.some (omega arith) in
      let mine = b.own_kept busy is.some (omega arith) in
      let others = b.rest_kept busy is.some (omega arith) in
      let more = b.sends busy had.1 in
      let both = both_before own rest busy in
      let le = mul-le round (own_gone busy + rest_gone busy + 1) round (arrived_before (own ++ rest) busy) (omega arith) (omega (arith, had.0)) in
      absurd (omega (arith, is.is))
  | inr soon ↦ soon
]

pub waits_in_group : WaitsInGroup
waits_in_group round own rest wait at own_before rest_before own_by own_gone rest_gone some of b =
    let inside = in_busy round own rest of.busy at own_before rest_before own_by own_gone rest_gone of.is_busy b in
    let sent = of.most at inside in (
      sent.0,
      sent.2,
      elim (cases_lt (own_gone sent.0) own_by) [
        | inl few ↦
            let more = b.sends sent.0 few in
            let others = b.rest_accepted sent.0 few in
            let kept = b.kept in
            let le = mul-le round (own_gone sent.0 + rest_gone sent.0 + 1) round (arrived own at + arrived rest sent.0) (omega arith) (omega arith) in
            absurd (omega (arith, sent.1))
        | inr all ↦ all
      ],
    )

-- a time later than some message of a wait, or the wait of one more
pub met_more : (round : ℕ) (own rest : List Flow) (busy old t new : ℕ) → t ≤ busy
    → ((new ≡ old) ⊎ IsWaitAt round (arrived own t) rest t new) → IsMetBy round own rest busy old → IsMetBy round own rest busy new
met_more round own rest busy old t new within way met = elim way [
  | inl same ↦ subst (IsMetBy round own rest busy) (sym same) met
  | inr here ↦ (t, within, here)
]

pub sent_more : (round own : ℕ) (rest : List Flow) (at old new : ℕ) → old ≤ new → IsSentIn round own rest at old
    → IsSentIn round own rest at new
sent_more round own rest at old new more sent = (sent.0, sent.1, omega (arith, sent.2))

-- the first message has a wait
pub first_met : (round : ℕ) (own rest : List Flow) (busy wait : ℕ) → 1 ≤ round → All IsFlow own → 1 ≤ length own
    → ((wait ≡ 0) ⊎ IsWaitAt round (arrived own 0) rest 0 wait) → IsSentIn round (arrived own 0) rest 0 wait
    → IsMetBy round own rest busy wait
first_met round own rest busy wait turns good some way sent = elim way [
  | inl none ↦
      let least = some_arrived own 0 good some in
      let le = mul-le 1 1 round (arrived own 0 + arrived rest sent.0) turns (omega arith) in
      absurd (omega (arith, sent.1, sent.2))
  | inr here ↦ (0, omega arith, here)
]

-- no wait is within the limit if a message is too long
pub no_wait : (round : ℕ) (own rest : List Flow) (busy : ℕ) → IsBusyTime round (own ++ rest) busy → IsTooLong round own rest busy
    → (wait : ℕ) → IsWaitInGroup round own rest wait → ⊥
no_wait round own rest busy is late wait of =
    let le = is.least of.busy of.is_busy.some of.is_busy.is in
    let sent = of.most late.0 (omega (arith, late.1)) in
    let far = late.2 sent.0 sent.1 in
    let short = of.short in
    absurd (omega (arith, sent.2))
