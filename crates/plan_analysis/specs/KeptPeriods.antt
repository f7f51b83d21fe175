-- The wait of a message if each port of a group of sub-VLs keeps its period with its jitter.
use Rattle.std.specs.Prelude.{ℕ, ◌+◌, ◌-◌, ◌*◌, ◌/◌, ◌≤◌, ◌<◌, List, [], ◌∷◌, min}
use Rattle.plan_analysis.specs.declared.busy_time.Flow.{Flow}
use Rattle.plan_analysis.specs.Traffic.{arrived, arrived_before, IsWaitInGroup}

-- A group of sub-VLs from a time on before which none of them had anything, in microseconds. A message of one of them
-- is accepted at `at`. `own_before` has the fragments that its sub-VL accepted before each time, `own_by` those up to
-- the message, itself included, and `own_gone` those released up to each time; `rest_before` and `rest_gone` have those
-- of the other sub-VLs. The ports keep their periods, and what is released was accepted by then. The group had
-- something at each time up to `at`. Until the message is released, the group releases a fragment each round.
pub record IsBusyUntil (round : ℕ) (own rest : List Flow) (at : ℕ) (own_before rest_before : ℕ → ℕ) (own_by : ℕ)
    (own_gone rest_gone : ℕ → ℕ) : Type 0 where
  pub own_kept : (t : ℕ) → 1 ≤ t → t ≤ at → own_before t ≤ arrived_before own t
  pub rest_kept : (t : ℕ) → 1 ≤ t → t ≤ at → rest_before t ≤ arrived_before rest t
  pub kept : own_by ≤ arrived own at
  pub rest_accepted : (t : ℕ) → own_gone t < own_by → rest_gone t ≤ arrived rest t
  pub has : (t : ℕ) → 1 ≤ t → t ≤ at → (own_gone t + rest_gone t < own_before t + rest_before t) × (own_gone t < own_by)
  pub sends : (t : ℕ) → own_gone t < own_by → t < round * (own_gone t + rest_gone t + 1)

-- The message is released within the wait by traffic in the group.
abbrev pub WaitsInGroup : Type 0
WaitsInGroup = (round : ℕ) (own rest : List Flow) (wait at : ℕ) (own_before rest_before : ℕ → ℕ) (own_by : ℕ)
    (own_gone rest_gone : ℕ → ℕ) → 1 ≤ round → IsWaitInGroup round own rest wait
    → IsBusyUntil round own rest at own_before rest_before own_by own_gone rest_gone
    → (end : ℕ) × (end ≤ at + wait) × (own_by ≤ own_gone end)

-- one fragment each 3,000 microseconds
abbrev pub lone_flow : List Flow
lone_flow = record { fragments = 1; period = 3000; jitter = 0 } ∷ []

-- With a round of 1,000 a message at the start of a busy time is released after exactly its wait.
pub record MeetsByTraffic : Type 0 where
  pub wait : IsWaitInGroup 1000 lone_flow [] 1000
  pub busy : IsBusyUntil 1000 lone_flow [] 0 (λ t. 0) (λ t. 0) 1 (λ t. t / 1000) (λ t. 0)
  pub released : 1 ≤ 1000 / 1000
  pub sooner : 1 ≤ 999 / 1000 → ⊥

-- the flow with a jitter of a microsecond less than its period
abbrev pub late_flow : List Flow
late_flow = record { fragments = 1; period = 3000; jitter = 2999 } ∷ []

-- Of two messages at the start and a microsecond later, which the jitter allows, the second one is released after
-- exactly its wait.
pub record MeetsWithJitter : Type 0 where
  pub wait : IsWaitInGroup 1000 late_flow [] 1999
  pub busy : IsBusyUntil 1000 late_flow [] 1 (λ t. min t 2) (λ t. 0) 2 (λ t. t / 1000) (λ t. 0)
  pub released : 2 ≤ (1 + 1999) / 1000
  pub sooner : 2 ≤ (1 + 1998) / 1000 → ⊥

-- three fragments at once each 9,000 microseconds
abbrev pub three_flow : List Flow
three_flow = record { fragments = 3; period = 9000; jitter = 0 } ∷ []

-- one fragment each `period`
abbrev pub each_flow : ℕ → List Flow
each_flow period = record { fragments = 1; period = period; jitter = 0 } ∷ []

-- A link of two sub-VLs sends a fragment each 1,000 microseconds. One sub-VL accepts three fragments at the start, the
-- other one fragment at the start and at 4,000, which goes out then, before the third.
abbrev pub three_gone : ℕ → ℕ
three_gone t = t / 1000 - 1 - t / 4000

abbrev pub each_gone : ℕ → ℕ
each_gone t = min 1 (t / 1000) + t / 4000

-- With a round of 1,000 the message of three fragments is released after exactly its wait.
pub record MeetsInGroup : Type 0 where
  pub wait : IsWaitInGroup 1000 three_flow (each_flow 4000) 5000
  pub busy : IsBusyUntil 1000 three_flow (each_flow 4000) 0 (λ t. 0) (λ t. 0) 3 three_gone each_gone
  pub released : 3 ≤ three_gone 5000
  pub sooner : 3 ≤ three_gone 4999 → ⊥

-- In this run the other sub-VL doesn't keep a period of 9,000, and the wait by that period is too short.
pub record NeedsPeriods : Type 0 where
  pub wait : IsWaitInGroup 1000 three_flow (each_flow 9000) 4000
  pub unkept : each_gone 4000 ≤ arrived (each_flow 9000) 4000 → ⊥
  pub missed : (end : ℕ) → end ≤ 4000 → 3 ≤ three_gone end → ⊥
