-- Messages of ports that send at their periods.
use Rattle.std.specs.Prelude.{◌≡◌, ◌==◌, ◌+◌, ◌*◌, ◌<◌, ◌≤◌, ℕ, List, map, length, slice_index, sum_by, if◌then◌else◌}
use Rattle.interface_file.specs.declared.schedule.Flow.{Flow}
use Rattle.interface_file.specs.declared.schedule.Sending.{Sending}

-- the times of the first messages of flows
abbrev pub firsts_of : List Flow → List ℕ
firsts_of flows = map (λ (flow : Flow). flow.first) flows

-- the periods of flows
abbrev pub periods_of : List Flow → List ℕ
periods_of flows = map (λ (flow : Flow). flow.period) flows

-- a message is sent no later than another
abbrev pub AreInOrder : Sending → Sending → Type 0
AreInOrder a b = a.at ≤ b.at

-- the second of two messages of one flow is sent a period of it after the first one, or later
abbrev pub AreApart : List ℕ → Sending → Sending → Type 0
AreApart periods a b = a.flow ≡ b.flow → a.at + slice_index periods a.flow ≤ b.at

-- a message is one of a flow, and is sent by the end
abbrev pub IsWithin : ℕ → ℕ → Sending → Type 0
IsWithin count end sending = (sending.flow < count) × (sending.at ≤ end)

-- the number of messages of a flow
abbrev pub count_of : ℕ → List Sending → ℕ
count_of flow sent = sum_by (λ (sending : Sending). if sending.flow == flow then 1 else 0) sent

-- the next message of each flow, one period for each of its messages after its first time, is sent after the end
abbrev pub AreWhole : List ℕ → List ℕ → ℕ → List Sending → Type 0
AreWhole firsts periods end sent = (flow : ℕ) → flow < length firsts →
    end < slice_index firsts flow + count_of flow sent * slice_index periods flow
