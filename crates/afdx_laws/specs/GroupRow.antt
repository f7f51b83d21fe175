-- Worked runs of the law of a message in a group of sub-VLs: a drain of a link with two sub-VLs, whose ports send
-- messages of one byte. With no lateness the round of the group of both is 1,000 microseconds.
use Rattle.std.specs.Prelude.{ℕ, zero, suc, ◌≡◌, List, [], ◌∷◌, ◌++◌, map, replicate, true, Some}
use Rattle.afdx_plan.specs.Config.{Plan, IsPlan}
use Rattle.afdx_plan.specs.Demo.{demo_plan}
use Rattle.afdx_plan.specs.declared.link_plan.LinkPlan.{LinkPlan}
use Rattle.redundant_mux.specs.Lines.{Lines}
use Rattle.afdx_legal.specs.Legal.{Accepted}
use Rattle.afdx_legal.specs.Streams.{IsPrefixOf}
use Rattle.afdx_tx.specs.DrainEnds.{stream_at}
use Rattle.plan_analysis.specs.declared.traffic.Sender.{Sender}
use Rattle.plan_analysis.specs.Traffic.{AreSendersOf, IsGroupWait, has_sub, have_periods}
use Rattle.afdx_laws.specs.Runs.{ArePolls}
use Rattle.afdx_laws.specs.MessageInRun.{AreTimely, AreReleasedBy, fragments_of, seen_of}
use Rattle.afdx_laws.specs.TrafficInRun.{Arrival, KeepPeriods, accepted_by}
use Rattle.afdx_laws.specs.GroupInRun.{IsGroupPoll, IsGroupRun, is_in}
use Rattle.afdx_laws.specs.TrafficRow.{accepted_at}
use Rattle.afdx_laws.specs.WorkedRun.{lines_by, no_line, short_frame, short_port, short_sent, tight_link}

abbrev pub pair_link : LinkPlan
pair_link = record tight_link { sub_vls = 2 }

abbrev pub pair_plan : Plan
pair_plan = record demo_plan { links = pair_link ∷ []; ports = short_port 0 ∷ short_port 1 ∷ [] }

-- Both ports have a period of 4,000. That of sub-VL 1 has a jitter, so its second message may come 1 after the first.
abbrev pub pair_senders : List Sender
pair_senders = record { port = short_port 0; period = Some 4000; jitter = 0 }
    ∷ record { port = short_port 1; period = Some 4000; jitter = 3999 } ∷ []

-- Sub-VL 0 accepts this many messages at the start, and sub-VL 1 one at the start and one a microsecond later.
abbrev pub pair_arrivals : ℕ → ℕ → List Arrival
pair_arrivals many zero = replicate many (accepted_at 0 (short_sent 0))
pair_arrivals many (suc sub) = accepted_at 0 (short_sent 1) ∷ accepted_at 1 (short_sent 1) ∷ []

-- or sub-VL 0 accepts two, a period apart
abbrev pub apart_arrivals : ℕ → List Arrival
apart_arrivals zero = accepted_at 0 (short_sent 0) ∷ accepted_at 4000 (short_sent 0) ∷ []
apart_arrivals (suc sub) = accepted_at 0 (short_sent 1) ∷ accepted_at 1 (short_sent 1) ∷ []

abbrev pub pair_accepted : ℕ → Accepted
pair_accepted many k zero = replicate many (short_sent 0)
pair_accepted many k (suc sub) = short_sent 1 ∷ short_sent 1 ∷ []

-- one message of sub-VL 0, and two of sub-VL 1
abbrev pub pair_line : Lines
pair_line = lines_by ((1000, short_frame 0 0 0) ∷ (2000, short_frame 1 0 1) ∷ (3000, short_frame 1 1 2) ∷ [])

-- two messages of sub-VL 0 and one of sub-VL 1
abbrev pub crossed_line : Lines
crossed_line = lines_by ((1000, short_frame 0 0 0) ∷ (2000, short_frame 1 0 1) ∷ (3000, short_frame 0 1 2) ∷ [])

-- both messages of sub-VL 1 are wholly released by the bound
abbrev pub PairReleased : Lines → ℕ → Type 0
PairReleased after bound = AreReleasedBy pair_plan 0 1 (short_sent 1 ∷ short_sent 1 ∷ [])
    (stream_at pair_plan 0 no_line) (stream_at pair_plan 0 after) bound

-- The message that sub-VL 1 accepts at 1 waits for its first one and for the message of sub-VL 0: 2,999 in the group of
-- both, and 3,999 in that of sub-VL 1 alone, if sub-VL 0 always sends. It is released at exactly 3,000.
pub record TakesItsGroupWait : Type 0 where
  pub valid : IsPlan pair_plan
  pub senders : AreSendersOf pair_plan pair_senders
  pub periods : have_periods pair_link 1 pair_senders ≡ true
  pub wait : IsGroupWait 0 pair_plan pair_link 1 pair_senders 1 2999
  pub alone : IsGroupWait 0 pair_plan pair_link 1 pair_senders 0 3999
  pub run : IsGroupRun pair_plan pair_senders (pair_accepted 1) 0 1 1 0 (λ t. []) (pair_arrivals 1) (λ t. [])
      (1000 ∷ 2000 ∷ 3000 ∷ []) no_line pair_line
  pub begins : IsPrefixOf (seen_of 1 (stream_at pair_plan 0 pair_line)) (fragments_of pair_plan 0 (pair_accepted 1 0 1))
  pub timely : AreTimely 1000 0 3000 0 (1000 ∷ 2000 ∷ 3000 ∷ [])
  pub released : PairReleased pair_line 3000
  pub sooner : PairReleased pair_line 2999 → ⊥

-- The message of sub-VL 1 is not released within its wait in these runs, where a premise fails of sub-VL 0.
pub record NeedsItsMates : Type 0 where
  -- two messages are accepted at once
  pub are : pair_accepted 2 0 0 ≡ ([] ++ map (λ (a : Arrival). a.sent) (pair_arrivals 2 0)) ++ []
  pub unkept : KeepPeriods pair_senders 0 (pair_arrivals 2 0) → ⊥
  pub keeps : KeepPeriods pair_senders 0 (pair_arrivals 2 1)
  pub polls : ArePolls (IsGroupPoll pair_plan (pair_accepted 2) 0 (is_in 1 1) (has_sub 1)
      (λ t. accepted_by pair_plan 0 [] (pair_arrivals 2 t))) (1000 ∷ 2000 ∷ 3000 ∷ []) no_line crossed_line
  pub begins : IsPrefixOf (seen_of 1 (stream_at pair_plan 0 crossed_line))
      (fragments_of pair_plan 0 (pair_accepted 2 0 1))
  pub missed : PairReleased crossed_line 3000 → ⊥
  -- a message that keeps the period is sent before its acceptance
  pub apart : KeepPeriods pair_senders 0 (apart_arrivals 0)
  pub early : ArePolls (IsGroupPoll pair_plan (pair_accepted 2) 0 (is_in 1 1) (has_sub 1)
      (λ t. accepted_by pair_plan 0 [] (apart_arrivals t))) (1000 ∷ 2000 ∷ 3000 ∷ []) no_line crossed_line → ⊥
