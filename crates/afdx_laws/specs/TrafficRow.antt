-- Worked runs of the law of a message whose sub-VL's ports keep periods.
use Rattle.std.specs.Prelude.{ℕ, ◌≡◌, ◌+◌, true, List, [], ◌∷◌, ◌++◌, map, replicate, nat_eq, not, None, Some}
use Rattle.afdx_plan.specs.Config.{link_plan_at}
use Rattle.afdx_plan.specs.Demo.{demo_port}
use Rattle.afdx_frame.specs.Fragments.{Sent}
use Rattle.redundant_mux.specs.Lines.{Lines, any_up}
use Rattle.vl_shaper.specs.Pace.{IsLater}
use Rattle.afdx_legal.specs.Streams.{latest, IsPrefixOf}
use Rattle.afdx_tx.specs.DrainEnds.{stream_at}
use Rattle.plan_analysis.specs.declared.traffic.Sender.{Sender}
use Rattle.plan_analysis.specs.Traffic.{AreSendersOf}
use Rattle.afdx_laws.specs.Rows.{Holds}
use Rattle.afdx_laws.specs.Runs.{ArePolls, EmitterPolls}
use Rattle.afdx_laws.specs.MessageInRun.{AreTimely, AreReleasedBy, FindsIt, IsAccepted, fragments_of, seen_of}
use Rattle.afdx_laws.specs.WorkedRun.{short_port, short_sent, short_frame, byte_plan, bytes_accepted, no_line, byte_line, failed_line, lines_by, other_frame, three_plan, line_after, WaitsItsTurn}
use Rattle.afdx_laws.specs.TrafficInRun.{Arrival, IsLoneWait, KeepPeriods, AreFindingAll, accepted_by, messages_in}

abbrev pub accepted_at : ℕ → Sent → Arrival
accepted_at at sent = record { at = at; sent = sent }

abbrev pub sender_of : ℕ → Sender
sender_of period = record { port = short_port 1; period = Some period; jitter = 0 }

-- the ports of the link of three sub-VLs; the port of sub-VL 1 keeps a period
abbrev pub three_senders : List Sender
three_senders = record { port = demo_port; period = None; jitter = 0 } ∷ sender_of 9000
    ∷ record { port = short_port 2; period = None; jitter = 0 } ∷ []

-- the one message of the run, at its start
abbrev pub third_arrival : List Arrival
third_arrival = accepted_at 3000 (short_sent 1) ∷ []

-- The run of `WaitsItsTurn`: sub-VL 1 has sent its first message at 3,000, and accepts another then. Its wait by
-- traffic is 9,000, one round of three sub-VLs, and the message is released at exactly 12,000.
pub record TakesItsWait : Type 0 where
  pub senders : AreSendersOf three_plan three_senders
  pub wait : IsLoneWait 2000 three_plan three_senders 0 1 9000
  pub run : WaitsItsTurn
  pub quiet : seen_of 1 (stream_at three_plan 0 (line_after 2)) ≡ fragments_of three_plan 0 (short_sent 1 ∷ [])
  pub keep : KeepPeriods three_senders 3000 third_arrival
  pub finding : ArePolls (λ now lines after.
      FindsIt three_plan 0 1 (accepted_by three_plan 0 (short_sent 1 ∷ []) third_arrival now) now lines after)
      (6000 ∷ 9000 ∷ 12000 ∷ []) (line_after 2) (line_after 5)

-- The link of one sub-VL, whose port sends messages of one byte, and keeps a period of 1,000 microseconds.

abbrev pub byte_sender : Sender
byte_sender = record { port = short_port 0; period = Some 1000; jitter = 0 }

abbrev pub byte_senders : List Sender
byte_senders = byte_sender ∷ []

-- a port that the plan doesn't have
abbrev pub other_senders : List Sender
other_senders =
    record { port = record (short_port 0) { id = record { 0 = 11 } }; period = Some 1000; jitter = 0 } ∷ []

-- another message, transmitted at 1,000
abbrev pub other_sent : Lines
other_sent = lines_by ((1000, other_frame) ∷ [])

-- messages that the sub-VL accepted at these times
abbrev pub byte_arrivals : List ℕ → List Arrival
byte_arrivals times = map (λ (at : ℕ). accepted_at at (short_sent 0)) times

-- the port with a period of 2,000 and this jitter
abbrev pub late_senders : ℕ → List Sender
late_senders jitter = record { port = short_port 0; period = Some 2000; jitter = jitter } ∷ []

-- two messages, transmitted at 1,000 and 2,000
abbrev pub both_line : Lines
both_line = lines_by ((1000, short_frame 0 0 0) ∷ (2000, short_frame 0 1 1) ∷ [])

-- both are wholly released by the bound
abbrev pub SecondReleased : ℕ → Type 0
SecondReleased bound = AreReleasedBy byte_plan 0 0 (short_sent 0 ∷ short_sent 0 ∷ [])
    (stream_at byte_plan 0 no_line) (stream_at byte_plan 0 both_line) bound

-- Two messages are accepted at 0 and 1, the first one with the whole jitter of 1,999, and the second one with none. The
-- wait by traffic is 1,999, and the second message is released at exactly 2,000.
pub record MeetsWithJitter : Type 0 where
  pub senders : AreSendersOf byte_plan (late_senders 1999)
  pub wait : IsLoneWait 0 byte_plan (late_senders 1999) 0 0 1999
  pub accepted : IsAccepted byte_plan (bytes_accepted 2) 0 0 (messages_in (byte_arrivals (0 ∷ []))) (short_sent 0) []
  pub starts : IsLater (latest None (stream_at byte_plan 0 no_line)) 0
  pub quiet : seen_of 0 (stream_at byte_plan 0 no_line) ≡ fragments_of byte_plan 0 []
  pub keep : KeepPeriods (late_senders 1999) 0 (byte_arrivals (0 ∷ 1 ∷ []))
  pub finding : AreFindingAll byte_plan (bytes_accepted 2) 0 0 (accepted_by byte_plan 0 [] (byte_arrivals (0 ∷ 1 ∷ [])))
      (1000 ∷ 2000 ∷ []) no_line both_line
  pub begins : IsPrefixOf (seen_of 0 (stream_at byte_plan 0 both_line))
      (fragments_of byte_plan 0 (bytes_accepted 2 0 0))
  pub is_up : any_up (link_plan_at byte_plan.links 0).networks both_line ≡ true
  pub timely : AreTimely 1000 0 2000 0 (1000 ∷ 2000 ∷ [])
  pub released : SecondReleased 2000
  pub sooner : SecondReleased 1999 → ⊥

-- the number of the premise that fails isn't this one, or the premise fails
abbrev pub Unless : (failing premise : ℕ) → Type 0 → Type 0
Unless failing premise P = Holds (not (nat_eq failing premise)) P

-- The law for the message accepted at `at`, with no lateness. The sub-VL accepted `many` messages in all, `before` of
-- them before the start, and others at the times `earlier`. A poll follows at `now`. The premise of number `failing`
-- fails, each other one holds, and the conclusion fails.
pub record ArrivalCase (failing : ℕ) (senders : List Sender) (wait many before start : ℕ) (earlier : List ℕ)
    (at now : ℕ) (lines after : Lines) : Type 0 where
  pub senders_are : Unless failing 0 (AreSendersOf byte_plan senders)
  pub wait_is : Unless failing 1 (IsLoneWait 0 byte_plan senders 0 0 wait)
  pub accepted : Unless failing 2 (IsAccepted byte_plan (bytes_accepted many) 0 0
      (replicate before (short_sent 0) ++ messages_in (byte_arrivals earlier)) (short_sent 0) [])
  pub starts : Unless failing 3 (IsLater (latest None (stream_at byte_plan 0 lines)) start)
  pub quiet : Unless failing 4 (seen_of 0 (stream_at byte_plan 0 lines)
      ≡ fragments_of byte_plan 0 (replicate before (short_sent 0)))
  pub keep : Unless failing 5 (KeepPeriods senders start (byte_arrivals earlier ++ accepted_at at (short_sent 0) ∷ []))
  pub finding : Unless failing 6 (AreFindingAll byte_plan (bytes_accepted many) 0 0
      (accepted_by byte_plan 0 (replicate before (short_sent 0))
      (byte_arrivals earlier ++ accepted_at at (short_sent 0) ∷ [])) (now ∷ []) lines after)
  pub begins : Unless failing 7 (IsPrefixOf (seen_of 0 (stream_at byte_plan 0 after))
      (fragments_of byte_plan 0 (bytes_accepted many 0 0)))
  pub is_up : Unless failing 8 (any_up (link_plan_at byte_plan.links 0).networks after ≡ true)
  pub timely : Unless failing 9 (AreTimely 1000 0 (at + wait) start (now ∷ []))
  pub missed : AreReleasedBy byte_plan 0 0
      ((replicate before (short_sent 0) ++ messages_in (byte_arrivals earlier)) ++ short_sent 0 ∷ [])
      (stream_at byte_plan 0 lines) (stream_at byte_plan 0 after) (at + wait) → ⊥

-- Each of these premises is needed.
pub record NeedsTraffic : Type 0 where
  -- the port isn't one of the plan, so nothing is known of the one that is
  pub foreign : ArrivalCase 0 other_senders 1000 2 0 0 (0 ∷ []) 0 1000 no_line (byte_line 1000)
  -- the wait by traffic is longer
  pub short : ArrivalCase 1 byte_senders 999 1 0 0 [] 0 1000 no_line (byte_line 1000)
  -- the message was not accepted
  pub unaccepted : ArrivalCase 2 byte_senders 1000 0 0 0 [] 0 1000 no_line no_line
  -- the start is before the last release
  pub early : ArrivalCase 3 byte_senders 1000 2 1 0 [] 0 1000 (byte_line 5000) (byte_line 5000)
  -- a message accepted before the start is not sent
  pub owing : ArrivalCase 4 byte_senders 1000 2 1 0 [] 0 1000 no_line (byte_line 1000)
  -- two messages are accepted at once
  pub unkept : ArrivalCase 5 byte_senders 1000 2 0 0 (0 ∷ []) 0 1000 no_line (byte_line 1000)
  -- two messages are accepted a microsecond nearer than the jitter allows
  pub hasty : ArrivalCase 5 (late_senders 1998) 1998 2 0 0 (0 ∷ []) 1 1000 no_line (byte_line 1000)
  -- two are accepted a period apart, the first before the start
  pub sooner : ArrivalCase 5 byte_senders 1000 2 0 1000 (0 ∷ []) 1000 2000 no_line (byte_line 2000)
  -- a poll of the emitter does not find the message
  pub poll : EmitterPolls byte_plan 1000 no_line no_line
  pub unfound : ArrivalCase 6 byte_senders 1000 1 0 0 [] 0 1000 no_line no_line
  -- the emitter sends another
  pub unlike : ArrivalCase 7 byte_senders 1000 1 0 0 [] 0 1000 no_line other_sent
  -- the networks are down
  pub down : ArrivalCase 8 byte_senders 1000 1 0 0 [] 0 1000 failed_line failed_line
  -- the poll is a microsecond late
  pub late : ArrivalCase 9 byte_senders 1000 1 0 0 [] 0 1001 no_line (byte_line 1001)
