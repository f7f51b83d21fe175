-- Worked requests of the law of a queue that is never full. The link has one sub-VL, whose queue has one place, and
-- whose port sends messages of one byte. With no lateness a round is 1,000 microseconds.
use Rattle.std.specs.Prelude.{ℕ, ◌≡◌, ◌+◌, ◌-◌, ◌≤◌, true, false, List, [], ◌∷◌, ◌++◌, length, map, replicate, None, Some}
use Rattle.afdx_plan.specs.Config.{link_plan_at}
use Rattle.afdx_frame.specs.Fragments.{Sent}
use Rattle.redundant_mux.specs.Lines.{Lines, any_up}
use Rattle.vl_shaper.specs.Pace.{IsLater}
use Rattle.afdx_legal.specs.Streams.{latest}
use Rattle.subvl_queue.specs.Views.{QueueName, asked, glanced, new_sender}
use Rattle.afdx_tx.specs.DrainEnds.{stream_at}
use Rattle.afdx_tx.specs.Ports.{PortView, Refuses}
use Rattle.afdx_tx.specs.declared.fault.Refusal.TheVariants.{Full}
use Rattle.plan_analysis.specs.declared.traffic.Sender.{Sender}
use Rattle.plan_analysis.specs.Traffic.{AreSendersOf}
use Rattle.afdx_laws.specs.MessageInRun.{AreTimely, fragments_of, seen_of}
use Rattle.afdx_laws.specs.TrafficInRun.{IsLoneWait, KeepPeriods, AreFindingAll, accepted_by, messages_in}
use Rattle.afdx_laws.specs.TrafficRow.{Unless, byte_arrivals, late_senders}
use Rattle.afdx_laws.specs.WorkedRun.{short_port, short_sent, byte_plan, bytes_accepted, byte_line, no_line, failed_line}
use Rattle.afdx_laws.specs.NeverFull.{AsksAfter, IsNeedFor, asked_at, queued_of}

-- the port, with this period
abbrev pub each : ℕ → List Sender
each period = record { port = short_port 0; period = Some period; jitter = 0 } ∷ []

-- a port that the plan doesn't have
abbrev pub other_each : ℕ → List Sender
other_each period =
    record { port = record (short_port 0) { id = record { 0 = 11 } }; period = Some period; jitter = 0 } ∷ []

-- the port before it asks
abbrev pub asking_port : QueueName → PortView
asking_port queue = record { place = 0; plan = short_port 0; sender = new_sender queue 1 1 1 0 }

-- the port after its queue refused a message, full with one
abbrev pub full_port : QueueName → PortView
full_port queue = record (asking_port queue) { sender = asked (glanced (new_sender queue 1 1 1 0) false) 1 }

-- the messages that the sub-VL accepted: some before the start, and others at these times
abbrev pub accepted_so : ℕ → List ℕ → List Sent
accepted_so before earlier = replicate before (short_sent 0) ++ messages_in (byte_arrivals earlier)

-- the number of messages that a request finds
abbrev pub load_at : (before : ℕ) → (earlier : List ℕ) → List Sent → Lines → ℕ
load_at before earlier others after =
    queued_of byte_plan 0 (accepted_so before earlier) (length (seen_of 0 (stream_at byte_plan 0 after)))
    + length others

-- The premises of the law for a request at `now`. The wait of the sub-VL is 1,000. It accepted `many` messages:
-- `before` before the start, and others at the times `earlier`; requests for `others` are under way. The premise of
-- number `failing` fails, and each other one holds.
pub record AskCase (failing : ℕ) (senders : List Sender) (need many before start : ℕ) (earlier : List ℕ)
    (others : List Sent) (now : ℕ) (moments : List ℕ) (lines after : Lines) : Type 0 where
  pub senders_are : Unless failing 0 (AreSendersOf byte_plan senders)
  pub wait_is : IsLoneWait 0 byte_plan senders 0 0 1000
  pub need_is : Unless failing 1 (IsNeedFor 0 byte_plan senders 0 0 1000 need)
  pub fits : Unless failing 2 (need ≤ (link_plan_at byte_plan.links 0).capacity)
  pub asks : Unless failing 3 (AsksAfter byte_plan (bytes_accepted many) 0 0 (accepted_so before earlier) others
      (short_sent 0) [])
  pub starts : Unless failing 4 (IsLater (latest None (stream_at byte_plan 0 lines)) start)
  pub quiet : Unless failing 5 (seen_of 0 (stream_at byte_plan 0 lines)
      ≡ fragments_of byte_plan 0 (replicate before (short_sent 0)))
  pub keep : Unless failing 6 (KeepPeriods senders start
      ((byte_arrivals earlier ++ map (asked_at now) others) ++ asked_at now (short_sent 0) ∷ []))
  pub finding : Unless failing 7 (AreFindingAll byte_plan (bytes_accepted many) 0 0
      (accepted_by byte_plan 0 (replicate before (short_sent 0)) (byte_arrivals earlier)) moments lines after)
  pub is_up : Unless failing 8 (any_up (link_plan_at byte_plan.links 0).networks after ≡ true)
  pub timely : Unless failing 9 (AreTimely 1000 0 (now - 1) start moments)

-- The request finds its queue full, and the port is refused.
pub record FullCase (failing : ℕ) (senders : List Sender) (need many before start : ℕ) (earlier : List ℕ)
    (others : List Sent) (now : ℕ) (moments : List ℕ) (lines after : Lines) : Type 0 where
  pub premises : AskCase failing senders need many before start earlier others now moments lines after
  pub load : 1 ≤ load_at before earlier others after
  pub refused : (queue : QueueName) → Refuses (asking_port queue) 1 Full (full_port queue)

-- A port with a period of 1,001 needs one place, the capacity, which its message takes.
pub record FillsItsQueue : Type 0 where
  pub premises : AskCase 10 (each 1001) 1 0 0 0 [] [] 0 [] no_line no_line
  pub is : (link_plan_at byte_plan.links 0).capacity ≡ 1
  pub filled : load_at 0 [] [] no_line + 1 ≡ 1

-- Each of these premises is needed.
pub record NeedsPlaces : Type 0 where
  -- the port isn't one of the plan, so nothing is known of the one that is
  pub foreign : FullCase 0 (other_each 1001) 1 1 0 0 (0 ∷ []) [] 0 [] no_line no_line
  -- the traffic needs a place more: a message comes with the poll that would take the one before
  pub short : FullCase 1 (each 1000) 1 1 0 0 (0 ∷ []) [] 1000 [] no_line no_line
  -- the queue has a place less than that
  pub small : FullCase 2 (each 1000) 2 1 0 0 (0 ∷ []) [] 1000 [] no_line no_line
  -- the message in the queue was not accepted
  pub unaccepted : FullCase 3 (each 1001) 1 0 0 0 (0 ∷ []) [] 1001 (1000 ∷ []) no_line no_line
  -- the start is before the last release
  pub early : FullCase 4 (each 1001) 1 2 1 0 (0 ∷ []) [] 1001 (1000 ∷ []) (byte_line 5000) (byte_line 5000)
  -- a message accepted before the start is not sent
  pub owing : FullCase 5 (each 1001) 1 1 1 0 [] [] 0 [] no_line no_line
  -- two messages come at once
  pub unkept : FullCase 6 (each 1001) 1 1 0 0 (0 ∷ []) [] 0 [] no_line no_line
  -- a message comes a microsecond nearer to the one before it than the jitter allows
  pub hasty : FullCase 6 (late_senders 999) 1 1 0 0 (0 ∷ []) [] 1000 [] no_line no_line
  -- the port sends in two threads
  pub twice : FullCase 6 (each 1001) 1 0 0 0 [] (short_sent 0 ∷ []) 0 [] no_line no_line
  -- a poll of the emitter does not find the message
  pub unfound : FullCase 7 (each 1001) 1 1 0 0 (0 ∷ []) [] 1001 (1000 ∷ []) no_line no_line
  -- the networks are down
  pub down : FullCase 8 (each 1001) 1 1 0 0 (0 ∷ []) [] 1001 (1000 ∷ []) failed_line failed_line
  -- no poll comes
  pub late : FullCase 9 (each 1001) 1 1 0 0 (0 ∷ []) [] 1001 [] no_line no_line
