-- The wait of an accepted message in a run of polls, if each port of its sub-VL keeps a period with its jitter.
use Rattle.std.specs.Prelude.{ℕ, ◌≡◌, ◌⊎◌, ◌+◌, ◌≤◌, true, Bool, List, [], ◌∷◌, ◌++◌, length, map, filter, All, nat_eq, nat_lt, None, IfSome}
use Rattle.afdx_plan.specs.Config.{Plan, IsPlan, link_plan_at}
use Rattle.afdx_plan.specs.Plan.{bag_micros}
use Rattle.afdx_plan.specs.declared.port_plan.PortPlan.{PortPlan}
use Rattle.afdx_frame.specs.Fragments.{Sent}
use Rattle.redundant_mux.specs.Lines.{Lines, any_up}
use Rattle.vl_shaper.specs.Pace.{IsLater}
use Rattle.afdx_legal.specs.Streams.{latest, IsPrefixOf}
use Rattle.afdx_legal.specs.Legal.{Accepted}
use Rattle.afdx_tx.specs.Run.{IsDrained}
use Rattle.afdx_tx.specs.DrainEnds.{stream_at}
use Rattle.plan_analysis.specs.declared.traffic.Sender.{Sender}
use Rattle.plan_analysis.specs.Traffic.{AreSendersOf, IsGroupWait, have_periods}
use Rattle.afdx_laws.specs.Runs.{ArePolls}
use Rattle.afdx_laws.specs.MessageInRun.{AreTimely, AreReleasedBy, FindsIt, IsAccepted, fragments_of, seen_of}

-- an accepted message, and the time of its acceptance, in microseconds
pub record Arrival : Type 0 where
  pub at : ℕ
  pub sent : Sent

abbrev pub messages_in : List Arrival → List Sent
messages_in arrivals = map (λ (a : Arrival). a.sent) arrivals

abbrev pub times_in : List Arrival → List ℕ
times_in arrivals = map (λ (a : Arrival). a.at) arrivals

-- true if the message belongs to this port
abbrev pub is_from : PortPlan → Arrival → Bool
is_from port a = nat_eq a.sent.port.id.0 port.id.0

-- the message was accepted before this time
abbrev pub is_before : ℕ → Arrival → Bool
is_before now a = nat_lt a.at now

-- each time is at least `apart` after all before it
abbrev pub AreApart : ℕ → List ℕ → Type 0
AreApart apart [] = Unit {0}
AreApart apart (first ∷ times) = All (λ (t : ℕ). first + apart ≤ t) times × AreApart apart times

-- Each time is at most the jitter before one of its own, in order, and not after it.
abbrev pub AreDue : (jitter : ℕ) → (times dues : List ℕ) → Type 0
AreDue jitter [] [] = Unit {0}
AreDue jitter [] (due ∷ dues) = ⊥
AreDue jitter (time ∷ times) [] = ⊥
AreDue jitter (time ∷ times) (due ∷ dues) = (time ≤ due) × (due ≤ time + jitter) × AreDue jitter times dues

-- The times of the messages of a port that keeps a period with a jitter. A message is due the jitter after its planned
-- time: it is accepted from its planned time on, and by the time at which it is due. The planned times are at least the
-- period apart, and so are the times at which messages are due.
pub record KeepPeriod (period jitter : ℕ) (times : List ℕ) : Type 0 where
  pub dues : List ℕ
  pub due : AreDue jitter times dues
  pub apart : AreApart period dues

-- Messages were accepted in this order, none before the start. Each port with a period keeps it with its jitter.
pub record KeepPeriods (senders : List Sender) (start : ℕ) (arrivals : List Arrival) : Type 0 where
  pub ordered : AreApart 0 (start ∷ times_in arrivals)
  pub periods : All (λ (s : Sender).
      IfSome s.period (λ p. KeepPeriod p s.jitter (times_in (filter (is_from s.port) arrivals)))) senders

-- The number of fragments of the messages that a sub-VL accepted before a time: the messages before the start, and
-- these.
abbrev pub accepted_by : Plan → ℕ → List Sent → List Arrival → ℕ → ℕ
accepted_by plan k before arrivals now =
    length (fragments_of plan k (before ++ messages_in (filter (is_before now) arrivals)))

-- Polls of an emitter, or of a drain of the accepted messages. Each poll of an emitter finds the messages that were
-- accepted before it until they are sent. `count` has the number of fragments of the messages accepted before each
-- time.
abbrev pub AreFindingAll : Plan → Accepted → (k s : ℕ) → (count : ℕ → ℕ) → List ℕ → (lines after : Lines) → Type 0
AreFindingAll plan accepted k s count =
    ArePolls (λ now lines after. FindsIt plan k s (count now) now lines after ⊎ IsDrained now plan accepted lines after)

-- the wait by traffic of a message on a sub-VL of a link in the group of that sub-VL alone
abbrev pub IsLoneWait : ℕ → Plan → List Sender → (k s wait : ℕ) → Type 0
IsLoneWait late plan senders k s wait = (have_periods (link_plan_at plan.links k) s senders ≡ true)
    × IsGroupWait late plan (link_plan_at plan.links k) s senders 0 wait

-- A message is wholly released within its wait by traffic, whatever the other sub-VLs send. At the start of the run
-- its sub-VL had sent all that it had accepted. Since then its ports keep their periods with their jitter, the polls
-- come when its link is due, find the accepted messages, and continue until the wait is over. A network that carries
-- the link is up after them.
abbrev pub TrafficInRun : Type 0
TrafficInRun = (plan : Plan) (senders : List Sender) (accepted : Accepted) (moments : List ℕ) (lines after : Lines)
    (k s late start wait : ℕ) (before : List Sent) (earlier : List Arrival) (own : Arrival) (later : List Sent)
    → IsPlan plan → AreSendersOf plan senders → IsLoneWait late plan senders k s wait
    → IsAccepted plan accepted k s (before ++ messages_in earlier) own.sent later
    → IsLater (latest None (stream_at plan k lines)) start
    → seen_of s (stream_at plan k lines) ≡ fragments_of plan k before
    → KeepPeriods senders start (earlier ++ own ∷ [])
    → AreFindingAll plan accepted k s (accepted_by plan k before (earlier ++ own ∷ [])) moments lines after
    → IsPrefixOf (seen_of s (stream_at plan k after)) (fragments_of plan k (accepted k s))
    → any_up (link_plan_at plan.links k).networks after ≡ true
    → AreTimely (bag_micros (link_plan_at plan.links k).bag) late (own.at + wait) start moments
    → AreReleasedBy plan k s ((before ++ messages_in earlier) ++ own.sent ∷ []) (stream_at plan k lines)
    (stream_at plan k after) (own.at + wait)
