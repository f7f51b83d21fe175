-- Conditions under which the queue of a sub-VL never refuses a message as full, in a run of polls.
use Rattle.std.specs.Prelude.{ℕ, ◌≡◌, ◌+◌, ◌-◌, ◌≤◌, ◌<◌, true, List, [], ◌∷◌, ◌++◌, length, map, nat_eq, All, None, if◌then◌else◌}
use Rattle.afdx_plan.specs.Config.{Plan, IsPlan, link_plan_at}
use Rattle.afdx_plan.specs.Plan.{bag_micros}
use Rattle.afdx_frame.specs.Fragments.{Sent}
use Rattle.redundant_mux.specs.Lines.{Lines, any_up}
use Rattle.vl_shaper.specs.Pace.{IsLater}
use Rattle.afdx_legal.specs.Streams.{latest}
use Rattle.afdx_legal.specs.Legal.{Accepted}
use Rattle.afdx_legal.specs.Accepted.{AreAllowed, IsAllowed}
use Rattle.afdx_tx.specs.DrainEnds.{stream_at}
use Rattle.afdx_tx.specs.Ports.{PortView, Refuses}
use Rattle.afdx_tx.specs.declared.fault.Refusal.TheVariants.{Full}
use Rattle.plan_analysis.specs.declared.traffic.Sender.{Sender}
use Rattle.plan_analysis.specs.Traffic.{AreSendersOf, IsGroupWait, IsNeed, flows_of, have_periods, round_of}
use Rattle.afdx_laws.specs.MessageInRun.{AreTimely, fragments_of, seen_of}
use Rattle.afdx_laws.specs.TrafficInRun.{Arrival, IsLoneWait, KeepPeriods, AreFindingAll, accepted_by, messages_in}
use Rattle.afdx_laws.specs.GroupInRun.{IsGroupRun}

-- The messages without a fragment among the first `gone` of their sub-VL: the messages in its queue. A message leaves
-- the queue when its first fragment is released.
abbrev pub queued_of : Plan → ℕ → List Sent → ℕ → ℕ
queued_of plan k [] gone = 0
queued_of plan k (m ∷ more) gone = if nat_eq gone 0 then 1 + length more
    else queued_of plan k more (gone - length (fragments_of plan k (m ∷ [])))

abbrev pub asked_at : ℕ → Sent → Arrival
asked_at now sent = record { at = now; sent = sent }

-- A port of sub-VL `s` of link `k` asks its queue for a place for `own`, after the sub-VL accepted these messages. The
-- requests for `asked` are under way in other threads.
pub record AsksAfter (plan : Plan) (accepted : Accepted) (k s : ℕ)
    (messages asked : List Sent) (own : Sent) (later : List Sent) : Type 0 where
  pub link : k < length plan.links
  pub sub : s < (link_plan_at plan.links k).sub_vls
  pub are : accepted k s ≡ messages ++ later
  pub allowed : AreAllowed plan accepted
  pub others : All (IsAllowed plan k s) asked
  pub asking : IsAllowed plan k s own

-- the places that the queue of a sub-VL needs if its messages wait no longer than this
abbrev pub IsNeedFor : ℕ → Plan → List Sender → (k s wait need : ℕ) → Type 0
IsNeedFor late plan senders k s wait need = IsNeed (round_of late plan (link_plan_at plan.links k) s 0)
    (flows_of (link_plan_at plan.links k) s senders) wait need

-- The request finds no more messages and requests under way than there are, and its queue isn't full.
abbrev pub IsNotRefused : Plan → (k s : ℕ) → (messages asked : List Sent) → Lines → Type 0
IsNotRefused plan k s messages asked after = (port new : PortView) (size : ℕ)
    → port.sender.capacity ≡ (link_plan_at plan.links k).capacity
    → new.sender.load ≤ queued_of plan k messages (length (seen_of s (stream_at plan k after))) + length asked
    → Refuses port size Full new → ⊥

-- A port isn't refused as full at `now` if its request finds no more messages and requests under way than there are,
-- and its queue has the places that the traffic needs. At the start of the run its sub-VL had sent all that it had
-- accepted. Since then its ports keep their periods with their jitter, where each request under way counts as a
-- message of that time. The polls that are due before then have come, and find the accepted messages. A network that
-- carries the link is up after them.
abbrev pub NeverFull : Type 0
NeverFull = (plan : Plan) (senders : List Sender) (accepted : Accepted) (moments : List ℕ) (lines after : Lines)
    (k s late start now wait need : ℕ) (before : List Sent) (arrivals : List Arrival) (asked : List Sent) (own : Sent)
    (later : List Sent) → IsPlan plan → AreSendersOf plan senders
    → IsLoneWait late plan senders k s wait → IsNeedFor late plan senders k s wait need
    → need ≤ (link_plan_at plan.links k).capacity
    → AsksAfter plan accepted k s (before ++ messages_in arrivals) asked own later
    → IsLater (latest None (stream_at plan k lines)) start
    → seen_of s (stream_at plan k lines) ≡ fragments_of plan k before
    → KeepPeriods senders start ((arrivals ++ map (asked_at now) asked) ++ asked_at now own ∷ [])
    → AreFindingAll plan accepted k s (accepted_by plan k before arrivals) moments lines after
    → any_up (link_plan_at plan.links k).networks after ≡ true
    → AreTimely (bag_micros (link_plan_at plan.links k).bag) late (now - 1) start moments
    → IsNotRefused plan k s (before ++ messages_in arrivals) asked after

-- A port isn't refused as full in a run of a group of sub-VLs whose ports all keep their periods, if its queue has the
-- places that the traffic needs by the wait in that group.
abbrev pub NeverFullInGroup : Type 0
NeverFullInGroup = (plan : Plan) (senders : List Sender) (accepted : Accepted) (moments : List ℕ) (lines after : Lines)
    (k s mates late start now wait need : ℕ) (before : ℕ → List Sent) (arrivals : ℕ → List Arrival)
    (later : ℕ → List Sent) (asked : List Sent) (own : Sent) → IsPlan plan → AreSendersOf plan senders
    → have_periods (link_plan_at plan.links k) s senders ≡ true
    → IsGroupWait late plan (link_plan_at plan.links k) s senders mates wait
    → IsNeedFor late plan senders k s wait need → need ≤ (link_plan_at plan.links k).capacity
    → AsksAfter plan accepted k s (before s ++ messages_in (arrivals s)) asked own (later s)
    → IsGroupRun plan senders accepted k s mates start before arrivals later moments lines after
    → KeepPeriods senders start ((arrivals s ++ map (asked_at now) asked) ++ asked_at now own ∷ [])
    → AreTimely (bag_micros (link_plan_at plan.links k).bag) late (now - 1) start moments
    → IsNotRefused plan k s (before s ++ messages_in (arrivals s)) asked after
