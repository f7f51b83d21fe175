-- The wait of an accepted message in a run of polls, if each port of a group of sub-VLs of its link keeps a period with
-- its jitter.
use Rattle.std.specs.Prelude.{ℕ, ◌≡◌, ◌⊎◌, ◌+◌, ◌<◌, ◌≤◌, true, Bool, nat_eq, ◌||◌, List, [], ◌∷◌, ◌++◌, length, None}
use Rattle.afdx_plan.specs.Config.{Plan, IsPlan, link_plan_at}
use Rattle.afdx_plan.specs.Plan.{bag_micros}
use Rattle.afdx_frame.specs.Fragments.{Sent}
use Rattle.redundant_mux.specs.Lines.{Entry, Lines, any_up}
use Rattle.vl_shaper.specs.Pace.{IsLater}
use Rattle.afdx_legal.specs.Streams.{latest, IsPrefixOf}
use Rattle.afdx_legal.specs.Legal.{Accepted}
use Rattle.afdx_legal.specs.Accepted.{AreAllowed}
use Rattle.vl_link.specs.Links.{Passes, held_at, link_at}
use Rattle.afdx_tx.specs.Run.{IsDrained}
use Rattle.afdx_tx.specs.DrainEnds.{stream_at}
use Rattle.plan_analysis.specs.declared.traffic.Sender.{Sender}
use Rattle.plan_analysis.specs.Traffic.{AreSendersOf, IsGroupWait, has_sub, have_periods}
use Rattle.afdx_laws.specs.Runs.{ArePolls, EmitterPolls}
use Rattle.afdx_laws.specs.MessageInRun.{AreTimely, AreReleasedBy, fragments_of, seen_of}
use Rattle.afdx_laws.specs.TrafficInRun.{Arrival, KeepPeriods, accepted_by, messages_in}

-- a sub-VL, or one of its mates
abbrev pub is_in : (sub mates : ℕ) → ℕ → Bool
is_in sub mates k = nat_eq k sub || has_sub mates k

-- A poll of an emitter. If it finds nothing of a sub-VL of the group to send, all fragments that count for it by then
-- were sent before.
pub record FindsGroup (plan : Plan) (k : ℕ) (group : ℕ → Bool) (count : (sub now : ℕ) → ℕ) (now : ℕ)
    (lines after : Lines) : Type 0 where
  pub poll : EmitterPolls plan now lines after
  pub finds : (s : ℕ) → group s ≡ true
      → Passes (held_at (link_at poll.old.links k).subs s) (held_at (link_at poll.new.links k).subs s)
      → count s now ≤ length (seen_of s (stream_at plan k lines))

-- A poll of an emitter that finds the messages of a group, or of a drain of the accepted messages. No fragment of these
-- mates is sent before it counts.
pub record IsGroupPoll (plan : Plan) (accepted : Accepted) (k : ℕ) (group mates : ℕ → Bool)
    (count : (sub now : ℕ) → ℕ) (now : ℕ) (lines after : Lines) : Type 0 where
  pub poll : FindsGroup plan k group count now lines after ⊎ IsDrained now plan accepted lines after
  pub sooner : (s : ℕ) → s < (link_plan_at plan.links k).sub_vls → mates s ≡ true
      → length (seen_of s (stream_at plan k after)) ≤ count s (now + 1)

-- The messages that a sub-VL accepted: `before` the start, and all of these were sent; in the run, where its ports keep
-- their periods with their jitter; and `later`.
pub record HasTraffic (plan : Plan) (senders : List Sender) (accepted : Accepted) (k s start : ℕ) (before : List Sent)
    (arrivals : List Arrival) (later : List Sent) (stream : List Entry) : Type 0 where
  pub are : accepted k s ≡ (before ++ messages_in arrivals) ++ later
  pub quiet : seen_of s stream ≡ fragments_of plan k before
  pub keeps : KeepPeriods senders start arrivals

-- A run of polls of link `k`, with the traffic of sub-VL `s` and of its mates. The polls find the messages that these
-- accepted, and send none of the mates before it was accepted. A network that carries the link is up after them.
pub record IsGroupRun (plan : Plan) (senders : List Sender) (accepted : Accepted) (k s mates start : ℕ)
    (before : ℕ → List Sent) (arrivals : ℕ → List Arrival) (later : ℕ → List Sent) (moments : List ℕ)
    (lines after : Lines) : Type 0 where
  pub link : k < length plan.links
  pub sub : s < (link_plan_at plan.links k).sub_vls
  pub allowed : AreAllowed plan accepted
  pub starts : IsLater (latest None (stream_at plan k lines)) start
  pub each : (t : ℕ) → t < (link_plan_at plan.links k).sub_vls → is_in s mates t ≡ true
      → HasTraffic plan senders accepted k t start (before t) (arrivals t) (later t) (stream_at plan k lines)
  pub polls : ArePolls (IsGroupPoll plan accepted k (is_in s mates) (has_sub mates)
      (λ t. accepted_by plan k (before t) (arrivals t))) moments lines after
  pub is_up : any_up (link_plan_at plan.links k).networks after ≡ true

-- A message is wholly released within the wait by traffic in a group, from its acceptance on. The polls come when its
-- link is due, and continue until the wait is over.
abbrev pub GroupInRun : Type 0
GroupInRun = (plan : Plan) (senders : List Sender) (accepted : Accepted) (moments : List ℕ) (lines after : Lines)
    (k s mates late start wait : ℕ) (before : ℕ → List Sent) (arrivals : ℕ → List Arrival) (later : ℕ → List Sent)
    (earlier : List Arrival) (own : Arrival) (others : List Arrival) → IsPlan plan → AreSendersOf plan senders
    → have_periods (link_plan_at plan.links k) s senders ≡ true
    → IsGroupWait late plan (link_plan_at plan.links k) s senders mates wait
    → IsGroupRun plan senders accepted k s mates start before arrivals later moments lines after
    → arrivals s ≡ earlier ++ own ∷ others
    → IsPrefixOf (seen_of s (stream_at plan k after)) (fragments_of plan k (accepted k s))
    → AreTimely (bag_micros (link_plan_at plan.links k).bag) late (own.at + wait) start moments
    → AreReleasedBy plan k s ((before s ++ messages_in earlier) ++ own.sent ∷ []) (stream_at plan k lines)
    (stream_at plan k after) (own.at + wait)
