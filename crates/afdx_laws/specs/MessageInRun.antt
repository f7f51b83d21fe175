-- The wait of an accepted message in a run of polls, whatever the other ports send.
use Rattle.std.specs.Prelude.{ℕ, ◌≡◌, ◌⊎◌, ◌+◌, ◌≤◌, ◌<◌, true, List, [], ◌∷◌, ◌++◌, length, All, None}
use Rattle.afdx_plan.specs.Config.{Plan, IsPlan, link_plan_at}
use Rattle.afdx_plan.specs.Plan.{bag_micros, room_of}
use Rattle.afdx_frame.specs.declared.net.Net.TheVariants.{A}
use Rattle.afdx_frame.specs.Fragments.{Sent, fragments}
use Rattle.redundant_mux.specs.Lines.{Entry, Lines, any_up}
use Rattle.vl_shaper.specs.Pace.{IsLater}
use Rattle.afdx_legal.specs.Streams.{sub_stream, told, latest, IsPrefixOf}
use Rattle.afdx_legal.specs.Legal.{Accepted}
use Rattle.afdx_legal.specs.Accepted.{AreAllowed}
use Rattle.vl_link.specs.Links.{Passes, held_at, link_at}
use Rattle.afdx_tx.specs.Run.{IsDrained}
use Rattle.afdx_tx.specs.DrainEnds.{stream_at}
use Rattle.plan_analysis.specs.Wait.{worst_wait}
use Rattle.afdx_laws.specs.Runs.{ArePolls, EmitterPolls, ComeWithin, latest_of}

-- one of these times lies between `low` and `high`
abbrev pub ComesIn : ℕ → ℕ → List ℕ → Type 0
ComesIn low high [] = ⊥
ComesIn low high (now ∷ moments) = ((low ≤ now) × (now ≤ high)) ⊎ ComesIn low high moments

-- Polls follow a start. After it and after each poll, a poll comes between a gap and a gap and the lateness later, if
-- the end doesn't come first.
abbrev pub AreTimely : (gap late end before : ℕ) → List ℕ → Type 0
AreTimely gap late end before [] = end < before + (gap + late)
AreTimely gap late end before (now ∷ moments) = (before ≤ now)
    × (before + (gap + late) ≤ end → ComesIn (before + gap) (before + (gap + late)) (now ∷ moments))
    × AreTimely gap late end now moments

-- Polls that follow the start and one another within the lateness and a microsecond, until the end, are timely.
abbrev pub ApartAreTimely : Type 0
ApartAreTimely = (gap late end before : ℕ) (moments : List ℕ) → 1 ≤ gap → ComeWithin (late + 1) before moments
    → end ≤ latest_of before moments → AreTimely gap late end before moments

-- the fragments of the first messages of a sub-VL of link `k`
abbrev pub fragments_of : Plan → ℕ → List Sent → List (List ℕ)
fragments_of plan k messages = fragments plan.end_system (room_of (link_plan_at plan.links k).lmax) A messages

-- the fragments of a sub-VL in a stream of its link
abbrev pub seen_of : ℕ → List Entry → List (List ℕ)
seen_of sub stream = told (sub_stream sub stream)

-- Sub-VL `s` of link `k` accepted `sent` after `earlier` and before `later`, each a message that its port may send.
pub record IsAccepted (plan : Plan) (accepted : Accepted) (k s : ℕ)
    (earlier : List Sent) (sent : Sent) (later : List Sent) : Type 0 where
  pub link : k < length plan.links
  pub sub : s < (link_plan_at plan.links k).sub_vls
  pub are : accepted k s ≡ earlier ++ sent ∷ later
  pub allowed : AreAllowed plan accepted

-- The queue had room for the message: each earlier message that precedes it by at least the capacity is begun.
abbrev pub HasPlace : Plan → (k s : ℕ) → List Sent → List Entry → Type 0
HasPlace plan k s earlier stream = (front back : List Sent) → earlier ≡ front ++ back
    → (link_plan_at plan.links k).capacity ≤ length back
    → length (fragments_of plan k front) < length (seen_of s stream)

-- A poll of an emitter. If it finds nothing of the sub-VL to send, at least `many` fragments of it were sent before.
pub record FindsIt (plan : Plan) (k s many now : ℕ) (lines after : Lines) : Type 0 where
  pub poll : EmitterPolls plan now lines after
  pub finds : Passes (held_at (link_at poll.old.links k).subs s) (held_at (link_at poll.new.links k).subs s)
      → many ≤ length (seen_of s (stream_at plan k lines))

-- Polls of an emitter that finds its messages until `many` fragments of the sub-VL are sent, or of a drain of the
-- accepted messages.
abbrev pub AreFinding : Plan → Accepted → (k s many : ℕ) → List ℕ → (lines after : Lines) → Type 0
AreFinding plan accepted k s many =
    ArePolls (λ now lines after. FindsIt plan k s many now lines after ⊎ IsDrained now plan accepted lines after)

-- A link's stream has grown from `before` to `stream`, and every fragment of these messages was sent by the bound.
pub record AreReleasedBy (plan : Plan) (k s : ℕ) (messages : List Sent) (before stream : List Entry)
    (bound : ℕ) : Type 0 where
  pub soon : List Entry
  pub more : List Entry
  pub is : stream ≡ before ++ (soon ++ more)
  pub by : All (λ (e : Entry). e.at ≤ bound) soon
  pub whole : IsPrefixOf (fragments_of plan k messages) (seen_of s (before ++ soon))

-- A message is wholly released within the longest wait of its port, which the plan and the lateness determine. The
-- polls come when its link is due, find the message, and continue until the wait is over. A network that carries the
-- link is up after them.
abbrev pub MessageInRun : Type 0
MessageInRun = (plan : Plan) (accepted : Accepted) (moments : List ℕ) (lines after : Lines) (k s late start : ℕ)
    (earlier : List Sent) (sent : Sent) (later : List Sent) → IsPlan plan
    → IsAccepted plan accepted k s earlier sent later → IsLater (latest None (stream_at plan k lines)) start
    → HasPlace plan k s earlier (stream_at plan k lines)
    → AreFinding plan accepted k s (length (fragments_of plan k (earlier ++ sent ∷ []))) moments lines after
    → IsPrefixOf (seen_of s (stream_at plan k after)) (fragments_of plan k (accepted k s))
    → any_up (link_plan_at plan.links k).networks after ≡ true
    → AreTimely (bag_micros (link_plan_at plan.links k).bag) late (start + worst_wait late plan sent.port) start moments
    → AreReleasedBy plan k s (earlier ++ sent ∷ []) (stream_at plan k lines) (stream_at plan k after)
    (start + worst_wait late plan sent.port)
