-- Runs of polls of an emitter and of its drain, and the times at which they release the next fragment of a message.
use Rattle.std.specs.Prelude.{ℕ, ◌≡◌, ◌⊎◌, ◌<◌, List, [], ◌∷◌, length, ◌+◌, ◌*◌, ◌≤◌, true, ◌++◌}
use Rattle.afdx_plan.specs.Config.{Plan, link_plan_at, IsPlan}
use Rattle.afdx_plan.specs.Plan.{bag_micros}
use Rattle.redundant_mux.specs.Lines.{Lines, any_up, Entry}
use Rattle.afdx_legal.specs.Legal.{Accepted}
use Rattle.afdx_legal.specs.Accepted.{AreQueued}
use Rattle.vl_link.specs.Links.{LinkState, link_at}
use Rattle.afdx_tx.specs.Emitter.{Tx, taken_in, IsFreshTx}
use Rattle.afdx_tx.specs.Run.{IsRun, IsDrained}
use Rattle.afdx_tx.specs.Calls.{ClosesTx, Publishes}
use Rattle.afdx_tx.specs.Hearing.{HearsTx}
use Rattle.afdx_tx.specs.Ports.{PortView}
use Rattle.afdx_frame.specs.Header.{sub_in}
use Rattle.afdx_legal.specs.Streams.{more_in}
use Rattle.afdx_tx.specs.DrainEnds.{stream_at}
use Rattle.afdx_laws.specs.NextFragment.{AreNeighbours, longest_wait}
use Rattle.plan_analysis.specs.Wait.{has_port, used_sub_vls}

-- the link at place `k` has the entry, the gap and the number of sub-VLs that the plan gives
pub record IsPlanned (plan : Plan) (links : List LinkState) (k : ℕ) : Type 0 where
  pub plan_is : (link_at links k).plan ≡ link_plan_at plan.links k
  pub gap : (link_at links k).pace.gap ≡ bag_micros (link_plan_at plan.links k).bag
  pub sub_vls : (link_at links k).pace.sub_vls ≡ (link_plan_at plan.links k).sub_vls

-- An emitter has the links of a plan, and took only messages that its ports may send.
pub record IsReadyFor (plan : Plan) (tx : Tx) : Type 0 where
  pub count : length tx.links ≡ length plan.links
  pub links : (k : ℕ) → k < length plan.links → IsPlanned plan tx.links k
  pub allowed : AreQueued plan (taken_in tx.links)

abbrev pub IsReady : Tx → Type 0
IsReady tx = IsReadyFor tx.plan tx

-- `open_tx` makes a ready emitter, and polls, closes, publishing and `hear` leave it one.
pub record KeptReady : Type 0 where
  pub opened : (config : Plan) (tx : Tx) → IsFreshTx config tx → IsReady tx
  pub polled : (now : ℕ) (old new : Tx) → IsReady old → new.plan ≡ old.plan
      → IsRun now old.links new.links old.lines new.lines → AreQueued new.plan (taken_in new.links) → IsReady new
  pub closed : (old new : Tx) (vl sub total : ℕ) → IsReady old → ClosesTx old vl sub total new → IsReady new
  pub published : (old new : Tx) → IsReady old → Publishes old new → IsReady new
  pub told : (old new : Tx) (port : PortView) → IsReady old → HearsTx old port new → IsReady new

-- A poll of a ready emitter of a plan, by the frames transmitted before and after it. The messages that it has taken
-- after the poll are messages that its ports may send, too.
pub record EmitterPolls (plan : Plan) (now : ℕ) (lines after : Lines) : Type 0 where
  pub old : Tx
  pub new : Tx
  pub ready : IsReady old
  pub of : old.plan ≡ plan
  pub before : old.lines ≡ lines
  pub afterwards : new.lines ≡ after
  pub run : IsRun now old.links new.links old.lines new.lines
  pub allowed : AreQueued plan (taken_in new.links)

-- a poll of a drain of a plan
pub record DrainPolls (plan : Plan) (now : ℕ) (lines after : Lines) : Type 0 where
  pub accepted : Accepted
  pub allowed : AreQueued plan accepted
  pub run : IsDrained now plan accepted lines after

-- polls at these times, each of this kind; between them nothing is transmitted
abbrev pub ArePolls : (ℕ → (lines after : Lines) → Type 0) → List ℕ → (lines after : Lines) → Type 0
ArePolls Polls [] lines after = after ≡ lines
ArePolls Polls (now ∷ moments) lines after = (mid : Lines) × Polls now lines mid × ArePolls Polls moments mid after

-- polls of an emitter or of its drain
abbrev pub AreRuns : Plan → List ℕ → (lines after : Lines) → Type 0
AreRuns plan = ArePolls (λ now lines after. EmitterPolls plan now lines after ⊎ DrainPolls plan now lines after)

-- each time follows the one before it, the first a start, within the lateness
abbrev pub ComeWithin : ℕ → ℕ → List ℕ → Type 0
ComeWithin late before [] = Unit {0}
ComeWithin late before (now ∷ moments) = (before ≤ now) × (now ≤ before + late) × ComeWithin late now moments

abbrev pub latest_of : ℕ → List ℕ → ℕ
latest_of before [] = before
latest_of before (now ∷ moments) = latest_of now moments

-- The next fragment of the message of entry `first` is in the stream, and was released by the bound.
pub record ComesBy (stream : List Entry) (first : Entry) (bound : ℕ) : Type 0 where
  pub between : List Entry
  pub next : Entry
  pub are : AreNeighbours stream first between next
  pub soon : next.at ≤ bound

-- the longest time between two neighbouring fragments of a message on link `k`, in microseconds: a BAG and a lateness
-- for each of its sub-VLs that has a port
abbrev pub next_wait : ℕ → Plan → ℕ → ℕ
next_wait late plan k =
    used_sub_vls (link_plan_at plan.links k) plan.ports * (bag_micros (link_plan_at plan.links k).bag + late)

-- The last entry of a link's stream belongs to a sub-VL with a port, and has the flag of more fragments. Polls follow
-- it within the lateness, and continue until the bound; after them a network that carries the link is up. Then the next
-- fragment was released by the bound of the link, and so by the plan's.
abbrev pub NextInRun : Type 0
NextInRun = (plan : Plan) (moments : List ℕ) (lines after : Lines) (k late : ℕ) (earlier : List Entry) (first : Entry)
    → IsPlan plan → k < length plan.links → stream_at plan k lines ≡ earlier ++ first ∷ [] → more_in first.frame ≡ true
    → has_port (link_plan_at plan.links k) plan.ports (sub_in first.frame) ≡ true → AreRuns plan moments lines after
    → any_up (link_plan_at plan.links k).networks after ≡ true → ComeWithin late first.at moments
    → first.at + next_wait late plan k ≤ latest_of first.at moments
    → ComesBy (stream_at plan k after) first (first.at + next_wait late plan k)
    × ComesBy (stream_at plan k after) first (first.at + longest_wait late plan.links)
