-- The turns of an emitter's links, in order: while its ports send, and for the messages left once they are taken back.
use Rattle.std.specs.Prelude.{ℕ, ◌≡◌, List, length, true, ◌<◌}
use Rattle.redundant_mux.specs.Lines.{Lines, any_up, log, Entry}
use Rattle.vl_link.specs.declared.link.Served.{Served}
use Rattle.afdx_legal.specs.Streams.{link_stream}
use Rattle.vl_link.specs.Turn.{AreTurns, TurnView, Turn}
use Rattle.vl_link.specs.Links.{LinkState, link_at, pace_of, Serves, IsSameLink, Held, held_at, sent_by}
use Rattle.vl_link.specs.Kept.{IsLinkTied}
use Rattle.afdx_plan.specs.Config.{Plan, link_plan_at}
use Rattle.afdx_plan.specs.Plan.{bag_micros}
use Rattle.afdx_plan.specs.declared.link_plan.LinkPlan.{LinkPlan}
use Rattle.afdx_frame.specs.Fragments.{Sent}
use Rattle.vl_shaper.specs.Pace.{Pace}
use Rattle.vl_link.specs.Seen.{IsKnownWhole, known_of}
use Rattle.afdx_legal.specs.Legal.{Accepted}
use Rattle.afdx_legal.specs.Accepted.{IsReleased, Owes}

-- One turn of a link, with the regulation by its stream. Its sub-VLs are tied to their streams
-- before the turn if a network that carries it is up.
pub record IsTurn (now : ℕ) (link new : LinkState)
    (lines after : Lines) (did : Served) : Type 0 where
  pub same : IsSameLink link new
  pub tied : any_up link.plan.networks lines ≡ true → IsLinkTied link (log lines)
  pub serves : Serves now link.plan
      (pace_of link.pace.gap link.pace.sub_vls (link_stream link.plan.id.0 (log lines)))
      link.subs new.subs lines after did

-- one turn of the link at a place
abbrev pub IsTurnAt : ℕ → (links news : List LinkState) → ℕ → (lines after : Lines) → Served → Type 0
IsTurnAt now links news k lines after did =
    IsTurn now (link_at links k) (link_at news k) lines after did

-- the links have their turns in order
pub record IsRun (now : ℕ) (links news : List LinkState) (lines after : Lines) : Type 0 where
  pub count : length news ≡ length links
  pub turns : AreTurns (IsTurnAt now links news) 0 (length links) lines after

-- each queue is gathered
abbrev pub AreGathered : List LinkState → Type 0
AreGathered links = (k s : ℕ) → k < length links → s < length (link_at links k).subs
    → IsKnownWhole (held_at (link_at links k).subs s).seen

-- the accepted messages of a sub-VL
abbrev pub accepted_by : Held → List Sent
accepted_by held = sent_by held.ports (known_of held.seen)

-- the accepted list of each sub-VL
abbrev pub accepted_in : List LinkState → Accepted
accepted_in links k s = accepted_by (held_at (link_at links k).subs s)

-- the regulation of a link of the plan, by its stream
abbrev pub pace_in : LinkPlan → List Entry → Pace
pace_in link log = pace_of (bag_micros link.bag) link.sub_vls (link_stream link.id.0 log)

-- a turn over accepted lists: a sub-VL has something if one of its accepted messages isn't wholly released
abbrev pub accepted_view : ℕ → LinkPlan → (ℕ → List Sent) → List Entry → TurnView
accepted_view end_system link accepted log = record {
  lacks = IsReleased end_system link accepted log;
  rests = λ s. Unit {0};
  gives = λ s frame. Owes end_system link accepted log s;
}

-- one turn of a link, by its accepted lists
abbrev pub Drains : ℕ → ℕ → LinkPlan → (ℕ → List Sent) → (lines after : Lines) → Served → Type 0
Drains now end_system link accepted lines after did =
    Turn now link (pace_in link (log lines))
    (accepted_view end_system link accepted (log lines)) lines after did

-- one turn of the link of a plan at a place
abbrev pub DrainsAt : ℕ → Plan → Accepted → ℕ → (lines after : Lines) → Served → Type 0
DrainsAt now plan accepted k lines after did =
    Drains now plan.end_system (link_plan_at plan.links k) (accepted k) lines after did

-- the links of a plan have their turns in order
abbrev pub IsDrained : ℕ → Plan → Accepted → (lines after : Lines) → Type 0
IsDrained now plan accepted lines after =
    AreTurns (DrainsAt now plan accepted) 0 (length plan.links) lines after
