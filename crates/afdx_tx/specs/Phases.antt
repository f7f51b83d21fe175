-- An emitter before and after its ports are taken back, and the properties of all its links on which its parts rely.
use Rattle.std.specs.Prelude.{ℕ, ◌≡◌, ◌<◌, ◌≤◌, List, Bool, true, false, length, MatchBool}
use Rattle.std.specs.List.{AllWithin, HoldsAt}
use Rattle.afdx_frame.specs.declared.net.Net.TheVariants.{A}
use Rattle.redundant_mux.specs.Lines.{Lines, BothEndure, IsMirrored, log}
use Rattle.afdx_legal.specs.Accepted.{AreQueued, AreAllowed}
use Rattle.afdx_legal.specs.Legal.{AreKnown, IsLegal}
use Rattle.afdx_legal.specs.Streams.{AreOwnStreams, TakeTurns}
use Rattle.vl_link.specs.Calls.{TellsLinkDone}
use Rattle.vl_link.specs.Links.{LinkState, link_at}
use Rattle.vl_link.specs.Turn.{AreTurns}
use Rattle.afdx_tx.specs.declared.turns.Release.{Release}
use Rattle.afdx_tx.specs.Run.{accepted_in, IsTurnAt, AreGathered, IsDrained, IsRun}
use Rattle.afdx_tx.specs.Emitter.{Tx, plans, AreLinks, AreKept, AreCarried, AreWhole, AreServedBy, AreTied, HaveOwnItems, IsSamePlan, taken_in, AreReceiving, queues_in, total_in}
use Rattle.afdx_tx.specs.Report.{IsTold}
use Rattle.afdx_plan.specs.Config.{Plan}

-- The properties of each emitter.
pub record Conforms (tx : Tx) : Type 0 where
  -- the transmitted frames are legal for the messages taken, and so for the accepted ones
  pub legal : IsLegal tx.plan (taken_in tx.links) tx.lines.a tx.lines.b
  pub legal_accepted : IsLegal tx.plan (accepted_in tx.links) tx.lines.a tx.lines.b
  -- the sub-VLs of a link take turns
  pub turns : TakeTurns tx.plan tx.lines.a tx.lines.b
  -- the messages belong to ports of their sub-VL
  pub taken : AreQueued tx.plan (taken_in tx.links)
  pub accepted : AreQueued tx.plan (accepted_in tx.links)
  -- the messages taken of a link that lost no frame are transmitted or left to send
  pub tied : AreTied tx.links (log tx.lines)
  -- each network's list is its part of a beginning of the log
  pub mirrored : IsMirrored tx.lines
  -- each link's stream is the longer of its two
  pub streams : AreOwnStreams tx.plan (log tx.lines) tx.lines.a tx.lines.b

-- the invariant of turns
pub record IsSteady (now : ℕ) (old links : List LinkState) (lines : Lines) : Type 0 where
  pub same : IsSamePlan old links
  pub each : AreLinks links
  pub kept : AreKept links (log lines)
  pub later : AreServedBy now links
  pub known : AreKnown (plans old) A (log lines)
  pub carried : AreCarried (plans old) lines.logged
  pub items : HaveOwnItems links

-- The first i links had their turns, and the others are unchanged. At most i releases are reported.
-- A network is down only if it was or failed.
pub record IsPolling (now i : ℕ) (old links : List LinkState)
    (before lines : Lines) (released : List Release) : Type 0 where
  pub steady : IsSteady now old links lines
  pub turns : AreTurns (IsTurnAt now old links) 0 i before lines
  pub rest : (k : ℕ) → i ≤ k → link_at links k ≡ link_at old k
  pub whole : AreWhole links lines
  pub told : IsTold now released before lines
  pub room : length released ≤ i
  pub stays_down : BothEndure before lines

-- true if all links are done, false if one isn't
abbrev pub TellsAllDone : Bool → List LinkState → Type 0
TellsAllDone done links = MatchBool done (AllWithin (TellsLinkDone true) links 0 (length links))
    ((k : ℕ) × (k < length links) × HoldsAt (TellsLinkDone false) links k)

-- the ports of each queue may still send, or all accepted messages are known, and their ports may send them
abbrev pub IsInPhase : Bool → Plan → List LinkState → Type 0
IsInPhase false plan links = AreReceiving links
IsInPhase true plan links = AreGathered links × AreAllowed plan (accepted_in links)

-- the messages belong to ports of their sub-VL, which may send them once the ports are gathered
abbrev pub AreOfPorts : Bool → Tx → Type 0
AreOfPorts false tx = AreQueued tx.plan (taken_in tx.links)
AreOfPorts true tx = AreAllowed tx.plan (accepted_in tx.links)

-- the queues and their totals are the same
pub record KeepsQueues (old new : Tx) : Type 0 where
  pub queues : queues_in new.links ≡ queues_in old.links
  pub totals : (k s : ℕ) → total_in new.links k s ≡ total_in old.links k s

-- the messages still to send: the messages in the same queues, or the same accepted ones once the ports are gathered
abbrev pub KeepsMessages : Bool → (old new : Tx) → Type 0
KeepsMessages false old new = KeepsQueues old new
KeepsMessages true old new = accepted_in new.links ≡ accepted_in old.links

-- the links have their turns in order
abbrev pub Runs : Bool → ℕ → (old new : Tx) → Type 0
Runs false now old new = IsRun now old.links new.links old.lines new.lines
Runs true now old new = IsDrained now old.plan (accepted_in old.links) old.lines new.lines

-- A poll leaves an emitter lawful, whether or not a network was up.
pub record StaysLawful (gathered : Bool) (old new : Tx) : Type 0 where
  -- the transmitted frames are legal and take turns
  pub conforms : Conforms new
  -- the messages belong to ports that may send them
  pub allowed : AreOfPorts gathered new
  -- a network is down only if it was or failed
  pub stays_down : BothEndure old.lines new.lines
  -- plan, board and the messages still to send are the same
  pub plan : new.plan ≡ old.plan
  pub board : new.board ≡ old.board
  pub messages : KeepsMessages gathered old new

-- A poll leaves an emitter lawful and in its phase.
pub record KeepsPhase (gathered : Bool) (old new : Tx) : Type 0 where
  pub lawful : StaysLawful gathered old new
  pub phase : IsInPhase gathered new.plan new.links
