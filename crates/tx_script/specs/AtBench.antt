-- An emitter with its ports, as a run of a script holds them, and the end system that it matches.
use Rattle.std.specs.Prelude.{ℕ, ◌≡◌, ◌≤◌, ◌<◌, ◌+◌, ◌++◌, List, length, slice_index_or, All, Some, None}
use Rattle.afdx_plan.specs.Config.{Plan, IsPlan, link_plan_at}
use Rattle.afdx_plan.specs.declared.link_plan.LinkPlan.{LinkPlan}
use Rattle.afdx_frame.specs.Fragments.{Sent}
use Rattle.afdx_frame.specs.declared.net.Net.TheVariants.{A, B}
use Rattle.subvl_queue.specs.Messages.{most_calls}
use Rattle.vl_link.specs.Links.{Held, LinkState, IsLinkOfPlan, held_at, link_at, taken_by}
use Rattle.afdx_legal.specs.Accepted.{AreAllowed}
use Rattle.afdx_tx.specs.Run.{accepted_in}
use Rattle.afdx_tx.specs.Emitter.{Tx, IsFreshTx, taken_in, total_in}
use Rattle.afdx_tx.specs.Gathering.{IsGatheredTx}
use Rattle.afdx_tx.specs.Ports.{PortView, AreOpenedWith, AreFreshPorts, length_refusal}
use Rattle.script_text.specs.Meaning.{meaning_of, HasFew}
use Rattle.script_text.specs.declared.line_meaning.Line.{Line}
use Rattle.script_text.specs.declared.line_meaning.Line.TheVariants.{Nothing}
use Rattle.script_text.specs.declared.transcript.Outcome.{Outcome}
use Rattle.tx_script.specs.EndSystem.{EndSystem, Progress, handed}
use Rattle.tx_script.specs.Play.{Answer, AnsweredLine, IsAnswer, Messages, added, passed_on, outcome_of, after, accepted_after, told_by, ClosesAt}

-- a link is the planned one, and so are its sub-VLs
pub record IsPlannedLink (own : ℕ) (planned : LinkPlan) (link : LinkState) : Type 0 where
  pub plan : link.plan ≡ planned
  pub of : IsLinkOfPlan own planned link.pace link.subs

-- the messages taken from a sub-VL's queue, and the frames that are left of the last one
abbrev pub progress_of : Held → Progress
progress_of held = record { taken = taken_by held; left = held.left }

-- an emitter has the plan, its sub-VLs have the same messages taken and fragments left, and both networks hold the
-- frames sent to them
pub record MatchesTx (es : EndSystem) (tx : Tx) : Type 0 where
  pub plan : tx.plan ≡ es.plan
  pub count : length tx.links ≡ length es.plan.links
  pub planned : (k : ℕ) → k < length es.plan.links
      → IsPlannedLink es.plan.end_system (link_plan_at es.plan.links k) (link_at tx.links k)
  pub subs : es.subs ≡ (λ k s. progress_of (held_at (link_at tx.links k).subs s))
  pub logged : tx.lines.logged ≡ es.log
  pub a : tx.lines.a ≡ handed A es
  pub b : tx.lines.b ≡ handed B es
  pub moment : tx.moment ≡ es.moment

-- an emitter, and its ports in the order of the plan
pub record AtBench : Type 0 where
  pub tx : Tx
  pub ports : List PortView

-- The ports of an emitter are in the order of its plan, which is valid, and none has used up
-- its calls.
pub record IsAtHand (tx : Tx) (ports : List PortView) : Type 0 where
  pub valid : IsPlan tx.plan
  pub many : length ports ≡ length tx.plan.ports
  pub opened : AreOpenedWith tx ports
  pub placed : (place : ℕ) (d : PortView) → place < length ports
      → (slice_index_or ports place d).place ≡ place
  pub calls : All (λ (port : PortView). port.sender.calls ≡ most_calls) ports

-- no port requested more slots
abbrev pub HaveAsked : ℕ → List PortView → Type 0
HaveAsked count ports = All (λ (port : PortView). port.sender.asks ≤ count) ports

-- nothing was sent or polled yet
pub record IsFreshBench (config : Plan) (bench : AtBench) : Type 0 where
  pub tx : IsFreshTx config bench.tx
  pub ports : AreFreshPorts bench.tx bench.ports

-- the messages of each port that were accepted are its own list
abbrev pub HaveSent : Messages → List PortView → Type 0
HaveSent accepted ports = (place : ℕ) (d : PortView) → place < length ports
    → (slice_index_or ports place d).sender.own ≡ accepted place

-- an emitter and its ports match an end system and the messages that were accepted
pub record Matches (accepted : Messages) (es : EndSystem) (bench : AtBench) : Type 0 where
  pub emitter : MatchesTx es bench.tx
  pub own : HaveSent accepted bench.ports

-- A port sent a message. The queue's answer decides the outcome. Of the port only the sender's messages and its count
-- of requests change; it requested one slot at most.
pub record Sends (old : PortView) (bytes : List ℕ) (new : PortView) (outcome : Outcome) : Type 0 where
  pub answer : Answer
  pub is : outcome ≡ passed_on (length_refusal old.plan (length bytes)) answer
  pub own : new.sender.own ≡ old.sender.own ++ added outcome bytes
  pub place : new.place ≡ old.place
  pub plan : new.plan ≡ old.plan
  pub queue : new.sender.queue ≡ old.sender.queue
  pub index : new.sender.port ≡ old.sender.port
  pub calls : new.sender.calls ≡ old.sender.calls
  pub asks : new.sender.asks ≤ old.sender.asks + 1

-- the plan is the same, a closed queue stays closed with the same total, and a line changes no total but the total of
-- the queue that it closes
pub record ClosesOnly (line : Line) (old new : Tx) : Type 0 where
  pub plan : new.plan ≡ old.plan
  pub kept : (place sub total : ℕ) → total_in old.links place sub ≡ Some total
      → total_in new.links place sub ≡ Some total
  pub only : (place sub : ℕ) → (ClosesAt old.plan line place sub → ⊥)
      → total_in new.links place sub ≡ total_in old.links place sub

-- no queue is closed but the queues that these lines close
abbrev pub OthersAreOpen : Tx → List AnsweredLine → Type 0
OthersAreOpen tx turns = (place sub : ℕ)
    → All (λ (turn : AnsweredLine). ClosesAt tx.plan (meaning_of turn.line) place sub → ⊥) turns
    → total_in tx.links place sub ≡ None

-- the total that a close reported is the total of its sub-VL's queue
abbrev pub TellsTotal : Tx → Line → Answer → Type 0
TellsTotal tx line answer = (place sub : ℕ) → ClosesAt tx.plan line place sub
    → total_in tx.links place sub ≡ Some (told_by answer)

-- the total that each close among some lines reported is the total of its sub-VL's queue
abbrev pub AreTold : Tx → List AnsweredLine → Type 0
AreTold tx turns = All (λ (turn : AnsweredLine). TellsTotal tx (meaning_of turn.line) turn.answer) turns

-- a line was obeyed, at a bench that matched these
pub record ObeysAt (line : Line) (accepted : Messages) (es : EndSystem) (bench : AtBench)
    (outcome : Outcome) : Type 0 where
  pub answer : Answer
  pub may : IsAnswer es line answer
  pub is : outcome ≡ outcome_of es line answer
  pub told : TellsTotal bench.tx line answer
  pub matches : Matches (accepted_after es line answer accepted) (after es line answer) bench

-- a line was obeyed, whatever the bench matched before
pub record Obeys (line : Line) (old new : AtBench) (outcome : Outcome) : Type 0 where
  pub ok : (accepted : Messages) (es : EndSystem) → Matches accepted es old → ObeysAt line accepted es new outcome
  pub few : HasFew outcome
  pub asked : (count : ℕ) → HaveAsked count old.ports → HaveAsked (count + 1) new.ports
  pub closes : ClosesOnly line old.tx new.tx

-- the ports sent nothing and nothing was closed, but more may have been taken
pub record OnlyTakes (old new : AtBench) : Type 0 where
  pub ports : new.ports ≡ old.ports
  pub closes : ClosesOnly Nothing old.tx new.tx
  pub grown : (k s : ℕ) → k < length old.tx.links
      → (more : List Sent) × (taken_in new.tx.links k s ≡ taken_in old.tx.links k s ++ more)

-- the ports of a bench were taken back, and all that was accepted is known
pub record IsGathered (bench : AtBench) : Type 0 where
  pub hand : IsAtHand bench.tx bench.ports
  pub drain : Tx
  pub gathers : IsGatheredTx bench.tx bench.ports drain
  pub allowed : AreAllowed drain.plan (accepted_in drain.links)
