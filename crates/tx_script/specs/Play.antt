-- A run of lines, with answers of queues that only the run knows.
use Rattle.std.specs.Prelude.{◌≡◌, ◌<◌, ◌≤◌, ℕ, ◌+◌, ◌-◌, nat_lt, nat_eq, ◌==◌, if◌then◌else◌, List, [], ◌∷◌, ◌++◌, length, position, All, Option, Some, None, zero, suc, ◌&&◌, Bool}
use Rattle.afdx_plan.specs.Config.{Plan, port_plan_at, link_plan_at}
use Rattle.afdx_plan.specs.declared.link_plan.LinkPlan.{LinkPlan}
use Rattle.afdx_plan.specs.declared.port_plan.PortPlan.{PortPlan}
use Rattle.afdx_frame.specs.declared.net.Net.TheVariants.{A, B}
use Rattle.afdx_tx.specs.declared.fault.Refusal.{Refusal as SendRefusal}
use Rattle.afdx_tx.specs.declared.fault.Refusal.TheVariants as Why
use Rattle.afdx_tx.specs.Calls.{IsSubAt}
use Rattle.afdx_tx.specs.Ports.{length_refusal}
use Rattle.afdx_legal.specs.Legal.{Accepted as Sents}
use Rattle.afdx_legal.specs.Accepted.{AreAllowed, port_messages}
use Rattle.tx_script.specs.EndSystem.{EndSystem, HasPolled, fresh, handed}
use Rattle.script_text.specs.Meaning.{meaning_of, counted}
use Rattle.script_text.specs.Transcript.{note_of, streams}
use Rattle.script_text.specs.declared.line_meaning.Line.{Line}
use Rattle.script_text.specs.declared.line_meaning.Line.TheVariants.{Send, At, Close, Nothing}
use Rattle.script_text.specs.declared.faults.Refusal.{Refusal}
use Rattle.script_text.specs.declared.faults.Refusal.TheVariants.{Empty, TooLong, Closed, Exhausted, Full, NoPort, NoSub, TimeBack}
use Rattle.script_text.specs.declared.transcript.Outcome.{Outcome}
use Rattle.script_text.specs.declared.transcript.Outcome.TheVariants as Became
use Rattle.script_text.specs.declared.transcript.Summary.{Summary as Sums}

-- a queue takes a message, is closed or is full, a poll leaves the end system so, or a close reports its
-- total
pub data Answer : Type 0 where
  takes : Answer
  closes : Answer
  fills : Answer
  leaves : EndSystem → Answer
  tells : ℕ → Answer

-- the end system that a poll leaves; the same if the answer is no poll's
abbrev pub left_by : EndSystem → Answer → EndSystem
left_by es (leaves new) = new
left_by es _ = es

-- the total that a close reports; 0 if the answer is no close's
abbrev pub told_by : Answer → ℕ
told_by (tells total) = total
told_by _ = 0

-- A possible answer to a line. A queue may take a message, be closed or be full. The total that a close reports is
-- checked at the end of a run (`AreTotals`).
abbrev pub IsAnswer : EndSystem → Line → Answer → Type 0
IsAnswer es (At moment) answer = es.moment ≤ moment → HasPolled moment es (left_by es answer)
IsAnswer es _ answer = Unit {0}

-- the place of a port in the plan, by its identifier
abbrev pub place_of : Plan → ℕ → Option ℕ
place_of plan id = position (λ (port : PortPlan). port.id.0 == id) plan.ports

-- a queue's answer; full if the answer is no queue's
abbrev pub queued : Answer → Outcome
queued takes = Became.Accepted
queued closes = Became.Refused Closed
queued _ = Became.Refused Full

-- the name of a port's refusal
abbrev pub script_refusal : SendRefusal → Refusal
script_refusal Why.Empty = Empty
script_refusal Why.TooLong = TooLong
script_refusal Why.Closed = Closed
script_refusal Why.Exhausted = Exhausted
script_refusal Why.Full = Full

abbrev pub passed_on : Option SendRefusal → Answer → Outcome
passed_on (Some why) answer = Became.Refused (script_refusal why)
passed_on None answer = queued answer

-- the outcome of a message for the port at a place
abbrev pub sent_to : Plan → Option ℕ → List ℕ → Answer → Outcome
sent_to plan None bytes answer = Became.Refused NoPort
sent_to plan (Some place) bytes answer =
    passed_on (length_refusal (port_plan_at plan.ports place) (length bytes)) answer

-- the place of a link in the plan, by its identifier
abbrev pub link_of : Plan → ℕ → Option ℕ
link_of plan id = position (λ (link : LinkPlan). link.id.0 == id) plan.links

-- the outcome of the close of a sub-VL of the link at a place
abbrev pub closed_at : Plan → Option ℕ → ℕ → Answer → Outcome
closed_at plan None sub answer = Became.Refused NoSub
closed_at plan (Some place) sub answer =
    if nat_lt sub (link_plan_at plan.links place).sub_vls then Became.Closed (told_by answer)
    else Became.Refused NoSub

-- the outcome of a line
abbrev pub outcome_of : EndSystem → Line → Answer → Outcome
outcome_of es (Send port bytes) answer = sent_to es.plan (place_of es.plan port) bytes answer
outcome_of es (At moment) answer =
    if nat_lt moment es.moment then Became.Refused TimeBack
    else Became.Released (length (left_by es answer).log - length es.log)
outcome_of es (Close vl sub) answer = closed_at es.plan (link_of es.plan vl) sub answer
outcome_of es Nothing answer = Became.Quiet

-- the end system after it
abbrev pub after : EndSystem → Line → Answer → EndSystem
after es (At moment) answer = if nat_lt moment es.moment then es else left_by es answer
after es _ answer = es

-- the messages of each port that were accepted, by its place in the plan
abbrev pub Messages : Type 0
Messages = ℕ → List (List ℕ)

-- the message, if it was accepted
abbrev pub added : Outcome → List ℕ → List (List ℕ)
added Became.Accepted bytes = bytes ∷ []
added _ bytes = []

-- more messages of the port at a place, if there is one
abbrev pub with_messages : Option ℕ → List (List ℕ) → Messages → Messages
with_messages None more accepted = accepted
with_messages (Some place) more accepted =
    λ other. accepted other ++ (if nat_eq other place then more else [])

-- the accepted messages after a line
abbrev pub accepted_after : EndSystem → Line → Answer → Messages → Messages
accepted_after es (Send port bytes) answer accepted =
    with_messages (place_of es.plan port) (added (outcome_of es (Send port bytes) answer) bytes) accepted
accepted_after es _ answer accepted = accepted

-- a line, and the answer of the queues
pub record AnsweredLine : Type 0 where
  pub line : List ℕ
  pub answer : Answer

-- the state after some lines
pub record Play : Type 0 where
  pub es : EndSystem
  pub accepted : Messages
  pub count : ℕ
  pub notes : List ℕ
  pub summary : Sums

-- the state after one more line
abbrev pub play_line : AnsweredLine → Play → Play
play_line turn st = record {
  es = after st.es (meaning_of turn.line) turn.answer;
  accepted = accepted_after st.es (meaning_of turn.line) turn.answer st.accepted;
  count = st.count + 1;
  notes = st.notes ++ note_of (st.count + 1) (outcome_of st.es (meaning_of turn.line) turn.answer);
  summary = counted (outcome_of st.es (meaning_of turn.line) turn.answer) st.summary;
}

-- the state after some lines, the latest first
abbrev pub play : Plan → List AnsweredLine → Play
play plan [] = record {
  es = fresh plan;
  accepted = λ place. [];
  count = 0;
  notes = [];
  summary = record { accepted = 0; refused = 0; frames = 0 };
}
play plan (turn ∷ before) = play_line turn (play plan before)

-- the whole text: the notes, the lines of network A's frames, and the lines of B's
abbrev pub transcript : Play → List ℕ
transcript st = st.notes ++ streams (handed A st.es) (handed B st.es)

-- the messages that polls found of each sub-VL
abbrev pub found : EndSystem → Sents
found es k s = (es.subs k s).taken

-- Polls found the messages that were sent: each belongs to a port of the sub-VL, and the messages found of each port
-- are the first messages of its accepted lines.
pub record FindsFirst (st : Play) : Type 0 where
  pub own : AreAllowed st.es.plan (found st.es)
  pub first : (place : ℕ) → place < length st.es.plan.ports
      → (more : List (List ℕ)) × (st.accepted place ≡ port_messages st.es.plan (found st.es) place ++ more)

-- a port sends over this link, on the sub-VL of this index
abbrev pub is_on : ℕ → ℕ → PortPlan → Bool
is_on vl sub port = nat_eq port.vl.0 vl && nat_eq port.sub sub

-- the number of accepted messages, on a sub-VL, of the first `many` ports of a plan
abbrev pub accepted_among : Plan → Messages → (vl sub many : ℕ) → ℕ
accepted_among plan accepted vl sub zero = 0
accepted_among plan accepted vl sub (suc k) =
    accepted_among plan accepted vl sub k
    + (if is_on vl sub (port_plan_at plan.ports k) then length (accepted k) else 0)

-- a line closes the sub-VL of this index, of the link at this place
abbrev pub ClosesAt : Plan → Line → (place sub : ℕ) → Type 0
ClosesAt plan (Close vl closed) place sub = IsSubAt plan vl sub place × (sub ≡ closed)
ClosesAt plan _ place sub = ⊥

-- the total that a close reports is the number of messages accepted on its sub-VL in the whole run
abbrev pub IsTotal : Play → AnsweredLine → Type 0
IsTotal st turn = (place sub : ℕ) → ClosesAt st.es.plan (meaning_of turn.line) place sub
    → told_by turn.answer ≡ accepted_among st.es.plan st.accepted (link_plan_at st.es.plan.links place).id.0 sub
    (length st.es.plan.ports)

-- each close of the lines of a run reports the total of its sub-VL
abbrev pub AreTotals : Play → List AnsweredLine → Type 0
AreTotals st turns = All (IsTotal st) turns
