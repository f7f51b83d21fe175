-- Obeying a line that sends a message.
use Rattle.tx_script.proofs.Names.{ℕ, ◌≡◌, ◌≢◌, ◌≤◌, ◌<◌, ◌+◌, ◌==◌, inl, inr, List, [], length, set, get_or, refl, arith, append-nil, Option, Some, None, eq-eqb, position-Some, Plan, port_plan_at, PortPlan, SenderView, IsRefused, Tx, PortView, Refuses, QueueRefuses, length_refusal, Line, Send, Refusal, Empty, TooLong, Closed, Full, NoPort, Outcome, HasFew, AtBench, IsAtHand, Matches, Sends, Obeys, ObeysAt, EndSystem, Answer, Messages, takes, closes, fills, place_of, passed_on, queued, script_refusal, outcome_of, QueueWhy, SendRefusal}
use Rattle.subvl_queue.specs.declared.sender.Why.TheVariants as Queue
use Rattle.afdx_tx.specs.declared.fault.Refusal.TheVariants as Why
use Rattle.script_text.specs.declared.transcript.Outcome.TheVariants as Became
use Rattle.tx_script.proofs.Matched.{sent_at_hand, asked_more, have_sent, same_totals}

-- a sender but for its counts of requests and of loads of the closed flag, and what it found
abbrev asked_so : SenderView → SenderView → SenderView
asked_so old new = record old { asks = new.asks; load = new.load; glances = new.glances; shut = new.shut }

-- a port refused a message, for its length or by its queue
refused_by : (old : PortView) (sender : SenderView) (bytes : List ℕ) (answer : Answer) (refusal : Refusal)
    → passed_on (length_refusal old.plan (length bytes)) answer ≡ Became.Refused refusal
    → sender ≡ asked_so old.sender sender → sender.asks ≤ old.sender.asks + 1
    → Sends old bytes (record old { sender = sender }) (Became.Refused refusal)
refused_by old sender bytes answer refusal is same asks = grind (arith, append-nil)

queue_refused : (old new : PortView) (bytes : List ℕ) (why : QueueWhy) (answer : Answer) (refusal : Refusal)
    → QueueRefuses old (length bytes) why new → queued answer ≡ Became.Refused refusal
    → Sends old bytes new (Became.Refused refusal)
queue_refused old new bytes why answer refusal r is =
    let so = asks why new.sender r.queue in
    rw r.same (refused_by old new.sender bytes answer refusal (grind arith) so.0 so.1)
  where
    asks : (by : QueueWhy) (s : SenderView) → IsRefused old.sender by s
        → (s ≡ asked_so old.sender s) × (s.asks ≤ old.sender.asks + 1)
    asks Queue.Closed s (inl e) = rw e (refl, omega arith)
    asks Queue.Closed s (inr e) = rw e.2 (refl, omega arith)
    asks Queue.Exhausted s e = rw e.1 (refl, omega arith)
    asks Queue.Full s e = rw e.2 (refl, omega arith)

-- A port refused a message.
pub sends_refused : (old new : PortView) (bytes : List ℕ) (why : SendRefusal) → why ≢ Why.Exhausted
    → Refuses old (length bytes) why new → Sends old bytes new (Became.Refused (script_refusal why))
sends_refused old new bytes Why.Empty some r =
    rw r.1 (refused_by old old.sender bytes fills Empty (rw (eq-eqb (length bytes) 0 r.0) refl) refl (omega arith))
sends_refused old new bytes Why.TooLong some r =
    let long : length_refusal old.plan (length bytes) ≡ Some Why.TooLong = grind arith in
    rw r.1 (refused_by old old.sender bytes fills TooLong (rw long refl) refl (omega arith))
sends_refused old new bytes Why.Closed some r = queue_refused old new bytes Queue.Closed closes Closed r refl
sends_refused old new bytes Why.Exhausted some r = absurd (some refl)
sends_refused old new bytes Why.Full some r = queue_refused old new bytes Queue.Full fills Full r refl

-- A line was obeyed that left the bench as it was.
pub obeys_still : (line : Line) (bench : AtBench) (outcome : Outcome) → HasFew outcome
    → ((accepted : Messages) (es : EndSystem) → Matches accepted es bench → ObeysAt line accepted es bench outcome)
    → Obeys line bench bench outcome
obeys_still line bench outcome few ok = grind arith

-- The same of a bench that is this one.
pub at_bench : {line : Line} {old bench new : AtBench} {outcome : Outcome} → old ≡ bench → Obeys line old new outcome
    → Obeys line bench new outcome
at_bench same obeys = grind arith

-- A message for no port.
pub obeys_nowhere : (bench : AtBench) (id : ℕ) (bytes : List ℕ) → place_of bench.tx.plan id ≡ None
    → Obeys (Send id bytes) bench bench (Became.Refused NoPort)
obeys_nowhere bench id bytes none = grind arith

-- a message for the port at a place
obeys_send : (tx : Tx) (ports : List PortView) (id place : ℕ) (d new : PortView) (bytes : List ℕ) (outcome : Outcome)
    → IsAtHand tx ports → place_of tx.plan id ≡ Some place → place < length ports
    → Sends (get_or ports place d) bytes new outcome
    → Obeys (Send id bytes) (record { tx = tx; ports = ports }) (record { tx = tx; ports = set ports place new }) outcome
obeys_send tx ports id place d new bytes outcome h found lt s = record {
  ok = λ accepted es m. record {
    answer = s.answer;
    may = tt;
    is = is es m.emitter.plan;
    told = λ place sub at. absurd at;
    matches = record {
      emitter = m.emitter;
      own = rw (← is es m.emitter.plan, here es m.emitter.plan)
          (have_sent ports place d new bytes outcome lt s accepted m.own);
    };
  };
  few = grind arith;
  asked = asked_more ports place d new bytes outcome lt s;
  closes = grind (arith, same_totals);
}
  where
    here : (es : EndSystem) → tx.plan ≡ es.plan → place_of es.plan id ≡ Some place
    here es plan = rw (← plan) found

    port : (get_or ports place d).plan ≡ port_plan_at tx.plan.ports place
    port = grind arith

    is : (es : EndSystem) → tx.plan ≡ es.plan → outcome ≡ outcome_of es (Send id bytes) s.answer
    is es plan = grind arith

    few : (why : Option SendRefusal) (answer : Answer) → HasFew (passed_on why answer)
    few (Some why) answer = tt
    few None takes = tt
    few None closes = tt
    few None _ = tt

-- A port was found by its identifier and sent a message: the ports stay the bench's, and the line is obeyed.
pub sent_at : (tx : Tx) (ports : List PortView) (id place : ℕ) (port new : PortView) (bytes : List ℕ)
    (outcome : Outcome) (config : Plan) (at : Option ℕ) → IsAtHand tx ports → config ≡ tx.plan
    → at ≡ place_of config id → at ≡ Some place → port ≡ get_or ports place port → Sends port bytes new outcome
    → IsAtHand tx (set ports place new)
    × Obeys (Send id bytes) (record { tx = tx; ports = ports }) (record { tx = tx; ports = set ports place new }) outcome
sent_at tx ports id place port new bytes outcome config at h plan asked some here sends =
    let found : place_of tx.plan id ≡ Some place = rw (← plan, ← asked) some in
    let first = position-Some (λ (p : PortPlan). p.id.0 == id) tx.plan.ports place (port_plan_at [] 0) found in
    let within : place < length ports = omega (arith, first.0, h.many) in
    let its : Sends (get_or ports place port) bytes new outcome = rw (← here) sends in (
      sent_at_hand ports place port new bytes outcome within its tx h,
      obeys_send tx ports id place port new bytes outcome h found within its,
    )
