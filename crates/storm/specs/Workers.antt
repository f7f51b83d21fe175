-- The messages that the ports send, and the effect of a worker on its port.
use Rattle.std.specs.Prelude.{ℕ, zero, suc, ◌+◌, List, [], ◌∷◌, ◌++◌, ◌≡◌, ◌<◌, ◌≤◌, length, slice_index, slice_index_or}
use Rattle.std.specs.Int.{to_be_bytes, w16, w32}
use Rattle.afdx_plan.specs.Config.{Plan, port_plan_at}
use Rattle.afdx_plan.specs.declared.port_plan.PortPlan.{PortPlan}
use Rattle.subvl_queue.specs.Views.{QueueName}
use Rattle.afdx_tx.specs.Emitter.{Tx}
use Rattle.afdx_tx.specs.Ports.{PortView, IsPortOfTx}

-- a port's message of a number: the port's identifier in two bytes and the number in four, high byte first
abbrev pub message : ℕ → ℕ → List ℕ
message id call = to_be_bytes w16 id ++ to_be_bytes w32 call

-- a port's messages 1 to n
abbrev pub messages_to : ℕ → ℕ → List (List ℕ)
messages_to id zero = []
messages_to id (suc n) = messages_to id n ++ message id (n + 1) ∷ []

-- the messages 1 to n of the port at each place of a plan
abbrev pub own_messages : Plan → ℕ → ℕ → List (List ℕ)
own_messages plan n place = messages_to (port_plan_at plan.ports place).id.0 n

-- a port without its count of slot requests and the states in which these found the queue
pub record Named : Type 0 where
  pub place : ℕ
  pub plan : PortPlan
  pub queue : QueueName
  pub index : ℕ
  pub own : List (List ℕ)

abbrev pub named : PortView → Named
named port = record {
  place = port.place;
  plan = port.plan;
  queue = port.sender.queue;
  index = port.sender.port;
  own = port.sender.own;
}

-- the port with `more` appended to its own list
abbrev pub with_more : PortView → List (List ℕ) → Named
with_more port more = record (named port) { own = port.sender.own ++ more }

-- a port that sent its messages 1 to n more
abbrev pub sent_all : ℕ → PortView → Named
sent_all n port = with_more port (messages_to port.plan.id.0 n)

-- the number of slots that a port requested
abbrev pub asked_by : PortView → ℕ
asked_by port = port.sender.asks

-- the number of slots that a port requested after `turns` turns, one request each
abbrev pub asked_after : ℕ → PortView → ℕ
asked_after turns port = port.sender.asks + turns

-- no number of the first list is above the one at its place in the second
abbrev pub AreAtMost : List ℕ → List ℕ → Type 0
AreAtMost low high = (k : ℕ) → k < length low → slice_index low k ≤ slice_index high k

-- The port of an emitter at a place, which sent exactly its messages 1 to n, and requested at most one slot for each of
-- its turns.
pub record IsSpent (tx : Tx) (n turns place : ℕ) (port : PortView) : Type 0 where
  pub of : IsPortOfTx tx port
  pub at : port.place ≡ place
  pub own : port.sender.own ≡ own_messages tx.plan n place
  pub asks : port.sender.asks ≤ turns

-- All ports of an emitter, in the order of its plan. Each sent exactly its messages 1 to n, within its turns.
pub record AreSpent (tx : Tx) (n turns : ℕ) (ports : List PortView) : Type 0 where
  pub count : length ports ≡ length tx.plan.ports
  pub each : (k : ℕ) (d : PortView) → k < length ports → IsSpent tx n turns k (slice_index_or ports k d)
