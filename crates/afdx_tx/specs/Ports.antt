-- Ports. Each sends into the queue of its sub-VL.
use Rattle.std.specs.Prelude.{ℕ, ◌≡◌, ◌<◌, ◌≤◌, List, [], length, take, get_or, slice_index_or, All, Contains, Option, Some, None, nat_lt, nat_eq, if◌then◌else◌}
use Rattle.afdx_plan.specs.Config.{Plan, link_plan_at, port_plan_at, link_place}
use Rattle.afdx_plan.specs.declared.port_plan.PortPlan.{PortPlan}
use Rattle.subvl_queue.specs.Messages.{most_calls}
use Rattle.subvl_queue.specs.Views.{QueueName, SenderView, new_sender, IsPlaced, IsRefused}
use Rattle.subvl_queue.specs.declared.sender.Why.{Why}
use Rattle.subvl_queue.specs.declared.sender.Why.TheVariants.{Closed as QueueClosed, Exhausted as QueueExhausted, Full as QueueFull}
use Rattle.afdx_tx.specs.declared.fault.Refusal.{Refusal}
use Rattle.afdx_tx.specs.declared.fault.Refusal.TheVariants.{Empty, TooLong, Closed, Exhausted, Full}
use Rattle.afdx_tx.specs.Emitter.{Tx, queues_in, greatest_of, ports_of_sub}

-- A port: its place in the plan, its entry there, and its sender.
pub record PortView : Type 0 where
  pub place : ℕ
  pub plan : PortPlan
  pub sender : SenderView

-- the port may send a message of this size
pub record MaySend (port : PortPlan) (size : ℕ) : Type 0 where
  pub some : 1 ≤ size
  pub most : size ≤ port.max

-- the port may send each of its own messages
abbrev pub HasOwnMessages : PortView → Type 0
HasOwnMessages port = All (λ (bytes : List ℕ). MaySend port.plan (length bytes)) port.sender.own

-- the message was accepted, as the last of the port's own
abbrev pub Accepts : PortView → List ℕ → PortView → Type 0
Accepts old bytes new = IsPlaced old.sender bytes new.sender × (new ≡ record old { sender = new.sender })

-- the queue refused a message that the port may send
pub record QueueRefuses (old : PortView) (size : ℕ) (why : Why) (new : PortView) : Type 0 where
  pub may : MaySend old.plan size
  pub queue : IsRefused old.sender why new.sender
  pub same : new ≡ record old { sender = new.sender }

-- The reason that a message of this size was refused, and the port afterwards.
abbrev pub Refuses : PortView → ℕ → Refusal → PortView → Type 0
Refuses old size Empty new = (size ≡ 0) × (new ≡ old)
Refuses old size TooLong new = (old.plan.max < size) × (new ≡ old)
Refuses old size Closed new = QueueRefuses old size QueueClosed new
Refuses old size Exhausted new = QueueRefuses old size QueueExhausted new
Refuses old size Full new = QueueRefuses old size QueueFull new

-- the index of a port among its sub-VL's ports, by its place in the plan
abbrev pub index_of : List PortPlan → ℕ → ℕ
index_of ports place =
    length (ports_of_sub (take place ports) (port_plan_at ports place).vl.0 (port_plan_at ports place).sub)

-- the identity of a sub-VL's queue
abbrev pub queue_at : List (List (Option QueueName)) → ℕ → ℕ → Option QueueName
queue_at queues link sub = get_or (get_or queues link []) sub None

-- the identity of the queue of a port's sub-VL
abbrev pub queue_for : Plan → List (List (Option QueueName)) → PortPlan → Option QueueName
queue_for config queues port = queue_at queues (link_place config port) port.sub

-- A port of a plan over these queues: it has the entry at its place, and a sender of its
-- sub-VL's queue, with its index there.
pub record BelongsTo (config : Plan) (queues : List (List (Option QueueName)))
    (port : PortView) : Type 0 where
  pub within : port.place < length config.ports
  pub plan : port.plan ≡ port_plan_at config.ports port.place
  pub queue : queue_for config queues port.plan ≡ Some port.sender.queue
  pub index : port.sender.port ≡ index_of config.ports port.place

-- a port of this emitter
abbrev pub IsPortOfTx : Tx → PortView → Type 0
IsPortOfTx tx port = BelongsTo tx.plan (queues_in tx.links) port

-- each port of the list belongs to this emitter
abbrev pub AreOpenedWith : Tx → List PortView → Type 0
AreOpenedWith tx ports = All (IsPortOfTx tx) ports

-- a new sender of the queue, with this index
pub record IsFreshSender (queue : Option QueueName) (capacity most index : ℕ)
    (sender : SenderView) : Type 0 where
  pub of : queue ≡ Some sender.queue
  pub is : sender ≡ new_sender sender.queue capacity most most_calls index

-- the port at this place, new
pub record IsFreshPort (config : Plan) (queues : List (List (Option QueueName)))
    (place : ℕ) (port : PortView) : Type 0 where
  pub at : port.place ≡ place
  pub plan : port.plan ≡ port_plan_at config.ports place
  pub sender : IsFreshSender (queue_for config queues port.plan)
      (link_plan_at config.links (link_place config port.plan)).capacity
      (greatest_of (ports_of_sub config.ports port.plan.vl.0 port.plan.sub))
      (index_of config.ports place) port.sender

-- the ports of a plan, new, in its order
pub record ArePortsOf (config : Plan) (queues : List (List (Option QueueName)))
    (ports : List PortView) : Type 0 where
  pub count : length ports ≡ length config.ports
  pub each : (k : ℕ) (d : PortView) → k < length config.ports
      → IsFreshPort config queues k (slice_index_or ports k d)

-- the ports of this emitter, new
abbrev pub AreFreshPorts : Tx → List PortView → Type 0
AreFreshPorts tx ports = ArePortsOf tx.plan (queues_in tx.links) ports

-- the port at this place is in the list
pub record HasPlace (ports : List PortView) (place : ℕ) : Type 0 where
  pub port : PortView
  pub inside : Contains ports port
  pub at : port.place ≡ place

-- the port at each of `many` places is in the list
abbrev pub HasEveryPlace : ℕ → List PortView → Type 0
HasEveryPlace many ports = (place : ℕ) → place < many → HasPlace ports place

-- the port at one of `many` places isn't in the list
abbrev pub LacksPlace : ℕ → List PortView → Type 0
LacksPlace many ports = (place : ℕ) × (place < many) × (HasPlace ports place → ⊥)

-- a port's reason for its queue's refusal
abbrev pub refusal_of : Why → Refusal
refusal_of QueueClosed = Closed
refusal_of QueueExhausted = Exhausted
refusal_of QueueFull = Full

-- The reason that a port refuses a message by its length, whatever its queue holds: it is empty, or
-- it is over the port's greatest message.
abbrev pub length_refusal : PortPlan → ℕ → Option Refusal
length_refusal port size =
    if nat_eq size 0 then Some Empty
    else if nat_lt port.max size then Some TooLong
    else None
