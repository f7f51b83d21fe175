-- The taking end of a sub-VL's queue. A message is a pair of its port's index and its bytes.
use Rattle.std.specs.Prelude.{ℕ, ◌≡◌, List, [], ◌∷◌, ◌++◌, length, Bool, true, false, Option, Some, None}
use Rattle.subvl_queue.specs.Views.{QueueName, ReceiverView, GatheredView, looked, after_take, accepted_of, HasAt, HaveRows}

-- a receiver whose ports may still send, or all ends of the queue, with its messages known whole
pub data Seen : Type 0 where
  receiving : ReceiverView → Seen
  gathered : GatheredView → Seen

-- the messages taken so far, in order
abbrev pub taken_of : Seen → List (ℕ × List ℕ)
taken_of (receiving r) = r.taken
taken_of (gathered g) = g.taken

-- the greatest length of a message
abbrev pub most_of : Seen → ℕ
most_of (receiving r) = r.most
most_of (gathered g) = g.most

-- the number of the queue's ports
abbrev pub ports_of : Seen → ℕ
ports_of (receiving r) = r.ports
ports_of (gathered g) = g.ports

-- the identity of a receiver's queue
abbrev pub queue_of : Seen → Option QueueName
queue_of (receiving r) = Some r.queue
queue_of (gathered g) = None

-- the total of a closed queue that isn't gathered
abbrev pub total_of : Seen → Option ℕ
total_of (receiving r) = r.total
total_of (gathered g) = None

-- ports may still send
abbrev pub IsReceiving : Seen → Type 0
IsReceiving (receiving r) = Unit {0}
IsReceiving (gathered g) = ⊥

-- the accepted messages are known whole
abbrev pub IsKnownWhole : Seen → Type 0
IsKnownWhole (receiving r) = ⊥
IsKnownWhole (gathered g) = Unit {0}

-- all ends of a queue without ports
abbrev pub nothing_seen : Seen
nothing_seen = gathered (record { most = 0; ports = 0; taken = []; left = [] })

-- The result of a poll, which agrees with what the receiver heard: the next message, if the receiver heard of it, was
-- found. With one sender each message that the receiver heard of has its index as its place.
pub record Heeds (r : ReceiverView) (hit : Option (ℕ × List ℕ)) : Type 0 where
  pub heard : (item : ℕ × List ℕ) → HasAt r.heard (length r.taken) item → hit ≡ Some item
  pub alone : r.ports ≡ 1 → HaveRows r.heard

-- a poll that finds nothing ready; if the messages are known whole, none is left
abbrev pub FindsNothing : (old new : Seen) → Type 0
FindsNothing (receiving old) new = (new ≡ receiving (looked old)) × Heeds old None
FindsNothing (gathered old) new = (old.left ≡ []) × (new ≡ gathered old)

-- a poll that finds and takes this message; if the messages are known whole, it is the next
abbrev pub Finds : (old : Seen) → ℕ × List ℕ → (new : Seen) → Type 0
Finds (receiving old) message new = (new ≡ receiving (after_take old message)) × Heeds old (Some message)
Finds (gathered old) message new =
    (more : List (ℕ × List ℕ))
    × (old.left ≡ message ∷ more)
    × (new ≡ gathered (record {
      most = old.most;
      ports = old.ports;
      taken = old.taken ++ message ∷ [];
      left = more;
    }))

-- true if it is known that no message is left
abbrev pub TellsDrained : Bool → Seen → Type 0
TellsDrained true (receiving r) = ⊥
TellsDrained false (receiving r) = Unit {0}
TellsDrained true (gathered g) = g.left ≡ []
TellsDrained false (gathered g) = g.left ≡ [] → ⊥

-- The queue is the same, with the same total. More messages may have been taken. If its accepted
-- messages are known whole, they are the same.
abbrev pub IsSameQueue : (old new : Seen) → Type 0
IsSameQueue (receiving old) (receiving new) =
    (new.queue ≡ old.queue) × (new.capacity ≡ old.capacity) × (new.most ≡ old.most)
    × (new.ports ≡ old.ports) × (new.total ≡ old.total)
IsSameQueue (gathered old) (gathered new) =
    (new.most ≡ old.most) × (new.ports ≡ old.ports) × (accepted_of new ≡ accepted_of old)
IsSameQueue (receiving old) (gathered new) = ⊥
IsSameQueue (gathered old) (receiving new) = ⊥

-- the known accepted messages: the taken ones, or all once the queue is gathered
abbrev pub known_of : Seen → List (ℕ × List ℕ)
known_of (receiving r) = r.taken
known_of (gathered g) = accepted_of g
