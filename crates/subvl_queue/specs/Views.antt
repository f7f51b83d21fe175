-- The ends of a queue as contracts see them. A message is a pair of its sender's index and its bytes.
use Rattle.std.specs.Prelude.{◌≡◌, ℕ, ◌+◌, ◌<◌, ◌≤◌, Bool, true, false, ◌⊎◌, List, [], ◌∷◌, ◌++◌, length, map, get_or, slice_index_or, Contains, Option, Some, None, ◌^◌, take}
use Rattle.atomic_table.specs.Seated.{TableId}
use Rattle.subvl_queue.specs.declared.sender.Why.{Why}
use Rattle.subvl_queue.specs.declared.sender.Why.TheVariants.{Closed, Exhausted, Full}
use Rattle.subvl_queue.specs.Messages.{IsMessage, part_of}
use Rattle.subvl_queue.specs.Queue.{AreGood}
use Rattle.subvl_queue.specs.declared.rule.View.{View}

-- the identity of a queue; callers only compare it
abbrev pub QueueName : Type 0
QueueName = TableId

-- A sender. `most` is the greatest length of a message. `asks` is the number of its slot requests, at most `calls`;
-- `load` is the number of held messages and slot requests under way that the last one found. `glances` is the number of
-- its checks whether the queue is closed, and `shut` the result of the last one. `own` has its accepted messages in
-- order, and `places` their places among all accepted messages.
pub record SenderView : Type 0 where
  pub queue : QueueName
  pub capacity : ℕ
  pub most : ℕ
  pub port : ℕ
  pub calls : ℕ
  pub asks : ℕ
  pub load : ℕ
  pub glances : ℕ
  pub shut : Bool
  pub own : List (List ℕ)
  pub places : List ℕ

-- the accepted messages of a sender: its index, its messages, and their places among all accepted messages
pub record Brought : Type 0 where
  pub port : ℕ
  pub own : List (List ℕ)
  pub places : List ℕ

-- A receiver. `most` is the greatest length of a message, and `ports` the number of its queue's senders. `looks` is the
-- number of its polls of the queue, and `found` is true if the last poll found a message. `taken` has the messages
-- taken, in order, `total` the number of accepted messages once the queue is closed, and `back` the messages of the
-- senders that were taken back. `heard` has the messages of senders as they were when the receiver heard of them.
pub record ReceiverView : Type 0 where
  pub queue : QueueName
  pub capacity : ℕ
  pub most : ℕ
  pub ports : ℕ
  pub looks : ℕ
  pub found : Bool
  pub taken : List (ℕ × List ℕ)
  pub total : Option ℕ
  pub back : List Brought
  pub heard : List Brought

-- all ends together: the greatest length of a message, the number of senders, the messages taken, and the messages
-- accepted and not taken yet
pub record GatheredView : Type 0 where
  pub most : ℕ
  pub ports : ℕ
  pub taken : List (ℕ × List ℕ)
  pub left : List (ℕ × List ℕ)

-- a sender before its first slot request
abbrev pub new_sender : (queue : QueueName) (capacity most calls port : ℕ) → SenderView
new_sender queue capacity most calls port = record {
  queue = queue;
  capacity = capacity;
  most = most;
  port = port;
  calls = calls;
  asks = 0;
  load = 0;
  glances = 0;
  shut = false;
  own = [];
  places = [];
}

-- a receiver before its first poll
abbrev pub new_receiver : (queue : QueueName) (capacity most ports : ℕ) → ReceiverView
new_receiver queue capacity most ports = record {
  queue = queue;
  capacity = capacity;
  most = most;
  ports = ports;
  looks = 0;
  found = false;
  taken = [];
  total = None;
  back = [];
  heard = [];
}

-- a sender after a check whether the queue is closed
abbrev pub glanced : SenderView → Bool → SenderView
glanced s shut = record s { glances = s.glances + 1; shut = shut }

-- a sender after a slot request that found this load
abbrev pub asked : SenderView → ℕ → SenderView
asked s load = record s { asks = s.asks + 1; load = load }

-- a sender after a message was accepted at this place, by a slot request that found this load
abbrev pub sent : SenderView → (load place : ℕ) → List ℕ → SenderView
sent s load place bytes = record s {
  asks = s.asks + 1;
  load = load;
  glances = s.glances + 1;
  shut = false;
  own = s.own ++ bytes ∷ [];
  places = s.places ++ place ∷ [];
}

-- The message was accepted at the place drawn for it. The call's own slot request found the queue below its capacity.
abbrev pub IsPlaced : SenderView → List ℕ → SenderView → Type 0
IsPlaced s bytes t = (s.asks < s.calls) × (t.load < s.capacity) × ((place : ℕ) × (t ≡ sent s t.load place bytes))

-- The reason that a message was refused, and the sender afterwards. Closed: the check found the
-- queue closed, or the place was drawn after the close. Full: the call's own slot request found at
-- least as many held messages and slot requests under way as the capacity.
abbrev pub IsRefused : SenderView → Why → SenderView → Type 0
IsRefused s Closed t = (t ≡ glanced s true)
    ⊎ ((s.asks < s.calls) × (t.load < s.capacity) × (t ≡ asked (glanced s true) t.load))
IsRefused s Exhausted t = (s.asks ≡ s.calls) × (t ≡ glanced s false)
IsRefused s Full t = (s.asks < s.calls) × (s.capacity ≤ t.load) × (t ≡ asked (glanced s false) t.load)

-- a receiver after a poll that took a message
abbrev pub after_take : ReceiverView → ℕ × List ℕ → ReceiverView
after_take r item = record r { looks = r.looks + 1; found = true; taken = r.taken ++ item ∷ [] }

-- a receiver after a poll that found nothing ready
abbrev pub looked : ReceiverView → ReceiverView
looked r = record r { looks = r.looks + 1; found = false }

-- after the first close
abbrev pub closed : ReceiverView → ℕ → ReceiverView
closed r total = record r { total = Some total }

-- all accepted messages, in the order in which they are taken
abbrev pub accepted_of : GatheredView → List (ℕ × List ℕ)
accepted_of g = g.taken ++ g.left

-- the messages that a sender brings back
abbrev pub brought_by : SenderView → Brought
brought_by s = record { port = s.port; own = s.own; places = s.places }

-- the messages that each sender of a list brings back
abbrev pub brought_by_all : List SenderView → List Brought
brought_by_all = map brought_by

-- after a sender was made
abbrev pub one_more : ReceiverView → ReceiverView
one_more r = record r { ports = r.ports + 1 }

-- a receiver after a sender was taken back
abbrev pub taken_back : ReceiverView → SenderView → ReceiverView
taken_back r s = record r { back = r.back ++ brought_by s ∷ [] }

-- a receiver after it heard of a sender's messages
abbrev pub heard_from : ReceiverView → SenderView → ReceiverView
heard_from r s = record r { heard = r.heard ++ brought_by s ∷ [] }

-- the last of these places
abbrev pub IsLast : List ℕ → ℕ → Type 0
IsLast places place = (rest : List ℕ) × (places ≡ rest ++ place ∷ [])

-- the list has a sender of this port
abbrev pub HasPort : List SenderView → ℕ → Type 0
HasPort senders p = (k : ℕ) × (k < length senders) × ((d : SenderView) → (slice_index_or senders k d).port ≡ p)

-- the list has each sender of the queue
abbrev pub HasEvery : ℕ → List SenderView → Type 0
HasEvery ports senders = (p : ℕ) → p < ports → HasPort senders p

-- the list lacks a sender of the queue
abbrev pub LacksOne : ℕ → List SenderView → Type 0
LacksOne ports senders = (p : ℕ) × (p < ports) × (HasPort senders p → ⊥)

-- all senders belong to this queue
abbrev pub AreOf : QueueName → List SenderView → Type 0
AreOf queue senders = (k : ℕ) (d : SenderView) → k < length senders → (slice_index_or senders k d).queue ≡ queue

-- the messages of a sender are in the list at these places, which rise
pub record StandAt (list : List (ℕ × List ℕ)) (port : ℕ) (own : List (List ℕ)) (places : List ℕ) : Type 0 where
  pub count : length places ≡ length own
  pub within : (i : ℕ) → i < length own → get_or places i 0 < length list
  pub rise : (i j : ℕ) → i < j → j < length own → get_or places i 0 < get_or places j 0
  pub at : (i : ℕ) → i < length own → get_or list (get_or places i 0) (0, []) ≡ (port, get_or own i [])

-- the sender of this port is back
abbrev pub IsBack : List Brought → ℕ → Type 0
IsBack back p = (b : Brought) × Contains back b × (b.port ≡ p)

-- by the messages of these senders, this one has this place among all accepted messages
abbrev pub HasAt : List Brought → ℕ → ℕ × List ℕ → Type 0
HasAt senders place item = (b : Brought) × Contains senders b × ((i : ℕ) × (i < length b.own)
    × (get_or b.places i 0 ≡ place) × (item ≡ (b.port, get_or b.own i [])))

-- each message of these senders has its index as its place
abbrev pub HaveRows : List Brought → Type 0
HaveRows senders = (b : Brought) → Contains senders b → (i : ℕ) → i < length b.own → get_or b.places i 0 ≡ i

-- each sender of the queue is back
abbrev pub AreBack : ℕ → List Brought → Type 0
AreBack ports back = (p : ℕ) → p < ports → IsBack back p

-- The accepted messages are exactly the messages of the returned senders: each sender's part is its own list, at its
-- places.
pub record IsWhole (ports : ℕ) (back : List Brought) (accepted : List (ℕ × List ℕ)) : Type 0 where
  pub every : AreBack ports back
  pub parts : (b : Brought) → Contains back b → part_of b.port accepted ≡ b.own
  pub places : (b : Brought) → Contains back b → StandAt accepted b.port b.own b.places
  pub no_more : (p : ℕ) → ports ≤ p → part_of p accepted ≡ []

-- true if no message is left; if one is, the list begins with a message
abbrev pub TellsLeft : Bool → List (ℕ × List ℕ) → Type 0
TellsLeft true left = left ≡ []
TellsLeft false [] = ⊥
TellsLeft false (item ∷ items) = IsMessage item.1

-- the messages of a sender's list, without their places
abbrev pub own_of : List (ℕ × List ℕ) → List (List ℕ)
own_of = map (λ x. x.1)

-- the places of a sender's list
abbrev pub places_of : List (ℕ × List ℕ) → List ℕ
places_of = map (λ x. x.0)

-- the messages that a sender brought, by its joined list
abbrev pub brought_of : ℕ × List (ℕ × List ℕ) → Brought
brought_of b = record { port = b.0; own = own_of b.1; places = places_of b.1 }

-- the messages that the joined senders brought
abbrev pub brought_back : View (List ℕ) → List Brought
brought_back v = map brought_of v.joined

-- the gathered list, if there is one
abbrev pub listed : {T : Type 0} → Option (List (ℕ × T)) → List (ℕ × T)
listed None = []
listed (Some l) = l

abbrev pub whole : {T : Type 0} → View T → List (ℕ × T)
whole v = listed v.all

-- with all ends together, the messages taken are the beginning of all accepted messages
pub record IsGathered (taken total : ℕ) (knows : View (List ℕ)) : Type 0 where
  pub all : knows.all ≡ Some (whole knows)
  pub begins : knows.taken ≡ take taken (whole knows)
  pub counted : taken ≡ length knows.taken
  pub total_is : total ≡ length (whole knows)
  pub behind : taken ≤ total
  pub few : total ≤ 2 ^ 46
  pub good : AreGood IsMessage (whole knows)
