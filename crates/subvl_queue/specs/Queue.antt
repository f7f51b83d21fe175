-- The rule of a queue's table.
-- Word 0 is ROOM: 2 ^ 32 and the capacity, less the held messages and the slot requests under way.
-- Word 1 is TAIL: the number of accepted messages and of late places. Its bit 63 says that the queue
-- is closed. Word i + 2 is 0, or one more than the last place made ready in slot i.
use Rattle.std.specs.Prelude.{◌≡◌, ℕ, suc, ◌+◌, ◌-◌, ◌*◌, ◌%◌, ◌^◌, ◌<◌, ◌≤◌, ◌⊎◌, eqb, cond, Bool, true, false, List, [], ◌∷◌, length, take, slice_index_or, Option, Some, None}
use mathlib.Core.Option.{some}
use mathlib.Core.Option as maybe
use lib.ListN.{get_elem?}
use Rattle.atomic_table.specs.Table.{State}
use Rattle.atomic_table.specs.Seated.{TableId}
use Rattle.atomic_table.specs.declared.shared.Seat.{Seat}
use Rattle.subvl_queue.specs.declared.rule.View.{View}
use Rattle.subvl_queue.specs.declared.rule.Role.{Role}
use Rattle.subvl_queue.specs.declared.rule.Role.TheVariants.{Sender, Receiver, Spent}
use Rattle.subvl_queue.specs.declared.rule.Stage.{Stage}
use Rattle.subvl_queue.specs.declared.rule.Stage.TheVariants.{Idle, Asked, Refused, Drew, Late, Holding}

-- the messages of port k, each with its place, in a list whose first place is n
abbrev pub owned : {T : Type 0} → ℕ → ℕ → List (ℕ × T) → List (ℕ × T)
owned k n [] = []
owned k n (x ∷ xs) = cond (eqb x.0 k) ((n, x.1) ∷ owned k (suc n) xs) (owned k (suc n) xs)

abbrev pub total : {A : Type 0} → (A → ℕ) → List A → ℕ
total f [] = 0
total f (x ∷ xs) = f x + total f xs

-- 1 for a slot request that is neither accepted nor undone
abbrev pub hand_of : Stage → ℕ
hand_of Asked = 1
hand_of Refused = 1
hand_of Late = 1
hand_of stage = 0

-- 1 for a slot request under way that found room
abbrev pub found_of : Stage → ℕ
found_of Asked = 1
found_of Late = 1
found_of stage = 0

-- 1 for a slot request under way that has not drawn a place
abbrev pub wait_of : Stage → ℕ
wait_of Asked = 1
wait_of Refused = 1
wait_of stage = 0

-- the slot requests that a seat has made and may still make
abbrev pub budget_of : ℕ → ℕ → Role → ℕ
budget_of asks made Sender = 2 ^ 40
budget_of asks made Receiver = asks + (64 - made) * 2 ^ 40
budget_of asks made Spent = 0

-- bit 63 of TAIL
abbrev pub shut_bit : Bool → ℕ
shut_bit true = 2 ^ 63
shut_bit false = 0

-- 1 for a seat at rest, which may have given back its last slot request
abbrev pub rest_of : Stage → ℕ
rest_of Idle = 1
rest_of stage = 0

abbrev pub Busy : Stage → Type 0
Busy Drew = Unit {0}
Busy Holding = Unit {0}
Busy stage = ⊥

-- the slot of a place: not yet drawn, drawn by a seat, ready, or held by the receiver's seat
pub data Phase : Type 0 where
  free : Phase
  writing : ℕ → Phase
  full : Phase
  reading : ℕ → Phase

-- the place of a slot, and its phase
abbrev pub Cell : Type 0
Cell = ℕ × Phase

-- one more than the seat that holds the cell's slot, or 0 if none does
abbrev pub holder : Phase → ℕ
holder free = 0
holder (writing j) = suc j
holder full = 0
holder (reading j) = suc j

-- the place is ready, or the receiver reads it
abbrev pub IsOut : Cell → ℕ → Type 0
IsOut c p = (c ≡ (p, full)) ⊎ (c ≡ (p, reading 0))

abbrev pub shown : ℕ → ℕ → Phase → ℕ
shown n p free = suc p - n
shown n p (writing j) = suc p - n
shown n p full = suc p
shown n p (reading j) = suc p

-- the receiver knows the total exactly if the queue is closed
abbrev pub Totals : Bool → ℕ → Option ℕ → Type 0
Totals closed n None = closed ≡ false
Totals closed n (Some t) = (closed ≡ true) × (t ≡ n)

module _ {T : Type 0} where
  abbrev pub in_hand : View T → ℕ
  in_hand v = hand_of v.stage

  abbrev pub in_room : View T → ℕ
  in_room v = found_of v.stage

  abbrev pub waiting : View T → ℕ
  waiting v = wait_of v.stage

  abbrev pub asks_of : View T → ℕ
  asks_of v = v.asks

  -- the number of places and slot requests that a seat gave back while seat j had made `asks` slot requests
  abbrev pub gave_back : (j asks : ℕ) → View T → ℕ
  gave_back j asks v = total (λ e. cond (eqb (slice_index_or e j 0) asks) 1 0) v.asks_then

  abbrev pub budget : View T → ℕ
  budget v = budget_of v.asks v.made v.role

  -- the slot that a seat holds, of the place `at`, with the item accepted there
  abbrev pub Has : List (ℕ × T) → Cell → Phase → ℕ → Option (ℕ × T) → Type 0
  Has log c phase at item = (c ≡ (at, phase)) × ((x : ℕ × T) × (item ≡ Some x) × (get_elem? log at ≡ some x))

  module _ (freed : ℕ) (log : List (ℕ × T)) (j : ℕ) (c : Cell) (at : ℕ) (item : Option (ℕ × T)) (port : ℕ) where
    abbrev pub Knows : Stage → Type 0
    Knows Drew = Has log c (writing j) at item × ((x : ℕ × T) → item ≡ Some x → x.0 ≡ port) × (0 < j)
    Knows Holding = Has log c (reading j) at item × (at ≡ freed)
    Knows stage = Unit {0}

  -- seat 0 is the receiver's, and `seat k` port k's
  module _ (made : ℕ) (seat : ℕ → ℕ) (freed : ℕ) (log : List (ℕ × T)) (j : ℕ) (v : View T) where
    abbrev pub Fits : Role → Type 0
    Fits Sender = (j ≡ seat v.port) × (v.own ≡ owned v.port 0 log) × (v.asks ≤ 2 ^ 40) × (0 < j) × (v.port < made)
    Fits Receiver = (j ≡ 0) × (v.taken ≡ take freed log) × (length v.taken ≡ freed) × (v.made ≡ made)
        × (hand_of v.stage ≡ 0)
    Fits Spent = (v.asks ≡ 0) × (v.stage ≡ Idle)

  abbrev pub Gone : List (View T) → ℕ → Type 0
  Gone views j = (d : View T) → get_elem? views j ≡ some d → d.role ≡ Spent

  -- each joined list is its port's part of the log, and the sender is gone
  abbrev pub Joined : List (ℕ × T) → (ℕ → ℕ) → List (View T) → List (ℕ × List (ℕ × T)) → Type 0
  Joined log seat views joined = (i k : ℕ) (l : List (ℕ × T)) → get_elem? joined i ≡ some (k, l)
      → (l ≡ owned k 0 log) × Gone views (seat k)

  -- the receiver has the log itself only if all senders are gone
  abbrev pub Whole : List (ℕ × T) → List (View T) → Option (List (ℕ × T)) → Type 0
  Whole log views None = Unit {0}
  Whole log views (Some l) = (l ≡ log) × ((j : ℕ) → Gone views (suc j))

  abbrev pub Collects : Bool → List (ℕ × T) → (ℕ → ℕ) → List (View T) → View T → Type 0
  Collects closed log seat views u = Totals closed (length log) u.total × Joined log seat views u.joined
      × Whole log views u.all

  -- a seat that found the queue closed was right
  abbrev pub AreShut : Bool → List (View T) → Type 0
  AreShut closed views = (j : ℕ) (v : View T) → get_elem? views j ≡ some v → v.shut ≡ true → closed ≡ true

  -- a sender that found the queue open did so before the close
  abbrev pub SawOpen : Bool → List (View T) → Type 0
  SawOpen closed views = closed ≡ true → (u : View T) (j : ℕ) (v : View T) → get_elem? views 0 ≡ some u
      → get_elem? views j ≡ some v → v.role ≡ Sender → v.shut ≡ false → v.glances ≤ slice_index_or u.glances_then j 0

  -- no place was made ready after a look that is still to come
  abbrev pub MadeReady : List (View T) → Type 0
  MadeReady views = (u : View T) (j : ℕ) (v : View T) → get_elem? views 0 ≡ some u → get_elem? views j ≡ some v
      → v.looks_then ≤ u.looks

  -- if the last look found nothing, and the next place is ready, its sender made it ready after that look
  abbrev pub MissesNone : (slots freed : ℕ) → List (ℕ × T) → (ℕ → Cell) → (ℕ → ℕ) → List (View T) → Type 0
  MissesNone slots freed log cells seat views = (u d : View T) (x : ℕ × T) → get_elem? views 0 ≡ some u
      → get_elem? views (seat x.0) ≡ some d → u.found ≡ false → cells (freed % slots) ≡ (freed, full)
      → get_elem? log freed ≡ some x → d.looks_then ≡ u.looks

  -- message m of port k is accepted at place p, as number q of the port's, and is ready or taken
  pub record IsHeard (slots freed : ℕ) (log : List (ℕ × T)) (cells : ℕ → Cell) (k q p : ℕ) (m : T) : Type 0 where
    pub logged : get_elem? log p ≡ some (k, m)
    pub number : length (owned k 0 (take p log)) ≡ q
    pub out : freed ≤ p → IsOut (cells (p % slots)) p

  -- each message of these ports' lists is so
  abbrev pub AreHeard : (slots freed : ℕ) → List (ℕ × T) → (ℕ → Cell) → List (ℕ × List (ℕ × T)) → Type 0
  AreHeard slots freed log cells heard = (i q k p : ℕ) (own : List (ℕ × T)) (m : T) → get_elem? heard i ≡ some (k, own)
      → get_elem? own q ≡ some (p, m) → IsHeard slots freed log cells k q p m

  -- the load that a sender's last slot request found is at most the load now, and what was given back since then
  abbrev pub FoundLoads : (freed : ℕ) → List (ℕ × T) → List (View T) → Type 0
  FoundLoads freed log views = (j : ℕ) (v : View T) → get_elem? views j ≡ some v → v.role ≡ Sender → 0 < v.asks
      → v.load + 1 + freed + gave_back j v.asks v
      ≤ length log + total in_hand views + rest_of v.stage + total (gave_back j v.asks) views

  -- the answers that the seats' last steps gave are true
  pub record IsHonest (slots freed : ℕ) (closed : Bool) (log : List (ℕ × T)) (cells : ℕ → Cell)
      (seat : ℕ → ℕ) (views : List (View T)) : Type 0 where
    pub shut : AreShut closed views
    pub saw_open : SawOpen closed views
    pub ready : MadeReady views
    pub misses : MissesNone slots freed log cells seat views
    pub loads : FoundLoads freed log views
    pub heard : (j : ℕ) (v : View T) → get_elem? views j ≡ some v → AreHeard slots freed log cells v.heard

-- each message of the list is good
abbrev pub AreGood : {T : Type 0} → (T → Type 0) → List (ℕ × T) → Type 0
AreGood {T} Good l = (p : ℕ) (x : ℕ × T) → get_elem? l p ≡ some x → Good x.1

-- `boxed` is the content of a slot at home, with an item or without
module _ {T S : Type 0} (boxed : Option (ℕ × T) → S) where
  module _ (freed : ℕ) (log : List (ℕ × T)) (homes : List (maybe.Option S)) (i p : ℕ) where
    abbrev pub InPhase : Phase → Type 0
    InPhase free = (length log ≤ p) × (get_elem? homes i ≡ some (some (boxed None)))
    InPhase (writing j) = (freed ≤ p) × (p < length log)
    InPhase full = (freed ≤ p) × (p < length log)
        × ((x : ℕ × T) × (get_elem? log p ≡ some x) × (get_elem? homes i ≡ some (some (boxed (Some x)))))
    InPhase (reading j) = (p ≡ freed) × (p < length log) × (j ≡ 0)

  pub record CellOk (n freed : ℕ) (log : List (ℕ × T)) (words : List ℕ) (homes : List (maybe.Option S))
      (i : ℕ) (c : Cell) : Type 0 where
    pub shows : slice_index_or words (i + 2) 0 ≡ shown n c.0 c.1
    pub lies : c.0 % n ≡ i
    pub early : c.0 < freed + n
    pub late : length log ≤ c.0 + n
    pub phase : InPhase freed log homes i c.0 c.1

module _ {T S : Type 0} (boxed : Option (ℕ × T) → S) (Good : T → Type 0) where
  -- the part of the rule that names no seat
  pub record Slots (words : List ℕ) (homes : List (maybe.Option S)) : Type 0 where
    pub log : List (ℕ × T)
    pub freed : ℕ
    -- the number of places drawn after the close
    pub late : ℕ
    pub closed : Bool
    pub cells : ℕ → Cell
    pub some_slot : 0 < length homes
    pub few_slots : length homes ≤ 256
    pub wide : length words ≡ length homes + 2
    pub behind : freed ≤ length log
    pub tail_is : slice_index_or words 1 0 ≡ length log + late + shut_bit closed
    pub none_late : closed ≡ false → late ≡ 0
    pub each_cell : (i : ℕ) → i < length homes → CellOk boxed (length homes) freed log words homes i (cells i)
    pub good : AreGood Good log

  pub record Queue (s : State S (View T)) : Type 0 where
    pub slots : Slots s.words s.homes
    pub open slots use *
    -- the number of senders that were made, and their seats
    pub made : ℕ
    pub seat : ℕ → ℕ
    pub few_made : made ≤ 64
    pub seated : (k : ℕ) → k < made → (0 < seat k) × (seat k < length s.views)
    -- the held messages and the slot requests that found room are within the capacity
    pub within : length log + total in_room s.views ≤ freed + length s.homes
    pub room_is : slice_index_or s.words 0 0 + length log + total in_hand s.views ≡ 2 ^ 32 + length s.homes + freed
    pub counted : length log + late + total waiting s.views ≤ total asks_of s.views
    pub budgeted : total budget s.views ≤ 64 * 2 ^ 40
    pub each_seat : (j : ℕ) (v : View T) → get_elem? s.views j ≡ some v →
        Fits made seat freed log j v v.role
    pub each_hand : (j : ℕ) (v : View T) → get_elem? s.views j ≡ some v →
        Knows freed log j (cells (v.at % length s.homes)) v.at v.item v.port v.stage
    -- a port without a sender has no message
    pub unmade : (k : ℕ) → made ≤ k → owned k 0 log ≡ []
    pub gathered : (u : View T) → get_elem? s.views 0 ≡ some u → Collects closed log seat s.views u
    pub honest : IsHonest (length s.homes) freed closed log cells seat s.views
    pub busy : (i j : ℕ) → i < length s.homes → holder (cells i).1 ≡ suc j →
        (v : View T) × (get_elem? s.views j ≡ some v) × Busy v.stage × (v.at ≡ (cells i).0)

-- the seat belongs to this table
abbrev pub IsAtTable : {T S : Type 0} → TableId → Seat S (View T) → Type 0
IsAtTable z seat = seat.table_id ≡ z

-- the seat belongs to this table, in this role, between calls: it holds no slot, and no slot
-- request is under way
abbrev pub RestsAs : {T S : Type 0} → TableId → Role → Seat S (View T) → Type 0
RestsAs z role seat = IsAtTable z seat × (seat.me.1 ≡ []) × (seat.me.0.role ≡ role) × (seat.me.0.stage ≡ Idle)

-- the slot of a place, for `slots` slots
abbrev pub IsSlotOf : (slots place slot : ℕ) → Type 0
IsSlotOf slots place slot = (slot ≡ place % slots) × (slot < slots)
