-- The first knowledge of a seat, and the outcome of each step.
use Rattle.std.specs.Prelude.{◌≡◌, ◌≢◌, ℕ, suc, ◌+◌, ◌%◌, ◌^◌, ◌<◌, ◌≤◌, ◌⊎◌, Bool, true, false, List, [], ◌∷◌, ◌++◌, length, take, Option, Some, None, IfSome}
use mathlib.Core.Option.{some}
use lib.ListN.{get_elem?}
use Rattle.atomic_table.specs.Table.{Me, Step}
use Rattle.subvl_queue.specs.Queue.{owned, AreGood}
use Rattle.subvl_queue.specs.declared.rule.View.{View}
use Rattle.subvl_queue.specs.declared.sender.Why.{Why}
use Rattle.subvl_queue.specs.declared.sender.Why.TheVariants.{Closed, Exhausted, Full}
use Rattle.subvl_queue.specs.declared.rule.Role.{Role}
use Rattle.subvl_queue.specs.declared.rule.Role.TheVariants.{Sender, Receiver, Spent}
use Rattle.subvl_queue.specs.declared.rule.Stage.{Stage}
use Rattle.subvl_queue.specs.declared.rule.Stage.TheVariants.{Idle, Asked, Refused, Drew, Late, Holding}

abbrev pub Seated : (T S : Type 0) → Type 0
Seated T S = Me S (View T)

module _ {T : Type 0} where
  -- a seat in this role, with this port, before its first step
  abbrev pub idle_view : Role → ℕ → View T
  idle_view role port = record {
    role = role;
    port = port;
    asks = 0;
    own = [];
    stage = Idle;
    at = 0;
    item = None;
    load = 0;
    glances = 0;
    shut = false;
    looks = 0;
    found = false;
    looks_then = 0;
    asks_then = [];
    glances_then = [];
    heard = [];
    taken = [];
    made = 0;
    joined = [];
    total = None;
    all = None;
  }

  -- the view of a new table's receiver
  abbrev pub first_view : View T
  first_view = idle_view Receiver 0

  -- the view of a new sender
  abbrev pub new_seat : ℕ → View T
  new_seat port = idle_view Sender port

  -- the view of a sender that was taken back: what it made ready and gave back
  abbrev pub spent_view : ℕ → List (List ℕ) → View T
  spent_view looks_then asks_then = record (idle_view Spent 0) { looks_then = looks_then; asks_then = asks_then }

  -- the view of a seat that only carries the messages of a sender
  abbrev pub telling : View T → View T
  telling v = record (idle_view Spent 0) { heard = (v.port, v.own) ∷ [] }

  -- a seat hears what another carries, beside what it heard before
  abbrev pub hearing : View T → View T → View T
  hearing v w = record v { heard = v.heard ++ w.heard }

  -- the view of a seat that carries nothing
  abbrev pub no_seat : View T
  no_seat = idle_view Spent 0

  abbrev pub with_ask : View T → Stage → ℕ → View T
  with_ask v st load = record v { asks = v.asks + 1; stage = st; load = load }

  abbrev pub undone : View T → List (List ℕ) → View T
  undone v asks_then = record v { stage = Idle; asks_then = asks_then }

  abbrev pub published : View T → ℕ → View T
  published v looks_then = record v { stage = Idle; looks_then = looks_then }

  abbrev pub drawn : View T → ℕ → ℕ × T → View T
  drawn v t x = record v { stage = Drew; at = t; item = Some x; own = v.own ++ (t, x.1) ∷ [] }

  abbrev pub lated : View T → View T
  lated v = record v { stage = Late; shut = true }

  abbrev pub with_glance : View T → Bool → View T
  with_glance v b = record v { glances = v.glances + 1; shut = b }

  abbrev pub with_total : View T → ℕ → List ℕ → View T
  with_total v t glances_then = record v { total = Some t; glances_then = glances_then }

  abbrev pub one_made : View T → View T
  one_made v = record v { made = v.made + 1 }

  abbrev pub with_joined : View T → View T → View T
  with_joined v w = record v { asks = v.asks + w.asks; joined = v.joined ++ (w.port, w.own) ∷ [] }

  abbrev pub with_all : View T → List (ℕ × T) → View T
  with_all v l = record v { all = Some l }

  abbrev pub with_look : View T → Bool → View T
  with_look v b = record v { looks = v.looks + 1; found = b }

  abbrev pub holding : View T → ℕ → ℕ × T → View T
  holding v p x = record v { looks = v.looks + 1; found = true; stage = Holding; at = p; item = Some x }

  abbrev pub freed_of : View T → ℕ × T → List (List ℕ) → View T
  freed_of v x asks_then = record v { stage = Idle; found = true; asks_then = asks_then; taken = v.taken ++ x ∷ [] }

  -- by one of these ports' lists, the message at place p is x
  abbrev pub Lists : List (ℕ × List (ℕ × T)) → ℕ → ℕ × T → Type 0
  Lists told p x = (i q : ℕ) × (own : List (ℕ × T)) × (get_elem? told i ≡ some (x.0, own))
      × (get_elem? own q ≡ some (p, x.1))

  -- the place of each message is its index in its port's list
  abbrev pub AreInRow : List (ℕ × List (ℕ × T)) → Type 0
  AreInRow told = (i q k p : ℕ) (own : List (ℕ × T)) (m : T) → get_elem? told i ≡ some (k, own)
      → get_elem? own q ≡ some (p, m) → p ≡ q

  -- the message x is at place p, the next after the taken ones
  pub record IsNext (v : View T) (p : ℕ) (x : ℕ × T) : Type 0 where
    pub few : p < 2 ^ 46
    pub port : x.0 < v.made
    pub few_ports : v.made ≤ 64
    pub below : IfSome v.total (λ t. p < t)
    pub listed : IfSome v.all (λ l. (p < length l) × (get_elem? l p ≡ some x))
    pub back : (y : ℕ × T) → Lists v.joined p y → x ≡ y
    pub heard : (y : ℕ × T) → Lists v.heard p y → x ≡ y

  -- once every sender has joined, l is the list of all accepted messages, in agreement with the receiver's view
  pub record IsLog (Good : T → Type 0) (slots : ℕ) (v : View T) (l : List (ℕ × T)) : Type 0 where
    pub begins : v.taken ≡ take (length v.taken) l
    pub behind : length v.taken ≤ length l
    pub within : length l ≤ length v.taken + slots
    pub few : length l ≤ 2 ^ 46
    pub parts : (i k : ℕ) (own : List (ℕ × T)) → get_elem? v.joined i ≡ some (k, own) → own ≡ owned k 0 l
    pub no_more : (k : ℕ) → v.made ≤ k → owned k 0 l ≡ []
    pub total_is : (t : ℕ) → v.total ≡ Some t → t ≡ length l
    pub good : AreGood Good l

  -- the view after a slot request that found room
  abbrev pub asked_with_room : View T → ℕ → View T
  asked_with_room v load = with_ask (with_glance v false) Asked load

  -- the reason that no place was drawn, and the view afterwards
  abbrev pub RefusedBy : (calls capacity : ℕ) → View T → View T → Why → Type 0
  RefusedBy calls capacity v w Closed = (w ≡ with_glance v true)
      ⊎ ((v.asks < calls) × (w.load < capacity) × (w ≡ undone (lated (asked_with_room v w.load)) w.asks_then))
  RefusedBy calls capacity v w Exhausted = (w ≡ with_glance v false) × (v.asks ≡ calls)
  RefusedBy calls capacity v w Full = (v.asks < calls) × (capacity ≤ w.load)
      × (w ≡ undone (with_ask (with_glance v false) Refused w.load) w.asks_then)

-- The outcome of each step. `boxed` is the content of a slot at home, with an item or without.
module _ {T S : Type 0} where
  -- A slot request reads 2 ^ 32 and the capacity, less the held messages and the slot requests under way; `load` is
  -- the number of these. It finds room exactly if the word read is over 2 ^ 32.
  abbrev pub reserves : Step S → Seated T S → ℕ → Seated T S → Type 0
  reserves st m r m' = (m'.1 ≡ m.1) × (r + m'.0.load ≡ 2 ^ 32 + st.slots)
      × (2 ^ 32 < r → m'.0 ≡ with_ask m.0 Asked m'.0.load) × (r ≤ 2 ^ 32 → m'.0 ≡ with_ask m.0 Refused m'.0.load)

  abbrev pub unreserves : Step S → Seated T S → ℕ → Seated T S → Type 0
  unreserves st m r m' = (m'.1 ≡ m.1) × (m'.0 ≡ undone m.0 m'.0.asks_then)

  -- bit 63 of the word read says that the queue is closed
  abbrev pub claims : (Option (ℕ × T) → S) → Option (ℕ × T) → Step S → Seated T S → ℕ → Seated T S → Type 0
  claims boxed said st m r m' =
      (r < 2 ^ 63 → (x : ℕ × T) × (said ≡ Some x) × (m'.0 ≡ drawn m.0 r x) × (m'.1 ≡ (r % st.slots, boxed None) ∷ []))
      × (2 ^ 63 ≤ r → (m'.0 ≡ lated m.0) × (m'.1 ≡ []))

  abbrev pub publishes : Step S → Seated T S → ℕ → Seated T S → Type 0
  publishes st m r m' = (m'.1 ≡ []) × (m'.0 ≡ published m.0 m'.0.looks_then)

  -- the message x is ready at place p, and its slot is taken
  abbrev pub Finds : (Option (ℕ × T) → S) → (T → Type 0) → (slots p : ℕ) → Seated T S → Seated T S → ℕ × T → Type 0
  Finds boxed Good slots p m m' x = IsNext m.0 p x × Good x.1
      × (m' ≡ (holding m.0 p x, (p % slots, boxed (Some x)) ∷ []))

  -- nothing is ready at place p
  abbrev pub Misses : ℕ → Seated T S → Seated T S → Type 0
  Misses p m m' = (m' ≡ (with_look m.0 false, [])) × IfSome m.0.all (λ l. length l ≤ p)
      × ((y : ℕ × T) → Lists m.0.joined p y → ⊥) × ((y : ℕ × T) → Lists m.0.heard p y → ⊥)

  abbrev pub finds_ready : (Option (ℕ × T) → S) → (T → Type 0) → ℕ → Step S → Seated T S → ℕ → Seated T S → Type 0
  finds_ready boxed Good p st m r m' = (r ≡ suc p → (x : ℕ × T) × Finds boxed Good st.slots p m m' x)
      × (r ≢ suc p → Misses p m m') × (m.0.made ≡ 1 → AreInRow m.0.heard)

  abbrev pub takes_out : Step S → Seated T S → ℕ → Seated T S → Type 0
  takes_out st m r m' = (m'.1 ≡ []) × ((x : ℕ × T) × (m.0.item ≡ Some x) × (m'.0 ≡ freed_of m.0 x m'.0.asks_then))

  abbrev pub finds_closed : Step S → Seated T S → ℕ → Seated T S → Type 0
  finds_closed st m r m' = (m'.1 ≡ m.1) × (r < 2 ^ 63 → m'.0 ≡ with_glance m.0 false)
      × (2 ^ 63 ≤ r → m'.0 ≡ with_glance m.0 true)

  abbrev pub closes : Step S → Seated T S → ℕ → Seated T S → Type 0
  closes st m r m' = (m'.1 ≡ m.1) × (r < 2 ^ 63) × (length m.0.taken ≤ r) × (m'.0 ≡ with_total m.0 r m'.0.glances_then)

  -- the receiver gets the log; if the queue was open, the word read is its length
  abbrev pub gathers : (T → Type 0) → Step S → Seated T S → ℕ → Seated T S → Type 0
  gathers Good st m r m' = (m'.1 ≡ m.1)
      × ((l : List (ℕ × T)) × (m'.0 ≡ with_all m.0 l) × IsLog Good st.slots m.0 l × (m.0.total ≡ None → r ≡ length l))
