-- How the rule is kept when one cell and one seat change.
use Rattle.subvl_queue.proofs.Names.{ap, ◌*◌, ◌^◌, ◌≡◌, ◌≢◌, ℕ, zero, suc, ◌+◌, ◌%◌, ◌<◌, ◌≤◌, ◌⊎◌, Bool, List, [], ◌∷◌, length, get_or, set, sym, refl, ◌∙◌, arith, length-set, get_or-set_other, some, Option, add-mod_right, ℕ_discrete, get_elem?, State, at_set, at_snoc, ◌++◌, ⊎_elim, subst, set_else, set_here, View, Role, Receiver, Spent, in_hand, Stage, Drew, Holding, owned, total, in_room, budget, shut_bit, Gone, Collects, Busy, Phase, free, writing, full, reading, Cell, holder, InPhase, CellOk, Has, Knows, Fits, Queue, IsHonest, AreGood, false, hand_of, found_of, wait_of, Path}
use Rattle.subvl_queue.proofs.Totals.{sums, total_le, hands_times, hand_budget}
use mathlib.Core.Option as maybe

abbrev pick : {P : Type 0} → Dec P → Cell → Cell → Cell
pick (yes _) a b = a
pick (no _) a b = b

pub put : (ℕ → Cell) → ℕ → Cell → ℕ → Cell
put cells i c j = pick (ℕ_discrete j i) c (cells j)

pub at_put : (cells : ℕ → Cell) (i : ℕ) (c : Cell) (F : ℕ → Cell → Type 0) (j : ℕ) → F i c → (j ≢ i → F j (cells j)) → F j (put cells i c j)
unfolding put
at_put cells i c F j here other = grind arith

pub put_here : (cells : ℕ → Cell) (i : ℕ) (c : Cell) → Path Cell (put cells i c i) c
put_here cells i c = at_put cells i c (λ q x. q ≡ i → Path Cell x c) i (λ _. refl) (λ n. absurd (n refl)) refl

-- A property of the changed member and of the others holds of each member.
pub each_after : {A : Type 0} (l : List A) (i : ℕ) (a : A) (F : ℕ → A → Type 0) → F i a
    → ((j : ℕ) (b : A) → j ≢ i → get_elem? l j ≡ some b → F j b) → (j : ℕ) (b : A) → get_elem? (set l i a) j ≡ some b → F j b
each_after {A} l i a F here other j b e = grind (arith, at_set)

-- The number grows by at most one, from a value of this turn of the ring.
abbrev pub Next : (n i a a' : ℕ) → Type 0
Next n i a a' = (a' ≡ a) ⊎ ((a' ≡ suc a) × (a % n ≡ i))

next : (n i a a' q : ℕ) → Next n i a a' → q % n ≢ i → (a ≤ a') × (a ≤ q → a' ≤ q) × (q ≡ a → q ≡ a')
next n i a a' q h other = grind arith

abbrev pub St : (T S : Type 0) → Type 0
St T S = State S (View T)

abbrev pub Homes : Type 0 → Type 0
Homes S = List (maybe.Option S)

abbrev pub Longer : {X : Type 0} → List X → List X → Type 0
Longer {X} log log' = (p : ℕ) (x : X) → get_elem? log p ≡ some x → get_elem? log' p ≡ some x

pub placed : {A : Type 0} (l : List A) (j : ℕ) (a : A) → get_elem? l j ≡ some a → j < length l
placed [] j a e = grind arith
placed (y ∷ ys) zero a e = omega arith
placed (y ∷ ys) (suc j) a e = let z = placed ys j a e in omega arith

module _ {T S : Type 0} (boxed : Option (ℕ × T) → S) where
  phase_stays : (t t' : ℕ) (log log' : List (ℕ × T)) (homes homes' : Homes S) (j p : ℕ) → length log ≤ length log'
      → (length log ≤ p → length log' ≤ p) → (t ≤ p → t' ≤ p) → (p ≡ t → p ≡ t')
      → Longer log log' → get_elem? homes' j ≡ get_elem? homes j → (ph : Phase) → InPhase boxed t log homes j p ph → InPhase boxed t' log' homes' j p ph
  phase_stays t t' log log' homes homes' j p a c d f more same free k = (c k.0, same ∙ k.1)
  phase_stays t t' log log' homes homes' j p a c d f more same (writing o) k = grind arith
  phase_stays t t' log log' homes homes' j p a c d f more same full k = let l = k.1 in (d k.0, omega arith, (k.2.0, more p k.2.0 k.2.1, same ∙ k.2.2))
  phase_stays t t' log log' homes homes' j p a c d f more same (reading o) k = grind arith

  cell_stays : (n i t t' : ℕ) (log log' : List (ℕ × T)) (words words' : List ℕ) (homes homes' : Homes S) (j : ℕ) (c : Cell) → j ≢ i
      → Next n i t t' → Next n i (length log) (length log') → Longer log log' → get_or words' (j + 2) 0 ≡ get_or words (j + 2) 0
      → get_elem? homes' j ≡ get_elem? homes j → CellOk boxed n t log words homes j c → CellOk boxed n t' log' words' homes' j c
  cell_stays n i t t' log log' words words' homes homes' j c other freed long more word home k =
      let apart : (q : ℕ) → q % n ≡ j → q % n ≢ i = grind arith in
      record {
        shows = word ∙ k.shows;
        lies = k.lies;
        early = grind arith;
        late = (next n i _ _ (c.0 + n) long (apart (c.0 + n) (add-mod_right c.0 n ∙ k.lies))).1 k.late;
        phase = grind (arith, phase_stays);
      }

module _ {T : Type 0} where
  has_stays : (log log' : List (ℕ × T)) (c c' : Cell) (ph : Phase) (at : ℕ) (item : Option (ℕ × T)) → Longer log log' → Path Cell c' c
      → Has log c ph at item → Has log' c' ph at item
  has_stays log log' c c' ph at item more same k = (same ∙ k.0, (k.1.0, k.1.1, more at k.1.0 k.1.2))

  -- The relation of a seat to its own slot is kept.
  knows_stays : (t t' : ℕ) (log log' : List (ℕ × T)) (j : ℕ) (c c' : Cell) (at : ℕ) (item : Option (ℕ × T)) (port : ℕ) → Longer log log'
      → (holder c.1 ≡ suc j → Path Cell c' c) → (Path Cell c (at, reading j) → t' ≡ t)
      → (st : Stage) → Knows t log j c at item port st → Knows t' log' j c' at item port st
  knows_stays t t' log log' j c c' at item port more same keep Drew k = (has_stays log log' c c' (writing j) at item more (grind arith) k.0, k.1, k.2)
  knows_stays t t' log log' j c c' at item port more same keep Holding k =
      (has_stays log log' c c' (reading j) at item more (grind arith) k.0, k.1 ∙ sym (keep k.0.0))
  knows_stays t t' log log' j c c' at item port more same keep st k = tt

module _ {T : Type 0} (Good : T → Type 0) where
  -- One good message more.
  pub good_more : (log : List (ℕ × T)) (x : ℕ × T) → AreGood Good log → Good x.1 → AreGood Good (log ++ x ∷ [])
  good_more log x old new p y e = ⊎_elim (λ (h : get_elem? log p ≡ some y). old p y h)
      (λ (h : x ≡ y). subst (λ (z : ℕ × T). Good z.1) h new) (at_snoc log x y p e)

module _ {T S : Type 0} {boxed : Option (ℕ × T) → S} {Good : T → Type 0} where
  module _ (s : St T S) (r : Queue boxed Good s) where
    abbrev n : ℕ
    n = length s.homes

    pub knows : (id : ℕ) (v : View T) (st : Stage) → get_elem? s.views id ≡ some v → v.stage ≡ st → Knows r.freed r.log id (r.cells (v.at % n)) v.at v.item v.port st
    knows id v st at e = grind arith

    pub fits : (id : ℕ) (v : View T) (ro : Role) → get_elem? s.views id ≡ some v → v.role ≡ ro → Fits r.made r.seat r.freed r.log id v ro
    fits id v ro at e = grind arith

    pub hands_few : total in_hand s.views ≤ 64
    hands_few =
        let each : (j : ℕ) (v : View T) → get_elem? s.views j ≡ some v → 2 ^ 40 * in_hand v ≤ budget v = λ j v at.
        hand_budget v.asks v.made v.stage v.role (λ e. (fits j v Receiver at e).4) (λ e. ap hand_of (fits j v Spent at e).1) in
        let all = total_le (λ (v : View T). 2 ^ 40 * in_hand v) budget s.views each in
        let times = hands_times s.views in
        omega arith

    -- A seat that isn't busy holds no cell.
    pub holds_none : (id : ℕ) (v : View T) → get_elem? s.views id ≡ some v → (Busy v.stage → ⊥) → (i : ℕ) → i < n → holder (r.cells i).1 ≢ suc id
    holds_none id v at calm i near e = let b = r.busy i id near e in
        grind arith

    -- A seat holds no cell but that of its place.
    pub holds_one : (id : ℕ) (v : View T) → get_elem? s.views id ≡ some v → (i : ℕ) → i < n → i ≢ v.at % n → holder (r.cells i).1 ≢ suc id
    holds_one id v at i near other e = let b = r.busy i id near e in grind arith

    pub gone_stays : (id j : ℕ) (v w : View T) → get_elem? s.views id ≡ some v → w.role ≡ v.role → Gone s.views j → Gone (set s.views id w) j
    gone_stays id j v w at same gone d e = each_after s.views id w (λ q y. q ≡ j → y.role ≡ Spent)
        (grind arith) (grind arith) j d e refl

    pub roles_stay : (closed' : Bool) (log' : List (ℕ × T)) (id : ℕ) (v w u : View T) → get_elem? s.views id ≡ some v → w.role ≡ v.role
        → Collects closed' log' r.seat s.views u → Collects closed' log' r.seat (set s.views id w) u
    roles_stay closed' log' id v w u at same g = grind (arith, gone_stays)

    -- What the receiver has collected still fits, if its own step or the change of the log keeps it.
    collects_after : (closed' : Bool) (log' : List (ℕ × T)) (id : ℕ) (v w : View T) → get_elem? s.views id ≡ some v → w.role ≡ v.role
        → (id ≡ 0 → Collects closed' log' r.seat s.views w)
        → (id ≢ 0 → (u : View T) → Collects r.closed r.log r.seat s.views u → Collects closed' log' r.seat s.views u)
        → (u : View T) → get_elem? (set s.views id w) 0 ≡ some u → Collects closed' log' r.seat (set s.views id w) u
    collects_after closed' log' id v w at same sees goes u e =
        each_after s.views id w (λ j d. j ≡ 0 → Collects closed' log' r.seat (set s.views id w) d)
        (λ is. roles_stay closed' log' id v w w at same (sees is))
        (λ j d other e' is. roles_stay closed' log' id v w d at same (goes (λ z. other (is ∙ sym z)) d (grind arith)))
        0 u e refl

    -- a step that changes no slot, by a seat that holds none
    pub record Quiet (words' : List ℕ) (id late' : ℕ) (closed' : Bool) (v w : View T) : Type 0 where
      pub at : get_elem? s.views id ≡ some v
      pub calm : Busy v.stage → ⊥
      pub role : w.role ≡ v.role
      pub wide : length words' ≡ length s.words
      pub kept : (i : ℕ) → get_or words' (i + 2) 0 ≡ get_or s.words (i + 2) 0
      pub room : get_or words' 0 0 + hand_of w.stage ≡ get_or s.words 0 0 + hand_of v.stage
      pub tail : get_or words' 1 0 ≡ length r.log + late' + shut_bit closed'
      pub none_late : closed' ≡ false → late' ≡ 0
      pub within : length r.log + total in_room s.views + found_of w.stage ≤ r.freed + n + found_of v.stage
      pub counted : late' + wait_of w.stage + v.asks ≤ r.late + wait_of v.stage + w.asks
      pub budgeted : budget w ≤ budget v
      pub sees : id ≡ 0 → Collects closed' r.log r.seat s.views w
      pub goes : id ≢ 0 → (u : View T) → Collects r.closed r.log r.seat s.views u → Collects closed' r.log r.seat s.views u
      pub fit : Fits r.made r.seat r.freed r.log id w w.role
      pub knew : Knows r.freed r.log id (r.cells (w.at % n)) w.at w.item w.port w.stage

    pub quiet : (words' : List ℕ) (id late' : ℕ) (closed' : Bool) (v w : View T)
        → IsHonest n r.freed closed' r.log r.cells r.seat (set s.views id w) → Quiet words' id late' closed' v w
        → Queue boxed Good record { words = words'; homes = s.homes; views = set s.views id w }
    quiet words' id late' closed' v w honest q =
        let seats : length (set s.views id w) ≡ length s.views = length-set s.views id w in
        let sum = sums s.views id v w v.stage v.role w.role q.at refl refl refl in
        record {
          slots = grind arith;
          made = r.made;
          seat = r.seat;
          few_made = r.few_made;
          seated = rw seats r.seated;
          within = omega arith;
          room_is = omega arith;
          counted = omega arith;
          budgeted = omega arith;
          gathered = collects_after closed' r.log id v w q.at q.role q.sees q.goes;
          unmade = r.unmade;
          each_seat = each_after s.views id w (λ j d. Fits r.made r.seat r.freed r.log j d d.role) q.fit (λ j d _ e. r.each_seat j d e);
          each_hand = each_after s.views id w (λ j d. Knows r.freed r.log j (r.cells (d.at % n)) d.at d.item d.port d.stage) q.knew
              (λ j d _ e. r.each_hand j d e);
          honest = honest;
          busy = λ i j near held. let b = r.busy i j near held in grind (arith, set_else);
        }

    -- a step that changes one cell, and the view of the seat that takes it
    pub record Move (k x i id freed' : ℕ) (log' : List (ℕ × T)) (c' : Cell) (home : maybe.Option S) (v w : View T) : Type 0 where
      pub at : get_elem? s.views id ≡ some v
      pub near : i < n
      pub role : w.role ≡ v.role
      pub room : get_or (set s.words k x) 0 0 + length log' + hand_of w.stage + r.freed ≡ get_or s.words 0 0 + length r.log + hand_of v.stage + freed'
      pub tail : get_or (set s.words k x) 1 0 ≡ length log' + r.late + shut_bit r.closed
      pub within : length log' + total in_room s.views + found_of w.stage ≤ freed' + n + found_of v.stage
      pub counted : length log' + wait_of w.stage + v.asks ≤ length r.log + wait_of v.stage + w.asks
      pub budgeted : budget w ≤ budget v
      pub sees : id ≡ 0 → Collects r.closed log' r.seat s.views w
      pub goes : id ≢ 0 → (u : View T) → Collects r.closed r.log r.seat s.views u → Collects r.closed log' r.seat s.views u
      pub unmade : (q : ℕ) → r.made ≤ q → owned q 0 log' ≡ []
      pub behind : freed' ≤ length log'
      pub moves : Next n i r.freed freed'
      pub adds : Next n i (length r.log) (length log')
      pub keep : id ≢ 0 → freed' ≡ r.freed
      pub more : Longer r.log log'
      pub apart : (j : ℕ) → j ≢ i → j + 2 ≢ k
      pub here : CellOk boxed n freed' log' (set s.words k x) (set s.homes i home) i c'
      pub loose : (j : ℕ) → j ≢ id → holder (r.cells i).1 ≢ suc j
      pub mine : (j : ℕ) → holder c'.1 ≡ suc j → (j ≡ id) × Busy w.stage × (w.at ≡ c'.0)
      pub single : (q : ℕ) → q < n → q ≢ i → holder (r.cells q).1 ≢ suc id
      pub fit : Fits r.made r.seat freed' log' id w w.role
      pub knew : Knows freed' log' id (put r.cells i c' (w.at % n)) w.at w.item w.port w.stage
      pub others : (j : ℕ) (d : View T) → j ≢ id → get_elem? s.views j ≡ some d → Fits r.made r.seat freed' log' j d d.role

    pub moved : (k x i id freed' : ℕ) (log' : List (ℕ × T)) (c' : Cell) (home : maybe.Option S) (v w : View T)
        → AreGood Good log' → IsHonest n freed' r.closed log' (put r.cells i c') r.seat (set s.views id w) → Move k x i id freed' log' c' home v w → Queue boxed Good record { words = set s.words k x; homes = set s.homes i home; views = set s.views id w }
    moved k x i id freed' log' c' home v w all_good honest m =
        let words' : List ℕ = set s.words k x in let cells' : ℕ → Cell = put r.cells i c' in let views' : List (View T) = set s.views id w in
        let homes' : Homes S = set s.homes i home in
        let seats : length views' ≡ length s.views = length-set s.views id w in let as_long : length homes' ≡ n = length-set s.homes i home in
        let sum = sums s.views id v w v.stage v.role w.role m.at refl refl refl in
        record {
          slots = record {
            log = log';
            freed = freed';
            late = r.late;
            closed = r.closed;
            cells = cells';
            some_slot = omega arith;
            few_slots = omega arith;
            wide = grind (arith, length-set);
            behind = m.behind;
            tail_is = m.tail;
            none_late = r.none_late;
            good = all_good;
            each_cell = rw as_long (λ j l. at_put r.cells i c' (CellOk boxed n freed' log' words' homes') j m.here (λ other.
                cell_stays boxed n i r.freed freed' r.log log' s.words words' s.homes homes' j (r.cells j) other m.moves m.adds m.more
                (get_or-set_other s.words k (j + 2) x 0 (m.apart j other)) (set_else s.homes i j home other) (r.each_cell j l)));
          };
          made = r.made;
          seat = r.seat;
          few_made = r.few_made;
          seated = rw seats r.seated;
          within = omega arith;
          room_is = omega arith;
          counted = omega arith;
          budgeted = omega arith;
          gathered = collects_after r.closed log' id v w m.at m.role m.sees m.goes;
          unmade = m.unmade;
          each_seat = each_after s.views id w (λ j d. Fits r.made r.seat freed' log' j d d.role) m.fit m.others;
          each_hand = rw as_long (each_after s.views id w (λ j d. Knows freed' log' j (cells' (d.at % n)) d.at d.item d.port d.stage) m.knew (λ j d not e.
              knows_stays r.freed freed' r.log log' j (r.cells (d.at % n)) (cells' (d.at % n)) d.at d.item d.port m.more
              (λ held. at_put r.cells i c' (λ q y. q ≡ d.at % n → Path Cell y (r.cells (d.at % n))) (d.at % n)
              (λ is. absurd (m.loose j not (grind arith))) (λ _ _. refl) refl)
              (grind arith)
              d.stage (r.each_hand j d e)));
          honest = rw as_long honest;
          busy = rw as_long (λ q j l. at_put r.cells i c'
              (λ z y. z ≡ q → holder y.1 ≡ suc j → (u : View T) × (get_elem? views' j ≡ some u) × Busy u.stage × (u.at ≡ y.0)) q
              (λ _ held. let b = m.mine j held in grind (arith, set_here, placed))
              (λ other _ held. let u = r.busy q j l held in
              grind (arith, set_else))
              refl);
        }
