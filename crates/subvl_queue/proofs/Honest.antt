-- How what the seats found stays true.
use Rattle.subvl_queue.proofs.Names.{owned, take, take-append-le, SawOpen, Gone, Whole, Role, Option, None, Some, IsOut, AreHeard, cond, eqb, at_longer, ◌≡◌, ◌≢◌, ℕ, zero, suc, ◌+◌, ◌%◌, ◌<◌, ◌≤◌, ◌⊎◌, inl, inr, length-append, Bool, true, false, List, [], ◌∷◌, ◌++◌, map, length, get_or, set, sym, refl, ap, ◌∙◌, subst, arith, some, some-injective, some-ne-none, get_elem?, at_set, set_else, View, Sender, Receiver, Spent, Stage, Idle, Asked, Drew, Holding, Cell, free, writing, full, reading, Path, with_ask, undone, drawn, published, holding, with_look, freed_of, first_view, total, hand_of, in_hand, asks_of, gave_back, rest_of, AreShut, MadeReady, MissesNone, FoundLoads, IsHonest}
use Rattle.subvl_queue.proofs.Totals.{total_set, total_end}
use Rattle.subvl_queue.proofs.Cells.{Longer, placed, put, at_put, each_after}

pub at_before : {A : Type 0} (l m : List A) (i : ℕ) (a : A) → i < length l → get_elem? (l ++ m) i ≡ some a → get_elem? l i ≡ some a
at_before [] m i a below e = absurd (omega arith)
at_before (x ∷ xs) m zero a below e = e
at_before (x ∷ xs) m (suc i) a below e = at_before xs m i a (omega arith) e

in_hand_rests : (st : Stage) → hand_of st ≡ 1 → rest_of st ≡ 0
in_hand_rests st e = grind arith

free_not_out : (c : Cell) (q : ℕ) → c.1 ≡ free → IsOut c q → ⊥
free_not_out c q is o = grind arith

writing_not_out : (c : Cell) (p j q : ℕ) → c ≡ (p, writing j) → IsOut c q → ⊥
writing_not_out c p j q is o = grind arith

full_out : (c : Cell) (p id q : ℕ) → c ≡ (p, full) → id ≡ 0 → IsOut c q → IsOut (p, reading id) q
full_out c p id q is zeroth o = grind arith

read_past : (c : Cell) (p id q : ℕ) → c ≡ (p, reading id) → IsOut c q → suc p ≤ q → ⊥
read_past c p id q is o le = grind arith

-- A cell that was neither ready nor read is put.
outs_put : (slots freed i : ℕ) (cells : ℕ → Cell) (c : Cell) → ((p : ℕ) → IsOut (cells i) p → freed ≤ p → IsOut c p)
    → (p : ℕ) → freed ≤ p → IsOut (cells (p % slots)) p → IsOut (put cells i c (p % slots)) p
outs_put slots freed i cells c here p le out = at_put cells i c (λ q d. IsOut (cells q) p → IsOut d p) (p % slots) (λ o. here p o le) (λ _ o. o) out

pub push_cases : {A : Type 0} (l : List A) (a : A) (F : ℕ → A → Type 0) → F (length l) a → ((j : ℕ) (b : A) → get_elem? l j ≡ some b → F j b)
    → (j : ℕ) (b : A) → get_elem? (l ++ a ∷ []) j ≡ some b → F j b
push_cases [] a F here other zero b e = grind arith
push_cases [] a F here other (suc j) b e = grind arith
push_cases (x ∷ xs) a F here other zero b e = other zero b e
push_cases (x ∷ xs) a F here other (suc j) b e = push_cases xs a (λ q. F (suc q)) here (λ q. other (suc q)) j b e

module _ {T : Type 0} where
  -- The number of the receiver's looks.
  abbrev pub looks_of : List (View T) → ℕ
  looks_of [] = 0
  looks_of (u ∷ views) = u.looks

  pub looks_are : (views : List (View T)) (u : View T) → get_elem? views 0 ≡ some u → looks_of views ≡ u.looks
  looks_are [] u e = absurd (some-ne-none u (sym e))
  looks_are (x ∷ views) u e = ap (λ (v : View T). v.looks) (some-injective x u e)

  pub map_at : (f : View T → ℕ) (views : List (View T)) (j : ℕ) (d : View T) → get_elem? views j ≡ some d → get_or (map f views) j 0 ≡ f d
  map_at f [] j d e = absurd (some-ne-none d (sym e))
  map_at f (x ∷ views) zero d e = ap f (some-injective x d e)
  map_at f (x ∷ views) (suc j) d e = map_at f views j d e

  pub member_le : (f : View T → ℕ) (l : List (View T)) (j : ℕ) (v : View T) → get_elem? l j ≡ some v → f v ≤ total f l
  member_le f [] j v e = absurd (some-ne-none v (sym e))
  member_le f (x ∷ xs) zero v e = grind arith
  member_le f (x ∷ xs) (suc j) v e = let r = member_le f xs j v e in omega arith

  gave_back_same : (j asks : ℕ) (v w : View T) → w.asks_then ≡ v.asks_then → gave_back j asks w ≡ gave_back j asks v
  gave_back_same j asks v w e = ap (λ (l : List (List ℕ)). total (λ d. cond (eqb (get_or d j 0) asks) 1 0) l) e

  -- One place more was given back.
  pub gave_back_more : (v w : View T) (views : List (View T)) (j : ℕ) (d : View T) → w.asks_then ≡ v.asks_then ++ map asks_of views ∷ []
      → get_elem? views j ≡ some d → gave_back j d.asks w ≡ gave_back j d.asks v + 1
  gave_back_more v w views j d is at = let here = map_at asks_of views j d at in grind (arith, total_end)

  -- What changes when one seat takes a step.
  pub record Turned (views : List (View T)) (id : ℕ) (v w : View T) : Type 0 where
    pub at : get_elem? views id ≡ some v
    pub role : w.role ≡ v.role
    pub looks : id ≡ 0 → v.looks ≤ w.looks
    pub ready : (w.looks_then ≡ v.looks_then) ⊎ ((id ≢ 0) × (w.looks_then ≡ looks_of views))

  pub shut_after : (closed closed' : Bool) (views : List (View T)) (id : ℕ) (w : View T) → AreShut closed views
      → (closed ≡ true → closed' ≡ true) → (w.shut ≡ true → closed' ≡ true) → AreShut closed' (set views id w)
  shut_after closed closed' views id w old goes own j d at shut = grind (arith, at_set)

  -- A step that is no close and no check that finds the queue open.
  pub saw_open_after : (closed : Bool) (views : List (View T)) (id : ℕ) (v w : View T) → SawOpen closed views → get_elem? views id ≡ some v
      → w.glances_then ≡ v.glances_then → (w.shut ≡ false → (v.shut ≡ false) × (w.glances ≡ v.glances)) → w.role ≡ v.role → SawOpen closed (set views id w)
  saw_open_after closed views id v w old at same glances role is u j d at0 at_d sends open' = grind (arith, at_set)

  -- A check that finds the queue open, while it is.
  pub saw_open_now : (closed : Bool) (views : List (View T)) → closed ≡ false → SawOpen closed views
  saw_open_now closed views open' is u j d at0 at_d sends shut = absurd (cc)

  -- The close.
  pub saw_open_closing : (closed : Bool) (views : List (View T)) (id : ℕ) (w : View T) → id ≡ 0 → w.role ≡ Receiver → w.glances_then ≡ map (λ v. v.glances) views
      → SawOpen closed (set views id w)
  saw_open_closing closed views id w zeroth role saw_open is u j d at0 at_d sends open' =
      let first : u ≡ w = grind (arith, at_set) in
      each_after views id w (λ q y. y.role ≡ Sender → y.glances ≤ get_or u.glances_then q 0)
      (λ s. absurd (cc))
      (λ q y other e s. let here = map_at (λ (v : View T). v.glances) views q y e in
      let list : u.glances_then ≡ map (λ v. v.glances) views = ap (λ (v : View T). v.glances_then) first ∙ saw_open in
      let at_q = ap (λ (l : List ℕ). get_or l q 0) list in omega arith) j d at_d sends

  pub ready_after : (views : List (View T)) (id : ℕ) (v w : View T) → MadeReady views → Turned views id v w → MadeReady (set views id w)
  ready_after views id v w old t u j d at0 at = grind (arith, at_set, looks_are)

  -- A step that leaves the look and the next place as they were.
  pub misses_after : (n freed : ℕ) (log log' : List (ℕ × T)) (cells cells' : ℕ → Cell) (seat : ℕ → ℕ) (views : List (View T)) (id : ℕ) (v w : View T)
      → MissesNone n freed log cells seat views → Turned views id v w → w.looks ≡ v.looks → w.found ≡ v.found
      → (cells' (freed % n) ≡ (freed, full) → cells (freed % n) ≡ (freed, full))
      → ((x : ℕ × T) → cells' (freed % n) ≡ (freed, full) → get_elem? log' freed ≡ some x → get_elem? log freed ≡ some x)
      → MissesNone n freed log' cells' seat (set views id w)
  misses_after n freed log log' cells cells' seat views id v w old t looks found cell logged u d x at0 at_d none' is at_x =
      grind (arith, at_set, looks_are)

  -- A look that found the next place ready.
  pub misses_found : (n freed : ℕ) (log : List (ℕ × T)) (cells : ℕ → Cell) (seat : ℕ → ℕ) (views : List (View T)) (id : ℕ) (w : View T)
      → id ≡ 0 → w.found ≡ true → MissesNone n freed log cells seat (set views id w)
  misses_found n freed log cells seat views id w zeroth found u d x at0 at_d none' is at_x = grind (arith, at_set)

  -- A look that found the next place not ready.
  pub misses_not : (n freed : ℕ) (log : List (ℕ × T)) (cells : ℕ → Cell) (seat : ℕ → ℕ) (views : List (View T))
      → (cells (freed % n) ≡ (freed, full) → ⊥) → MissesNone n freed log cells seat views
  misses_not n freed log cells seat views not u d x at0 at_d none' is at_x = absurd (not is)

  -- A place is made ready.
  pub misses_ready : (n freed : ℕ) (log : List (ℕ × T)) (cells : ℕ → Cell) (seat : ℕ → ℕ) (views : List (View T)) (id i p : ℕ) (v w : View T) (y : ℕ × T)
      → MissesNone n freed log cells seat views → get_elem? views id ≡ some v → id ≢ 0 → w.looks_then ≡ looks_of views
      → i ≡ p % n → get_elem? log p ≡ some y → id ≡ seat y.0
      → MissesNone n freed log (put cells i (p, full)) seat (set views id w)
  misses_ready n freed log cells seat views id i p v w y old at apart ready slot at_p mine u d x at0 at_d none' is at_x =
      at_put cells i (p, full) (λ q c. q ≡ freed % n → Path Cell c (freed, full) → d.looks_then ≡ u.looks) (freed % n)
      (λ here same. grind (arith, at_set, looks_are))
      (λ other here same. grind (arith, at_set, looks_are))
      refl is

  pub loads_after : (freed freed' : ℕ) (log log' : List (ℕ × T)) (views : List (View T)) (id : ℕ) (v w : View T)
      → FoundLoads freed log views → Turned views id v w
      → (w.role ≡ Sender → 0 < w.asks → w.load + 1 + freed' + hand_of v.stage + gave_back id w.asks v
      ≤ length log' + total in_hand views + hand_of w.stage + rest_of w.stage + total (gave_back id w.asks) views)
      → ((j : ℕ) (d : View T) → j ≢ id → get_elem? views j ≡ some d → freed' + length log + hand_of v.stage + gave_back j d.asks v
      ≤ freed + length log' + hand_of w.stage + gave_back j d.asks w)
      → FoundLoads freed' log' (set views id w)
  loads_after freed freed' log log' views id v w old t own others =
      let hands = total_set in_hand views id v w t.at in
      each_after views id w (λ j d. d.role ≡ Sender → 0 < d.asks → d.load + 1 + freed' + gave_back j d.asks d
      ≤ length log' + total in_hand (set views id w) + rest_of d.stage + total (gave_back j d.asks) (set views id w))
      (λ is some'. let e = total_set (gave_back id w.asks) views id v w t.at in let o = own is some' in omega arith)
      (λ j d other at is some'. let e = total_set (gave_back j d.asks) views id v w t.at in let o = others j d other at in
      let k = old j d at is some' in omega arith)

  -- A sender's own load, after a step that is no slot request.
  pub own_load : (freed : ℕ) (log log' : List (ℕ × T)) (views : List (View T)) (id : ℕ) (v w : View T)
      → FoundLoads freed log views → get_elem? views id ≡ some v → v.role ≡ w.role → w.asks ≡ v.asks → w.load ≡ v.load
      → hand_of v.stage + rest_of v.stage + length log ≤ hand_of w.stage + rest_of w.stage + length log'
      → w.role ≡ Sender → 0 < w.asks → w.load + 1 + freed + hand_of v.stage + gave_back id w.asks v
      ≤ length log' + total in_hand views + hand_of w.stage + rest_of w.stage + total (gave_back id w.asks) views
  own_load freed log log' views id v w old at same asks load more is some' =
      let k = old id v at (grind arith) (grind arith) in grind arith

  -- A log with more messages at its end.
  abbrev pub Grows : List (ℕ × T) → List (ℕ × T) → Type 0
  Grows log log' = Longer log log' × ((p : ℕ) → p ≤ length log → take p log' ≡ take p log)

  pub grows_none : (log : List (ℕ × T)) → Grows log log
  grows_none log = (λ p x e. e, λ p le. refl)

  pub grows_one : (log : List (ℕ × T)) (x : ℕ × T) → Grows log (log ++ x ∷ [])
  grows_one log x = (at_longer log (x ∷ []), λ p le. take-append-le p log (x ∷ []) le)

  -- What was heard stays true.
  heard_stays : (slots freed freed' : ℕ) (log log' : List (ℕ × T)) (cells cells' : ℕ → Cell) (heard : List (ℕ × List (ℕ × T)))
      → AreHeard slots freed log cells heard → freed ≤ freed' → Grows log log'
      → ((p : ℕ) → freed' ≤ p → IsOut (cells (p % slots)) p → IsOut (cells' (p % slots)) p) → AreHeard slots freed' log' cells' heard
  heard_stays slots freed freed' log log' cells cells' heard old more grows outs i q k p own m at at_own =
      let h = old i q k p own m at at_own in
      let below = placed log p (k, m) h.logged in
      record {
        logged = grows.0 p (k, m) h.logged;
        number = ap (λ (l : List (ℕ × T)). length (owned k 0 l)) (grows.1 p (omega arith)) ∙ h.number;
        out = λ le. outs p le (h.out (omega arith));
      }

  pub heard_after : (slots freed freed' : ℕ) (log log' : List (ℕ × T)) (cells cells' : ℕ → Cell) (views : List (View T)) (id : ℕ) (v w : View T)
      → ((j : ℕ) (d : View T) → get_elem? views j ≡ some d → AreHeard slots freed log cells d.heard) → get_elem? views id ≡ some v → w.heard ≡ v.heard
      → freed ≤ freed' → Grows log log' → ((p : ℕ) → freed' ≤ p → IsOut (cells (p % slots)) p → IsOut (cells' (p % slots)) p)
      → (j : ℕ) (d : View T) → get_elem? (set views id w) j ≡ some d → AreHeard slots freed' log' cells' d.heard
  heard_after slots freed freed' log log' cells cells' views id v w old at same more grows outs =
      let stays : (j : ℕ) (d : View T) → get_elem? views j ≡ some d → AreHeard slots freed' log' cells' d.heard =
      λ j d e. heard_stays slots freed freed' log log' cells cells' d.heard (old j d e) more grows outs in
      each_after views id w (λ _ y. AreHeard slots freed' log' cells' y.heard)
      (subst (λ (l : List (ℕ × List (ℕ × T))). AreHeard slots freed' log' cells' l) (sym same) (stays id v at)) (λ j d _ e. stays j d e)

  pub record Turns (slots freed freed' : ℕ) (closed closed' : Bool) (log log' : List (ℕ × T)) (cells' : ℕ → Cell) (views : List (View T))
      (id : ℕ) (v w : View T) : Type 0 where
    pub turned : Turned views id v w
    pub closes : closed ≡ true → closed' ≡ true
    pub shut : w.shut ≡ true → closed' ≡ true
    pub own : w.role ≡ Sender → 0 < w.asks → w.load + 1 + freed' + hand_of v.stage + gave_back id w.asks v
        ≤ length log' + total in_hand views + hand_of w.stage + rest_of w.stage + total (gave_back id w.asks) views
    pub others : (j : ℕ) (d : View T) → j ≢ id → get_elem? views j ≡ some d → freed' + length log + hand_of v.stage + gave_back j d.asks v
        ≤ freed + length log' + hand_of w.stage + gave_back j d.asks w

  pub honest_after : (slots freed freed' : ℕ) (closed closed' : Bool) (log log' : List (ℕ × T)) (cells cells' : ℕ → Cell) (seat : ℕ → ℕ) (views : List (View T))
      (id : ℕ) (v w : View T) → IsHonest slots freed closed log cells seat views → SawOpen closed' (set views id w)
      → MissesNone slots freed' log' cells' seat (set views id w)
      → ((j : ℕ) (d : View T) → get_elem? (set views id w) j ≡ some d → AreHeard slots freed' log' cells' d.heard)
      → Turns slots freed freed' closed closed' log log' cells' views id v w → IsHonest slots freed' closed' log' cells' seat (set views id w)
  honest_after slots freed freed' closed closed' log log' cells cells' seat views id v w old saw_open misses heard t = record {
    saw_open = saw_open;
    shut = shut_after closed closed' views id w old.shut t.closes t.shut;
    ready = ready_after views id v w old.ready t.turned;
    misses = misses;
    heard = heard;
    loads = loads_after freed freed' log log' views id v w old.loads t.turned t.own t.others;
  }

  -- A step by a seat that keeps what it heard, and neither closes the queue nor checks whether it is closed.
  steps : (slots freed freed' : ℕ) (closed : Bool) (log log' : List (ℕ × T)) (cells cells' : ℕ → Cell) (seat : ℕ → ℕ) (views : List (View T))
      (id : ℕ) (v w : View T) → IsHonest slots freed closed log cells seat views → Turned views id v w
      → (w.glances ≡ v.glances) × (w.glances_then ≡ v.glances_then) × (w.shut ≡ v.shut) × (w.heard ≡ v.heard) → freed ≤ freed' → Grows log log'
      → MissesNone slots freed' log' cells' seat (set views id w)
      → ((p : ℕ) → freed' ≤ p → IsOut (cells (p % slots)) p → IsOut (cells' (p % slots)) p)
      → (w.role ≡ Sender → 0 < w.asks → w.load + 1 + freed' + hand_of v.stage + gave_back id w.asks v
      ≤ length log' + total in_hand views + hand_of w.stage + rest_of w.stage + total (gave_back id w.asks) views)
      → ((j : ℕ) (d : View T) → j ≢ id → get_elem? views j ≡ some d → freed' + length log + hand_of v.stage + gave_back j d.asks v
      ≤ freed + length log' + hand_of w.stage + gave_back j d.asks w)
      → IsHonest slots freed' closed log' cells' seat (set views id w)
  steps slots freed freed' closed log log' cells cells' seat views id v w old t same more grows misses outs own others =
      honest_after slots freed freed' closed closed log log' cells cells' seat views id v w old
      (saw_open_after closed views id v w old.saw_open t.at same.1 (λ o. (sym same.2 ∙ o, same.0)) t.role) misses
      (heard_after slots freed freed' log log' cells cells' views id v w old.heard t.at same.3 more grows outs)
      record {
        turned = t;
        closes = λ e. e;
        shut = λ e. old.shut id v t.at (sym same.2 ∙ e);
        own = own;
        others = others;
      }

  -- What a step keeps that gives nothing back, moves no place and is no look and no slot request.
  pub record Calm (v w : View T) : Type 0 where
    pub role : w.role ≡ v.role
    pub ready : w.looks_then ≡ v.looks_then
    pub looks : w.looks ≡ v.looks
    pub found : w.found ≡ v.found
    pub asks_then : w.asks_then ≡ v.asks_then
    pub heard : w.heard ≡ v.heard
    pub asks : w.asks ≡ v.asks
    pub load : w.load ≡ v.load
    pub hand : hand_of w.stage ≡ hand_of v.stage
    pub rest : rest_of w.stage ≡ rest_of v.stage

  pub calms : (slots freed : ℕ) (closed closed' : Bool) (log : List (ℕ × T)) (cells : ℕ → Cell) (seat : ℕ → ℕ) (views : List (View T))
      (id : ℕ) (v w : View T) → IsHonest slots freed closed log cells seat views → get_elem? views id ≡ some v
      → (closed ≡ true → closed' ≡ true) → (w.shut ≡ true → closed' ≡ true) → SawOpen closed' (set views id w) → Calm v w
      → IsHonest slots freed closed' log cells seat (set views id w)
  calms slots freed closed closed' log cells seat views id v w old at closes shut saw_open c =
      let t : Turned views id v w = record { at = at; role = c.role; looks = λ _. omega arith; ready = inl c.ready } in
      honest_after slots freed freed closed closed' log log cells cells seat views id v w old saw_open
      (misses_after slots freed log log cells cells seat views id v w old.misses t c.looks c.found (λ e. e) (λ x _ e. e))
      (heard_after slots freed freed log log cells cells views id v w old.heard at c.heard (omega arith) (grows_none log) (λ p le o. o))
      record {
        turned = t;
        closes = closes;
        shut = shut;
        own = own_load freed log log views id v w old.loads at (sym c.role) c.asks c.load (omega arith);
        others = grind arith;
      }

  -- A slot request finds the load.
  pub asks_rightly : (slots freed : ℕ) (closed : Bool) (log : List (ℕ × T)) (cells : ℕ → Cell) (seat : ℕ → ℕ) (views : List (View T))
      (id : ℕ) (v : View T) (st : Stage) (load : ℕ) → IsHonest slots freed closed log cells seat views → get_elem? views id ≡ some v
      → v.stage ≡ Idle → hand_of st ≡ 1 → freed ≤ length log → load + freed ≡ length log + total in_hand views
      → IsHonest slots freed closed log cells seat (set views id (with_ask v st load))
  asks_rightly slots freed closed log cells seat views id v st load old at was hand behind is =
      let w = with_ask v st load in
      let t : Turned views id v w = record { at = at; role = refl; looks = λ _. omega arith; ready = inl refl } in
      let all = member_le (gave_back id (v.asks + 1)) views id v at in
      let none' : hand_of v.stage ≡ 0 = ap hand_of was in
      steps slots freed freed closed log log cells cells seat views id v w old t (refl, refl, refl, refl) (omega arith) (grows_none log)
      (misses_after slots freed log log cells cells seat views id v w old.misses t refl refl (λ e. e) (λ x _ e. e))
      (λ p le o. o)
      (λ _ _. omega arith) (λ j d _ _. omega arith)

  -- A slot request is given back.
  pub undoes_rightly : (slots freed : ℕ) (closed : Bool) (log : List (ℕ × T)) (cells : ℕ → Cell) (seat : ℕ → ℕ) (views : List (View T))
      (id : ℕ) (v : View T) → IsHonest slots freed closed log cells seat views → get_elem? views id ≡ some v → hand_of v.stage ≡ 1
      → IsHonest slots freed closed log cells seat (set views id (undone v (v.asks_then ++ map asks_of views ∷ [])))
  undoes_rightly slots freed closed log cells seat views id v old at hand =
      let w = undone v (v.asks_then ++ map asks_of views ∷ []) in
      let t : Turned views id v w = record { at = at; role = refl; looks = λ _. omega arith; ready = inl refl } in
      let none' = in_hand_rests v.stage hand in
      steps slots freed freed closed log log cells cells seat views id v w old t (refl, refl, refl, refl) (omega arith) (grows_none log)
      (misses_after slots freed log log cells cells seat views id v w old.misses t refl refl (λ e. e) (λ x _ e. e))
      (λ p le o. o)
      (own_load freed log log views id v w old.loads at refl refl refl (omega arith)) (λ j d _ there. let more = gave_back_more v w views j d refl there in omega arith)

  -- A place is drawn.
  pub draws_rightly : (slots freed : ℕ) (closed : Bool) (log : List (ℕ × T)) (cells : ℕ → Cell) (seat : ℕ → ℕ) (views : List (View T))
      (id : ℕ) (v : View T) (x : ℕ × T) (i : ℕ) → IsHonest slots freed closed log cells seat views → get_elem? views id ≡ some v
      → v.stage ≡ Asked → (cells (freed % slots) ≡ (freed, full) → freed < length log) → (cells i).1 ≡ free
      → IsHonest slots freed closed (log ++ x ∷ []) (put cells i (length log, writing id)) seat (set views id (drawn v (length log) x))
  draws_rightly slots freed closed log cells seat views id v x i old at was below unused =
      let w = drawn v (length log) x in
      let t : Turned views id v w = record { at = at; role = refl; looks = λ _. omega arith; ready = inl refl } in
      let hand : hand_of v.stage ≡ 1 = ap hand_of was in
      let none' : rest_of v.stage ≡ 0 = ap rest_of was in
      let longer = length-append log (x ∷ []) in
      let same : put cells i (length log, writing id) (freed % slots) ≡ (freed, full) → cells (freed % slots) ≡ (freed, full) =
      at_put cells i (length log, writing id) (λ q c. c ≡ (freed, full) → cells q ≡ (freed, full)) (freed % slots)
      (grind arith) (λ _ e. e) in
      steps slots freed freed closed log (log ++ x ∷ []) cells (put cells i (length log, writing id)) seat views id v w old t (refl, refl, refl, refl) (omega arith) (grows_one log x)
      (misses_after slots freed log (log ++ x ∷ []) cells (put cells i (length log, writing id)) seat views id v w old.misses t refl refl same
      (λ y is e. at_before log (x ∷ []) freed y (below (same is)) e))
      (outs_put slots freed i cells (length log, writing id) (λ q o le. absurd (free_not_out (cells i) q unused o)))
      (own_load freed log (log ++ x ∷ []) views id v w old.loads at refl refl refl (omega arith)) (λ j d _ _. omega arith)

  -- A place is made ready.
  pub publishes_rightly : (slots freed : ℕ) (closed : Bool) (log : List (ℕ × T)) (cells : ℕ → Cell) (seat : ℕ → ℕ) (views : List (View T))
      (id i p : ℕ) (v : View T) (y : ℕ × T) → IsHonest slots freed closed log cells seat views → get_elem? views id ≡ some v
      → v.stage ≡ Drew → id ≢ 0 → i ≡ p % slots → get_elem? log p ≡ some y → id ≡ seat y.0 → cells i ≡ (p, writing id)
      → IsHonest slots freed closed log (put cells i (p, full)) seat (set views id (published v (looks_of views)))
  publishes_rightly slots freed closed log cells seat views id i p v y old at was apart slot at_p mine held =
      let w = published v (looks_of views) in
      let t : Turned views id v w = record { at = at; role = refl; looks = λ _. omega arith; ready = inr (apart, refl) } in
      let hand : hand_of v.stage ≡ 0 = ap hand_of was in
      let none' : rest_of v.stage ≡ 0 = ap rest_of was in
      steps slots freed freed closed log log cells (put cells i (p, full)) seat views id v w old t (refl, refl, refl, refl) (omega arith) (grows_none log)
      (misses_ready slots freed log cells seat views id i p v w y old.misses at apart refl slot at_p mine)
      (outs_put slots freed i cells (p, full) (λ q o le. absurd (writing_not_out (cells i) p id q held o)))
      (own_load freed log log views id v w old.loads at refl refl refl (omega arith)) (λ j d _ _. omega arith)

  -- A look finds the next place ready.
  pub finds_rightly : (slots freed : ℕ) (closed : Bool) (log : List (ℕ × T)) (cells : ℕ → Cell) (seat : ℕ → ℕ) (views : List (View T))
      (id i : ℕ) (v : View T) (p : ℕ) (x : ℕ × T) → IsHonest slots freed closed log cells seat views → get_elem? views id ≡ some v
      → id ≡ 0 → v.role ≡ Receiver → v.stage ≡ Idle → cells i ≡ (p, full)
      → IsHonest slots freed closed log (put cells i (p, reading id)) seat (set views id (holding v p x))
  finds_rightly slots freed closed log cells seat views id i v p x old at zeroth is was ready =
      let w = holding v p x in
      let t : Turned views id v w = record { at = at; role = refl; looks = λ _. omega arith; ready = inl refl } in
      let hand : hand_of v.stage ≡ 0 = ap hand_of was in
      steps slots freed freed closed log log cells (put cells i (p, reading id)) seat views id v w old t (refl, refl, refl, refl) (omega arith) (grows_none log)
      (misses_found slots freed log (put cells i (p, reading id)) seat views id w zeroth refl)
      (outs_put slots freed i cells (p, reading id) (λ q o le. full_out (cells i) p id q ready zeroth o))
      (λ r _. absurd (cc)) (λ j d _ _. omega arith)

  -- A look finds the next place not ready.
  pub misses_rightly : (slots freed : ℕ) (closed : Bool) (log : List (ℕ × T)) (cells : ℕ → Cell) (seat : ℕ → ℕ) (views : List (View T))
      (id : ℕ) (v : View T) → IsHonest slots freed closed log cells seat views → get_elem? views id ≡ some v → v.role ≡ Receiver
      → (cells (freed % slots) ≡ (freed, full) → ⊥)
      → IsHonest slots freed closed log cells seat (set views id (with_look v false))
  misses_rightly slots freed closed log cells seat views id v old at is not =
      let w = with_look v false in
      let t : Turned views id v w = record { at = at; role = refl; looks = λ _. omega arith; ready = inl refl } in
      steps slots freed freed closed log log cells cells seat views id v w old t (refl, refl, refl, refl) (omega arith) (grows_none log)
      (misses_not slots freed log cells seat (set views id w) not)
      (λ p le o. o)
      (λ r _. absurd (cc)) (λ j d _ _. omega arith)

  -- The next place is given back.
  pub frees_rightly : (slots freed : ℕ) (closed : Bool) (log : List (ℕ × T)) (cells : ℕ → Cell) (seat : ℕ → ℕ) (views : List (View T))
      (id i p : ℕ) (v : View T) (x : ℕ × T) → IsHonest slots freed closed log cells seat views → get_elem? views id ≡ some v
      → id ≡ 0 → v.role ≡ Receiver → v.stage ≡ Holding → cells i ≡ (freed, reading id)
      → IsHonest slots (suc freed) closed log (put cells i (p, free)) seat (set views id (freed_of v x (v.asks_then ++ map asks_of views ∷ [])))
  frees_rightly slots freed closed log cells seat views id i p v x old at zeroth is was held =
      let w = freed_of v x (v.asks_then ++ map asks_of views ∷ []) in
      let t : Turned views id v w = record { at = at; role = refl; looks = λ _. omega arith; ready = inl refl } in
      let hand : hand_of v.stage ≡ 0 = ap hand_of was in
      steps slots freed (suc freed) closed log log cells (put cells i (p, free)) seat views id v w old t (refl, refl, refl, refl) (omega arith) (grows_none log)
      (misses_found slots (suc freed) log (put cells i (p, free)) seat views id w zeroth refl)
      (outs_put slots (suc freed) i cells (p, free) (λ q o le. absurd (read_past (cells i) freed id q held o le)))
      (λ r _. absurd (cc)) (λ j d _ there. let more = gave_back_more v w views j d refl there in omega arith)

  -- A new table.
  pub starts_rightly : (slots : ℕ) (seat : ℕ → ℕ) → IsHonest slots 0 false [] (λ i. (i, free)) seat (first_view {T = T} ∷ [])
  starts_rightly slots seat = record {
    shut = λ j v e shut. grind arith;
    saw_open = saw_open_now false (first_view ∷ []) refl;
    ready = λ u j v at0 at. grind arith;
    misses = λ u d x at0 at_d none' is at_x. absurd (some-ne-none x (sym at_x));
    loads = λ j v e is some'. grind arith;
    heard = λ j d e i q k p own m e' e''. grind arith;
  }

  -- A seat more, before its first step.
  pub adds_rightly : (slots freed : ℕ) (closed : Bool) (log : List (ℕ × T)) (cells : ℕ → Cell) (seat seat' : ℕ → ℕ) (views : List (View T)) (k : View T)
      → IsHonest slots freed closed log cells seat views → k.shut ≡ false → k.glances ≡ 0 → k.looks_then ≡ 0 → k.asks ≡ 0 → k.asks_then ≡ [] → hand_of k.stage ≡ 0
      → 0 < length views → ((x : ℕ × T) → get_elem? log freed ≡ some x → (seat' x.0 ≡ seat x.0) × (seat x.0 < length views))
      → AreHeard slots freed log cells k.heard
      → IsHonest slots freed closed log cells seat' (views ++ k ∷ [])
  adds_rightly slots freed closed log cells seat seat' views k old shut glances ready asks asks_then hand some' made told =
      let first : (u : View T) → get_elem? (views ++ k ∷ []) 0 ≡ some u → get_elem? views 0 ≡ some u =
      λ u e. at_before views (k ∷ []) 0 u some' e in
      let none_back : (j a : ℕ) → gave_back j a k ≡ 0 = grind arith in
      record {
        shut = push_cases views k (λ j d. d.shut ≡ true → closed ≡ true) (grind arith) old.shut;
        saw_open = λ is u j v at0. push_cases views k (λ q d. d.role ≡ Sender → d.shut ≡ false → d.glances ≤ get_or u.glances_then q 0)
            (λ _ _. omega arith) (λ q d. old.saw_open is u q d (first u at0)) j v;
        ready = λ u j v at0 at. push_cases views k (λ q d. d.looks_then ≤ u.looks) (omega arith) (λ q d e. old.ready u q d (first u at0) e) j v at;
        misses = λ u d x at0 at_d none' is at_x. push_cases views k (λ q y. q ≡ seat' x.0 → y.looks_then ≡ u.looks)
            (λ e. let m = made x at_x in absurd (omega arith))
            (λ q y e same. old.misses u y x (first u at0) (subst (λ (z : ℕ). get_elem? views z ≡ some y) (same ∙ (made x at_x).0) e) none' is at_x)
            (seat' x.0) d at_d refl;
        loads = push_cases views k (λ j d. d.role ≡ Sender → 0 < d.asks → d.load + 1 + freed + gave_back j d.asks d
            ≤ length log + total in_hand (views ++ k ∷ []) + rest_of d.stage + total (gave_back j d.asks) (views ++ k ∷ []))
            (λ _ lt. absurd (omega arith))
            (λ j d e is lt. let h = total_end in_hand views k in let t = total_end (gave_back j d.asks) views k in let z = none_back j d.asks in
            let o = old.loads j d e is lt in omega arith);
        heard = push_cases views k (λ _ y. AreHeard slots freed log cells y.heard) told old.heard;
      }

  -- A receiver's view before and after it takes in a seat, and the seat's.
  pub record TakenIn (v w u k : View T) : Type 0 where
    pub role : v.role ≡ Receiver
    pub role' : u.role ≡ Receiver
    pub looks : v.looks ≡ u.looks
    pub found : u.found ≡ v.found
    pub ready : u.looks_then ≡ v.looks_then
    pub shut : u.shut ≡ v.shut
    pub saw_open : u.glances_then ≡ v.glances_then
    pub asks_then : u.asks_then ≡ v.asks_then
    pub hand : hand_of u.stage ≡ hand_of v.stage
    pub left : k.role ≡ Spent
    pub left_shut : k.shut ≡ false
    pub left_ready : k.looks_then ≡ w.looks_then
    pub left_eases : k.asks_then ≡ w.asks_then
    pub left_hand : hand_of k.stage ≡ hand_of w.stage
    pub left_heard : k.heard ≡ []

  -- A seat is taken in.
  pub joins_rightly : (slots freed : ℕ) (closed : Bool) (log : List (ℕ × T)) (cells : ℕ → Cell) (seat : ℕ → ℕ) (views : List (View T)) (id other : ℕ) (v w u k : View T)
      → IsHonest slots freed closed log cells seat views → get_elem? views id ≡ some v → get_elem? views other ≡ some w → other ≢ id → id ≡ 0
      → TakenIn v w u k
      → AreHeard slots freed log cells u.heard
      → IsHonest slots freed closed log cells seat (set (set views id u) other k)
  joins_rightly slots freed closed log cells seat views id other v w u k old at at' two zeroth c told =
      let views' : List (View T) = set (set views id u) other k in
      let at_other = set_else views id other u two ∙ at' in
      let first : (d : View T) → get_elem? views' 0 ≡ some d → d ≡ u = grind (arith, at_set) in
      let hands = total_set in_hand views id v u at in
      let hands' = total_set in_hand (set views id u) other w k at_other in
      let at_first : get_elem? views 0 ≡ some v = subst (λ (q : ℕ). get_elem? views q ≡ some v) zeroth at in
      let v_in_time = old.ready v id v at_first at in
      let w_in_time = old.ready v other w at_first at' in
      let each : (F : ℕ → View T → Type 0) → F other k → F id u → ((j : ℕ) (c : View T) → j ≢ other → j ≢ id → get_elem? views j ≡ some c → F j c)
      → (j : ℕ) (c : View T) → get_elem? views' j ≡ some c → F j c = λ F at_k at_u rest_of'.
      each_after (set views id u) other k F at_k (λ j c not e.
      each_after views id u (λ q y. q ≢ other → F q y) (λ _. at_u) (λ q y not' e' n. rest_of' q y n not' e') j c e not) in
      record {
        shut = each (λ j d. d.shut ≡ true → closed ≡ true) (λ e. absurd (cc)) (λ e. old.shut id v at (sym c.shut ∙ e)) (λ j d _ _ e. old.shut j d e);
        saw_open = λ is d j y at0 at_j. let now : v.glances_then ≡ d.glances_then = sym (ap (λ (t : View T). t.glances_then) (first d at0) ∙ c.saw_open) in
            each (λ q y. y.role ≡ Sender → y.shut ≡ false → y.glances ≤ get_or d.glances_then q 0) (λ r _. absurd (cc)) (λ r _. absurd (cc))
            (λ q y _ _ e r o. subst (λ (l : List ℕ). y.glances ≤ get_or l q 0) now (old.saw_open is v q y at_first e r o)) j y at_j;
        ready = λ d j y at0 at_j. let now : v.looks ≡ d.looks = c.looks ∙ sym (ap (λ (t : View T). t.looks) (first d at0)) in
            each (λ q y. y.looks_then ≤ d.looks) (omega arith) (omega arith)
            (λ q y _ _ e. subst (λ (l : ℕ). y.looks_then ≤ l) now (old.ready v q y at_first e)) j y at_j;
        misses = λ d y x at0 at_y none'' full' at_x. let is_u = first d at0 in
            let none_found : v.found ≡ false = sym (ap (λ (t : View T). t.found) is_u ∙ c.found) ∙ none'' in
            let now : v.looks ≡ d.looks = c.looks ∙ sym (ap (λ (t : View T). t.looks) is_u) in
            each (λ q y. q ≡ seat x.0 → y.looks_then ≡ d.looks)
            (λ same. c.left_ready ∙ old.misses v w x at_first (subst (λ (q : ℕ). get_elem? views q ≡ some w) same at') none_found full' at_x ∙ now)
            (λ same. c.ready ∙ old.misses v v x at_first (subst (λ (q : ℕ). get_elem? views q ≡ some v) same at) none_found full' at_x ∙ now)
            (λ q y _ _ e same. old.misses v y x at_first (subst (λ (q : ℕ). get_elem? views q ≡ some y) same e) none_found full' at_x ∙ now)
            (seat x.0) y at_y refl;
        loads = each (λ j d. d.role ≡ Sender → 0 < d.asks → d.load + 1 + freed + gave_back j d.asks d
            ≤ length log + total in_hand views' + rest_of d.stage + total (gave_back j d.asks) views')
            (λ r _. absurd (cc)) (λ r _. absurd (cc))
            (λ j d _ _ e r lt. let t = total_set (gave_back j d.asks) views id v u at in
            let t' = total_set (gave_back j d.asks) (set views id u) other w k at_other in
            let same = gave_back_same j d.asks v u c.asks_then in
            let same' = gave_back_same j d.asks w k c.left_eases in
            let o = old.loads j d e r lt in omega arith);
        heard = each (λ _ y. AreHeard slots freed log cells y.heard)
            (subst (λ (l : List (ℕ × List (ℕ × T))). AreHeard slots freed log cells l) (sym c.left_heard) (λ i q n p own m e. absurd (some-ne-none (n, own) (sym e))))
            told (λ q y _ _ e. old.heard q y e);
      }

  pub is_gone : (v : View T) → v.role ≡ Receiver → v.role ≡ Spent → (ro : Role) → ro ≡ Spent
  is_gone v is gone ro = absurd (cc)

  pub whole_seats : (log : List (ℕ × T)) (views views' : List (View T)) → ((j : ℕ) → Gone views (suc j) → Gone views' (suc j)) → (o : Option (List (ℕ × T)))
      → Whole log views o → Whole log views' o
  whole_seats log views views' more None k = tt
  whole_seats log views views' more (Some l) k = (k.0, λ j. more j (k.1 j))
