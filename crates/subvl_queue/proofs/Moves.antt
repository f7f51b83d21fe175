-- Each step keeps the rule.
use Rattle.subvl_queue.proofs.Names.{Role, SawOpen, inl, inr, ◌≡◌, ◌≢◌, ℕ, zero, suc, ◌+◌, ◌-◌, ◌*◌, ◌^◌, ◌%◌, ◌<◌, ◌≤◌, ◌⊎◌, Bool, true, false, List, [], ◌∷◌, ◌++◌, length, get_or, set, sym, refl, ap, ◌∙◌, subst, ⊎_elim, arith, mod-lt, length-set, length-append, get_or-set_other, get_or-set_same, lt_of_not-le, cases_Bool, none, some, some-injective, Spent, Lists, AreInRow, IsOut, Path, add-mod_right, ℕ_discrete, dec_le, get_elem?, Option, Some, None, IfSome, bit_or, take-append-le, step, Act, keeps, takes, gives, Valid, carried_after, stepped, Allows, set_here, at_last, at_longer, one_turn, View, Sender, Receiver, Stage, Idle, Asked, Refused, Drew, Late, Holding, total, hand_of, found_of, wait_of, shut_bit, in_hand, in_room, waiting, Gone, Whole, Busy, Cell, Phase, free, writing, full, reading, holder, shown, InPhase, Knows, Fits, Queue, Seated, with_ask, undone, published, drawn, map, asks_of, with_look, holding, freed_of, lated, with_glance, with_total, with_all, reserves, unreserves, claims, publishes, finds_ready, takes_out, finds_closed, closes, gathers, dite, set-get_or, or_shifted_r}
use Rattle.subvl_queue.proofs.Totals.{sums, total_le}
use Rattle.subvl_queue.proofs.Parts.{owned_mine, owned_other, owned_at, owned_all, owned_get, take_next}
use Rattle.subvl_queue.proofs.Honest.{calms, saw_open_after, saw_open_now, saw_open_closing, asks_rightly, undoes_rightly, draws_rightly, publishes_rightly, finds_rightly, misses_rightly, frees_rightly, looks_of}
use Rattle.subvl_queue.proofs.Cells.{hands_few, put, St, Homes, put_here, knows, fits, good_more, holds_none, holds_one, placed, quiet, moved}

pub calm_at : (st st' : Stage) → st ≡ st' → (Busy st' → ⊥) → Busy st → ⊥
calm_at st st' e h b = h (subst Busy e b)

abbrev Goes : {T S : Type 0} → (Option (ℕ × T) → S) → (T → Type 0) → St T S → ℕ → ℕ → Seated T S → (ℕ → Seated T S → Type 0) → ℕ → Type 0
Goes {T} {S} boxed Good s k id me then x = (w : View T) × (a : Act S) × Valid s.homes me.1 a × Queue boxed Good (stepped s k x id me.1 w a)
    × then (get_or s.words k 0) (w, carried_after me.1 a)

-- Two places of one slot, less than a round apart.
one_place : (p q m : ℕ) → p < q + m → q < p + m → p % m ≡ q % m → q ≡ p
one_place p q m a b e = elim (dec_le p q) [ yes d ↦ sym (one_turn p q m d b e) | no d ↦ one_turn q p m (omega arith) a (sym e) ]

module _ {T S : Type 0} (boxed : Option (ℕ × T) → S) where
  -- The slot of the next place is free.
  is_free : (t m F : ℕ) (log : List (ℕ × T)) (homes : Homes S) (i q : ℕ) → length log ≡ t → F ≤ t → t < F + m → q < F + m → t % m ≡ q % m
      → (ph : Phase) → InPhase boxed F log homes i q ph
      → (ph ≡ free) × (get_elem? homes i ≡ some (some (boxed None))) × (t ≡ q)
  is_free t m F log homes i q long a b c lies ph k = grind (arith, one_turn)

  -- The cell of the next place, if its word says that it is ready.
  pub is_ready : (m F : ℕ) (log : List (ℕ × T)) (homes : Homes S) (i q : ℕ) → 0 < m → q < F + m → (ph : Phase) → (ph ≡ reading 0 → ⊥)
      → shown m q ph ≡ suc F → InPhase boxed F log homes i q ph
      → (ph ≡ full) × (q ≡ F) × (q < length log) × ((x : ℕ × T) × (get_elem? log q ≡ some x) × (get_elem? homes i ≡ some (some (boxed (Some x)))))
  is_ready m F log homes i q pos early free idle_cell e k = grind arith
  is_ready m F log homes i q pos early (writing j) idle_cell e k = grind arith
  is_ready m F log homes i q pos early full idle_cell e k = grind arith
  is_ready m F log homes i q pos early (reading j) idle_cell e k = grind arith

  -- If no seat holds a slot, a drawn next place is ready.
  surely : (m F y : ℕ) (log : List (ℕ × T)) (homes : Homes S) (i q : ℕ) → F % m ≡ q % m → q < F + m → F < length log → (ph : Phase)
      → ((j : ℕ) → holder ph ≡ suc j → ⊥) → y ≡ shown m q ph → InPhase boxed F log homes i q ph → y ≡ suc F
  surely m F y log homes i q lies early below free calm e k = grind (arith, one_turn)
  surely m F y log homes i q lies early below (writing j) calm e k = absurd (calm j refl)
  surely m F y log homes i q lies early below full calm e k = grind (arith, one_turn)
  surely m F y log homes i q lies early below (reading j) calm e k = absurd (calm j refl)

  -- The seat that holds a slot is its message's, or the receiver's.
  held_by : (freed : ℕ) (log : List (ℕ × T)) (homes : Homes S) (i j : ℕ) (c : Cell) (at : ℕ) (item : Option (ℕ × T)) (port : ℕ) (x : ℕ × T) (st : Stage)
      → Busy st → Knows freed log j c at item port st → c.0 ≡ freed → get_elem? log freed ≡ some x → InPhase boxed freed log homes i c.0 c.1
      → (x.0 ≡ port) ⊎ (j ≡ 0)
  held_by freed log homes i j c at item port x Drew busy k here logged phase = grind (arith, some-injective)
  held_by freed log homes i j c at item port x Holding busy k here logged phase = grind arith
  held_by freed log homes i j c at item port x st busy k here logged phase = absurd busy

  -- A held slot of the next place's turn is the next place's.
  turn_is : (m F : ℕ) (log : List (ℕ × T)) (homes : Homes S) (i q j : ℕ) → F % m ≡ q % m → q < F + m → (ph : Phase) → holder ph ≡ suc j
      → InPhase boxed F log homes i q ph → q ≡ F
  turn_is m F log homes i q j lies early free held k = absurd (omega arith)
  turn_is m F log homes i q j lies early (writing o) held k = grind (arith, one_turn)
  turn_is m F log homes i q j lies early full held k = absurd (omega arith)
  turn_is m F log homes i q j lies early (reading o) held k = k.0

  -- The seat that writes a slot is its message's.
  writer_is : (freed : ℕ) (log : List (ℕ × T)) (j : ℕ) (c : Cell) (at : ℕ) (item : Option (ℕ × T)) (port : ℕ) (x : ℕ × T) (st : Stage)
      → Busy st → Knows freed log j c at item port st → c.1 ≡ writing j → get_elem? log c.0 ≡ some x → (x.0 ≡ port) × (0 < j)
  writer_is freed log j c at item port x Drew busy k writes logged = (grind (arith, some-injective), k.2)
  writer_is freed log j c at item port x Holding busy k writes logged = absurd (grind arith)
  writer_is freed log j c at item port x st busy k writes logged = absurd busy

  -- A drawn place that isn't being written is ready or read.
  out_by : (m F : ℕ) (log : List (ℕ × T)) (homes : Homes S) (i q p : ℕ) → p % m ≡ q % m → q < F + m → length log ≤ q + m → F ≤ p → p < length log
      → (ph : Phase) → InPhase boxed F log homes i q ph → ((j : ℕ) → ph ≡ writing j → q ≡ p → ⊥) → (q ≡ p) × ((ph ≡ full) ⊎ (ph ≡ reading 0))
  out_by m F log homes i q p lies early late after below free k apart = absurd (let turn = one_turn p q m (omega arith) (omega arith) lies in omega arith)
  out_by m F log homes i q p lies early late after below (writing j) k apart = absurd (apart j refl (one_place p q m (omega arith) (omega arith) lies))
  out_by m F log homes i q p lies early late after below full k apart = (one_place p q m (omega arith) (omega arith) lies, inl refl)
  out_by m F log homes i q p lies early late after below (reading j) k apart =
      (one_place p q m (omega arith) (omega arith) lies, inr (λ z. reading (k.2 z)))

module _ {T : Type 0} where
  -- While a sender isn't gone, the receiver doesn't have the log.
  not_gone : (views : List (View T)) (id : ℕ) (v : View T) → get_elem? views id ≡ some v → v.role ≡ Sender → 0 < id → ((j : ℕ) → Gone views (suc j)) → ⊥
  not_gone views id v at is past gone = let one : suc (id - 1) ≡ id = omega arith in
      let k : v.role ≡ Spent = gone (id - 1) v (subst (λ (z : ℕ). get_elem? views z ≡ some v) (sym one) at) in absurd (cc)

  whole_more : (log log' : List (ℕ × T)) (views : List (View T)) → (((j : ℕ) → Gone views (suc j)) → ⊥) → (o : Option (List (ℕ × T)))
      → Whole log views o → Whole log' views o
  whole_more log log' views not None k = tt
  whole_more log log' views not (Some l) k = absurd (not k.1)

  if_whole : (log : List (ℕ × T)) (views : List (View T)) (F : List (ℕ × T) → Type 0) → (o : Option (List (ℕ × T))) → Whole log views o
      → (((j : ℕ) → Gone views (suc j)) → F log) → IfSome o F
  if_whole log views F o k h = grind arith

module _ {T S : Type 0} {boxed : Option (ℕ × T) → S} {Good : T → Type 0} where
  -- A step that only reads a word.
  reads : (s : St T S) (k id : ℕ) (w : View T) → Queue boxed Good record { words = s.words; homes = s.homes; views = set s.views id w }
      → Queue boxed Good record { words = set s.words k (get_or s.words k 0); homes = s.homes; views = set s.views id w }
  reads s k id w = subst (λ (ws : List ℕ). Queue boxed Good record { words = ws; homes = s.homes; views = set s.views id w }) (sym (set-get_or s.words k 0))

  pub reserves_ok : (n id : ℕ) (me : Seated T S) → me.0.role ≡ Sender → me.0.stage ≡ Idle → me.0.asks < 2 ^ 40
      → Allows (Queue boxed Good) n id me 0 (λ x. (x + (2 ^ 64 - 1)) % 2 ^ 64) (reserves (step n 0 1 0 none) me)
  reserves_ok n id me is was few s r wide at small = go (dec_le (suc (2 ^ 32)) (get_or s.words 0 0))
    where
      held : ℕ
      held = (length r.log - r.freed) + total in_hand s.views

      went : (st : Stage) → hand_of st ≡ 1 → wait_of st ≡ 1 → Knows r.freed r.log id (r.cells (me.0.at % length s.homes)) me.0.at me.0.item me.0.port st
          → length r.log + total in_room s.views + found_of st ≤ r.freed + length s.homes
          → Queue boxed Good (stepped s 0 ((get_or s.words 0 0 + (2 ^ 64 - 1)) % 2 ^ 64) id me.1 (with_ask me.0 st held) keeps)
      went st hand wait knew within =
          let x : ℕ = get_or s.words 0 0 in
          let x' : ℕ = (x + (2 ^ 64 - 1)) % 2 ^ 64 in
          let hands = hands_few s r in
          let now = get_or-set_same s.words 0 x' 0 (omega arith) in
          let honest = asks_rightly (length s.homes) r.freed r.closed r.log r.cells r.seat s.views id me.0 st held r.honest at was hand r.behind (omega arith) in
          quiet s r (set s.words 0 x') id r.late r.closed me.0 (with_ask me.0 st held) honest (grind (arith, fits, length-set, get_or-set_other))

      go : Dec (suc (2 ^ 32) ≤ get_or s.words 0 0)
          → Goes boxed Good s 0 id me (reserves (step n 0 1 0 none) me) ((get_or s.words 0 0 + (2 ^ 64 - 1)) % 2 ^ 64)
      go (yes d) = (with_ask me.0 Asked held, keeps, tt, went Asked refl refl tt (grind (arith, total_le)), grind arith)
      go (no d) = (with_ask me.0 Refused held, keeps, tt, went Refused refl refl tt (omega arith), grind arith)

  -- A slot request without room, or with a late place, is given back.
  pub unreserves_ok : (n id : ℕ) (me : Seated T S) → me.0.role ≡ Sender → (me.0.stage ≡ Refused) ⊎ (me.0.stage ≡ Late)
      → Allows (Queue boxed Good) n id me 0 (λ x. (x + 1) % 2 ^ 64) (unreserves (step n 0 1 0 none) me)
  unreserves_ok n id me is was s r wide at small =
      (back, keeps, tt, ⊎_elim (λ e. given Refused e refl (λ z. z)) (λ e. given Late e refl (λ z. z)) was, (refl, refl))
    where
      back : View T
      back = undone me.0 (me.0.asks_then ++ map asks_of s.views ∷ [])

      given : (st : Stage) → me.0.stage ≡ st → hand_of st ≡ 1 → (Busy st → ⊥)
          → Queue boxed Good (stepped s 0 ((get_or s.words 0 0 + 1) % 2 ^ 64) id me.1 back keeps)
      given st e hand calm =
          let x' : ℕ = (get_or s.words 0 0 + 1) % 2 ^ 64 in
          let now = get_or-set_same s.words 0 x' 0 (omega arith) in
          quiet s r (set s.words 0 x') id r.late r.closed me.0 back (undoes_rightly (length s.homes) r.freed r.closed r.log r.cells r.seat s.views id me.0 r.honest at (ap hand_of e ∙ hand)) (grind (arith, fits, length-set, get_or-set_other))

  pub few_drawn : (s : St T S) (r : Queue boxed Good s) → length r.log + r.late + total waiting s.views ≤ 64 * 2 ^ 40
  few_drawn s r = grind (arith, total_le)

  -- Once each sender has joined, all seats but the receiver's are gone.
  all_gone : (s : St T S) (r : Queue boxed Good s) (u : View T) → get_elem? s.views 0 ≡ some u → u.made ≡ r.made
      → ((k : ℕ) → k < u.made → (i : ℕ) × (l : List (ℕ × T)) × (get_elem? u.joined i ≡ some (k, l))) → (j : ℕ) → Gone s.views (suc j)
  all_gone s r u at0 counted every j d e = by d.role refl
    where
      by : (ro : Role) → d.role ≡ ro → d.role ≡ Spent
      by Sender is = let f = fits s r (suc j) d Sender e is in
          let x = every d.port (omega arith) in
          ((r.gathered u at0).1 x.0 d.port x.1 x.2).1 d (subst (λ (z : ℕ). get_elem? s.views z ≡ some d) f.0 e)
      by Receiver is = let f = fits s r (suc j) d Receiver e is in absurd (omega (arith, f.0))
      by Spent is = is

  -- A place that is ready was drawn.
  ready_below : (s : St T S) (r : Queue boxed Good s) → r.cells (r.freed % length s.homes) ≡ (r.freed, full) → r.freed < length r.log
  ready_below s r is = let ok = r.each_cell (r.freed % length s.homes) (mod-lt r.freed r.some_slot) in
      let k = subst (λ (c : Cell). InPhase boxed r.freed r.log s.homes (r.freed % length s.homes) c.0 c.1) is ok.phase in k.1

  -- Drawing a place: for the message, or a late one if the queue is closed.
  pub claims_ok : (said : Option (ℕ × T)) (x : ℕ × T) (n id : ℕ) (me : Seated T S) → said ≡ Some x → x.0 ≡ me.0.port → Good x.1 → me.0.role ≡ Sender
      → me.0.stage ≡ Asked → me.1 ≡ []
      → Allows (Queue boxed Good) n id me 1 (λ y. (y + 1) % 2 ^ 64) (claims boxed said (step n 1 1 0 none) me)
  claims_ok said x n id me says mine good is was bare s r wide at small = ⊎_elim too_late accepted (cases_Bool r.closed)
    where
      accepted : r.closed ≡ false → Goes boxed Good s 1 id me (claims boxed said (step n 1 1 0 none) me) ((get_or s.words 1 0 + 1) % 2 ^ 64)
      accepted shut =
          let y : ℕ = get_or s.words 1 0 in
          let y' : ℕ = (y + 1) % 2 ^ 64 in
          let m : ℕ = length s.homes in let L : ℕ = length r.log in let F : ℕ = r.freed in let i : ℕ = L % m in
          let bit : shut_bit r.closed ≡ 0 = ap shut_bit shut in
          let bound = few_drawn s r in
          let w = drawn me.0 L x in
          let log' = r.log ++ x ∷ [] in
          let longer = length-append r.log (x ∷ []) in
          let sum = sums s.views id me.0 w Asked Sender Sender at was is is in
          let near : i < m = mod-lt L r.some_slot in
          let ok = r.each_cell i near in
          let fr = is_free boxed L m F r.log s.homes i (r.cells i).0 refl r.behind (omega arith) ok.early (sym ok.lies) (r.cells i).1 ok.phase in
          let knew : Knows F log' id (put r.cells i (L, writing id) i) L (Some x) me.0.port Drew =
          ((put_here r.cells i (L, writing id), (x, refl, at_last r.log x L refl)), (λ y e. grind arith), (fits s r id me.0 Sender at is).3) in
          let fit = fits s r id me.0 Sender at is in
          let unwhole = whole_more r.log log' s.views (not_gone s.views id me.0 at is fit.3) in
          let others : (j : ℕ) (d : View T) → j ≢ id → get_elem? s.views j ≡ some d → Fits r.made r.seat F log' j d d.role =
          grind (arith, fits, owned_other, take-append-le) in
          let more = at_longer r.log (x ∷ []) in
          let all_good = good_more Good r.log x r.good good in
          let now = get_or-set_same s.words 1 y' 0 (omega arith) in (
            w,
            takes i (boxed None),
            fr.1,
            moved s r 1 y' i id F log' (L, writing id) none me.0 w all_good (draws_rightly m F r.closed r.log r.cells r.seat s.views id me.0 x i r.honest at was (ready_below s r) fr.0) (grind (arith, get_or-set_other, holds_none s r id me.0 at, owned_mine, owned_other, placed)),
            ((λ _. (x, says, grind arith, grind arith)), λ big. absurd (omega arith)),
          )

      too_late : r.closed ≡ true → Goes boxed Good s 1 id me (claims boxed said (step n 1 1 0 none) me) ((get_or s.words 1 0 + 1) % 2 ^ 64)
      too_late shut =
          let y : ℕ = get_or s.words 1 0 in
          let y' : ℕ = (y + 1) % 2 ^ 64 in
          let bound = few_drawn s r in
          let now = get_or-set_same s.words 1 y' 0 (omega arith) in (
            lated me.0,
            keeps,
            tt,
            quiet s r (set s.words 1 y') id (suc r.late) r.closed me.0 (lated me.0)
                (calms (length s.homes) r.freed r.closed r.closed r.log r.cells r.seat s.views id me.0 (lated me.0) r.honest at (λ e. e) (λ _. shut)
                (saw_open_after r.closed s.views id me.0 (lated me.0) r.honest.saw_open at refl (λ o. absurd (cc)) refl) (grind arith)) (grind (arith, fits, length-set, get_or-set_other)),
            grind arith,
          )

  pub publishes_ok : (n id : ℕ) (me : Seated T S) (k new : ℕ) → me.0.role ≡ Sender → me.0.stage ≡ Drew → me.1 ≡ (me.0.at % n, boxed me.0.item) ∷ []
      → k ≡ me.0.at % n + 2 → new ≡ me.0.at + 1
      → Allows (Queue boxed Good) n id me k (λ _. new) (λ _ m. publishes (step n k new 0 none) me new m)
  publishes_ok n id me k new is was has word next s r wide at small =
      let F : ℕ = r.freed in let p : ℕ = me.0.at in let i : ℕ = p % length s.homes in
      let kn = knows s r id me.0 Drew at was in
      let slot : p % n ≡ i = grind arith in
      let w = published me.0 (looks_of s.views) in
      let there : (x : ℕ × T) × (get_elem? r.log p ≡ some x) × (get_elem? (set s.homes i (some (boxed me.0.item))) i ≡ some (some (boxed (Some x)))) =
      (kn.0.1.0, kn.0.1.2, grind (arith, set_here)) in
      subst (λ (cs : List (ℕ × S)). Goes boxed Good s k id (me.0, cs) (λ _ u. publishes (step n k new 0 none) (me.0, cs) new u) new)
      (sym (has ∙ ap (λ (z : ℕ). (z, boxed me.0.item) ∷ []) slot)) (
        w,
        gives,
        tt,
        moved s r k new i id F r.log (p, full) (some (boxed me.0.item)) me.0 w r.good
            (publishes_rightly (length s.homes) F r.closed r.log r.cells r.seat s.views id i p me.0 kn.0.1.0 r.honest at was (grind (arith, fits)) refl kn.0.1.2 ((fits s r id me.0 Sender at is).0 ∙ ap r.seat (sym (kn.1 kn.0.1.0 kn.0.1.1))) kn.0.0) (grind (arith, get_or-set_other, get_or-set_same, holds_one s r id me.0 at)),
        (refl, refl),
      )

  none_busy : (s : St T S) (r : Queue boxed Good s) (v : View T) → get_elem? s.views 0 ≡ some v → (Busy v.stage → ⊥) → ((j : ℕ) → Gone s.views (suc j)) → (i j : ℕ)
      → i < length s.homes → holder (r.cells i).1 ≡ suc j → ⊥
  none_busy s r v at calm gone i zero near held = holds_none s r 0 v at calm i near held
  none_busy s r v at calm gone i (suc j) near held = let b = r.busy i (suc j) near held in
      grind arith

  -- A seat that holds a slot is the receiver's or a sender's that isn't gone.
  gone_idle : (s : St T S) (r : Queue boxed Good s) (j : ℕ) (v : View T) → get_elem? s.views j ≡ some v → Busy v.stage
      → (v.role ≡ Sender → v.role ≡ Spent) → (j ≡ 0 → ⊥) → ⊥
  gone_idle s r j v at busy gone apart = by v.role refl
    where
      by : (ro : Role) → v.role ≡ ro → ⊥
      by Sender e = let k : v.role ≡ Spent = gone e in absurd (cc)
      by Receiver e = apart (fits s r j v Receiver at e).0
      by Spent e = subst Busy (fits s r j v Spent at e).1 busy

  -- The messages of a sender at rest are ready, read or taken.
  pub own_out : (s : St T S) (r : Queue boxed Good s) (id : ℕ) (v : View T) → get_elem? s.views id ≡ some v → v.role ≡ Sender → v.stage ≡ Idle
      → (p : ℕ) (x : ℕ × T) → get_elem? r.log p ≡ some x → x.0 ≡ v.port → r.freed ≤ p → IsOut (r.cells (p % length s.homes)) p
  own_out s r id v at is was p x logged mine after =
      let m : ℕ = length s.homes in let i : ℕ = p % m in
      let near = mod-lt p r.some_slot in
      let ok = r.each_cell i near in
      let below = placed r.log p x logged in
      let mine_alone : (j : ℕ) → (r.cells i).1 ≡ writing j → (r.cells i).0 ≡ p → ⊥ = λ j writes here.
      (let b = r.busy i j near (ap holder writes) in
      let same : Path Cell (r.cells (b.0.at % m)) (r.cells i) = ap r.cells (ap (λ (z : ℕ). z % m) b.3 ∙ ok.lies) in
      let k = subst (λ (c : Cell). Knows r.freed r.log j c b.0.at b.0.item b.0.port b.0.stage) same (r.each_hand j b.0 b.1) in
      let w = writer_is boxed r.freed r.log j (r.cells i) b.0.at b.0.item b.0.port x b.0.stage b.2 k writes
      (subst (λ (z : ℕ). get_elem? r.log z ≡ some x) (sym here) logged) in
      gone_idle s r j b.0 b.1 b.2 (λ sends.
      let one : j ≡ id = (fits s r j b.0 Sender b.1 sends).0 ∙ ap r.seat (sym w.0 ∙ mine) ∙ sym (fits s r id v Sender at is).0 in
      let same_view : b.0 ≡ v = some-injective b.0 v (sym b.1 ∙ ap (get_elem? s.views) one ∙ at) in
      absurd (subst Busy (ap (λ (z : View T). z.stage) same_view ∙ was) b.2)) (λ zeroth. let a = w.1 in omega arith)) in
      let o = out_by boxed m r.freed r.log s.homes i (r.cells i).0 p (sym ok.lies) ok.early ok.late after below (r.cells i).1 ok.phase mine_alone in
      ⊎_elim (λ (e : (r.cells i).1 ≡ full). inl (λ z. (o.0 z, e z))) (λ (e : (r.cells i).1 ≡ reading 0). inr (λ z. (o.0 z, e z))) o.1

  -- If its sender is gone, and the receiver holds no slot, no seat holds the slot of the next place.
  not_held : (s : St T S) (r : Queue boxed Good s) (u : View T) (x : ℕ × T) → get_elem? s.views 0 ≡ some u → (Busy u.stage → ⊥)
      → get_elem? r.log r.freed ≡ some x → Gone s.views (r.seat x.0) → (j : ℕ)
      → holder (r.cells (r.freed % length s.homes)).1 ≡ suc j → ⊥
  not_held s r u x at0 calm logged gone j held =
      let m : ℕ = length s.homes in let i : ℕ = r.freed % m in
      let near = mod-lt r.freed r.some_slot in
      let ok = r.each_cell i near in
      let b = r.busy i j near held in
      let here = turn_is boxed m r.freed r.log s.homes i (r.cells i).0 j (sym ok.lies) ok.early (r.cells i).1 held ok.phase in
      let same : Path Cell (r.cells (b.0.at % m)) (r.cells i) = ap r.cells (ap (λ (z : ℕ). z % m) b.3 ∙ ok.lies) in
      let k = subst (λ (c : Cell). Knows r.freed r.log j c b.0.at b.0.item b.0.port b.0.stage) same (r.each_hand j b.0 b.1) in
      let apart : j ≡ 0 → ⊥ = λ e. calm (subst (λ (v : View T). Busy v.stage)
      (some-injective b.0 u (sym (subst (λ (z : ℕ). get_elem? s.views z ≡ some b.0) e b.1) ∙ at0)) b.2) in
      gone_idle s r j b.0 b.1 b.2 (λ sends. ⊎_elim
      (λ (e : x.0 ≡ b.0.port). gone b.0 (subst (λ (z : ℕ). get_elem? s.views z ≡ some b.0) ((fits s r j b.0 Sender b.1 sends).0 ∙ ap r.seat (sym e)) b.1))
      (λ (e : j ≡ 0). absurd (apart e))
      (held_by boxed r.freed r.log s.homes i j (r.cells i) b.0.at b.0.item b.0.port x b.0.stage b.2 k here logged ok.phase)) apart

  -- A message that was brought back is in the list, and its sender is gone.
  is_back : (s : St T S) (r : Queue boxed Good s) (u : View T) (p : ℕ) (y : ℕ × T) → get_elem? s.views 0 ≡ some u → Lists u.joined p y
      → (get_elem? r.log p ≡ some y) × Gone s.views (r.seat y.0)
  is_back s r u p y at0 back =
      let g = (r.gathered u at0).1 back.0 y.0 back.2 back.3 in
      let o = owned_get y.0 0 r.log back.1 p y.1 (subst (λ (l : List (ℕ × T)). get_elem? l back.1 ≡ some (p, y.1)) g.0 back.4) in
      let all : p - 0 ≡ p = omega arith in
      (subst (λ (z : ℕ). get_elem? r.log z ≡ some y) all o.1, g.1)

  -- With one sender, each message that a seat heard of has its index as its place.
  in_row : (s : St T S) (r : Queue boxed Good s) (id : ℕ) (v : View T) → get_elem? s.views id ≡ some v → r.made ≡ 1 → AreInRow v.heard
  in_row s r id v at one i q k p own m e e' =
      let h = r.honest.heard id v at i q k p own m e e' in
      let first : (j : ℕ) (x : ℕ × T) → get_elem? r.log j ≡ some x → x.0 ≡ 0 = λ j x logged.
      let below = lt_of_not-le (λ le. owned_at x.0 0 r.log j x logged refl (r.unmade x.0 le)) in omega arith in
      let below = placed r.log p (k, m) h.logged in
      let all = owned_all k 0 p r.log (λ j x logged. first j x logged ∙ sym (first p (k, m) h.logged)) (omega arith) in
      sym all ∙ h.number

  pub finds_ready_ok : (n id : ℕ) (me : Seated T S) (k p : ℕ) → me.0.role ≡ Receiver → me.0.stage ≡ Idle → me.1 ≡ [] → p ≡ length me.0.taken → k ≡ p % n + 2
      → Allows (Queue boxed Good) n id me k (λ x. x) (finds_ready boxed Good p (step n k 0 0 none) me)
  finds_ready_ok n id me k p is was bare count word s r wide at small =
      let m : ℕ = length s.homes in let L : ℕ = length r.log in let F : ℕ = r.freed in let i : ℕ = p % m in
      let near = mod-lt p r.some_slot in
      let f = fits s r id me.0 Receiver at is in
      let pF : p ≡ F = count ∙ f.2 in
      let ok = r.each_cell i near in
      let q : ℕ = (r.cells i).0 in
      let y : ℕ = get_or s.words k 0 in
      let shows : y ≡ shown m q (r.cells i).1 = grind arith in
      let calm = calm_at me.0.stage Idle was (λ b. b) in
      let at0 = ap (get_elem? s.views) (sym f.0) ∙ at in
      let gath = r.gathered me.0 at0 in
      dite (ℕ_discrete y (suc p))
      (λ hit. let rd = is_ready boxed m F r.log s.homes i q r.some_slot ok.early (r.cells i).1
      (λ e. holds_none s r id me.0 at calm i near (ap holder e ∙ ap suc (sym f.0))) (sym shows ∙ hit ∙ ap suc pF) ok.phase in
      let x = rd.3.0 in
      let w = holding me.0 p x in
      let bound = few_drawn s r in
      let below : p < L = omega arith in
      let logged : get_elem? r.log p ≡ some x = grind arith in
      let knew : Knows F r.log id (put r.cells i (p, reading id) i) p (Some x) me.0.port Holding = ((put_here r.cells i (p, reading id), (x, refl, logged)), pF) in (
        w,
        takes i (boxed (Some x)),
        rd.3.2,
        moved s r k y i id F r.log (p, reading id) none me.0 w r.good
            (finds_rightly m F r.closed r.log r.cells r.seat s.views id i me.0 p x r.honest at f.0 is was (λ k. ((rd.1 ∙ sym pF) k, rd.0 k))) (grind (arith, get_or-set_other, get_or-set_same, holds_none s r id me.0 at)),
        (
          (λ _. (
            x,
            (
              record {
                few = omega arith;
                few_ports = omega arith;
                port = lt_of_not-le (λ le. owned_at x.0 0 r.log p x logged refl (r.unmade x.0 (omega arith)));
                below = grind arith;
                listed = grind arith;
                heard = λ y hears. some-injective x y (sym logged ∙ (r.honest.heard id me.0 at hears.0 hears.1 y.0 p hears.2 y.1 hears.3 hears.4).logged);
                back = λ y comes. some-injective x y (sym logged ∙ (is_back s r me.0 p y at0 comes).0);
              },
              r.good p x logged,
              grind arith,
            ),
          )),
          (λ miss. absurd (miss hit)),
          λ one. in_row s r id me.0 at (sym f.3 ∙ one),
        ),
      ))
      (λ miss. let not_ready : r.cells (F % m) ≡ (F, full) → ⊥ = grind arith in
      let out_ready : IsOut (r.cells (p % m)) p → ⊥ = ⊎_elim (λ (e : r.cells i ≡ (p, full)). not_ready (subst (λ (z : ℕ). r.cells (z % m) ≡ (z, full)) pF e))
      (λ (e : r.cells i ≡ (p, reading 0)). holds_none s r id me.0 at calm i near (ap (λ (c : Cell). holder c.1) e ∙ ap suc (sym f.0))) in (
        with_look me.0 false,
        keeps,
        tt,
        reads s k id (with_look me.0 false) (quiet s r s.words id r.late r.closed me.0 (with_look me.0 false)
            (misses_rightly m F r.closed r.log r.cells r.seat s.views id me.0 r.honest at is not_ready) (grind (arith, fits))),
        (
          (λ hit. absurd (miss hit)),
          (λ _. (
            grind arith,
            if_whole r.log s.views (λ l. length l ≤ p) me.0.all gath.2 (λ gone. let past = lt_of_not-le (λ (below : suc p ≤ L).
                miss (surely boxed m F y r.log s.homes i q (grind arith) ok.early (omega arith) (r.cells i).1
                (λ j e. none_busy s r me.0 at0 calm gone i j near e) shows ok.phase ∙ ap suc (sym pF))) in omega arith),
            λ y comes. let back = is_back s r me.0 p y at0 comes in
                let logged : get_elem? r.log F ≡ some y = subst (λ (z : ℕ). get_elem? r.log z ≡ some y) pF back.0 in
                let below = placed r.log F y logged in
                let slot : i ≡ F % m = ap (λ (z : ℕ). z % m) pF in
                miss (surely boxed m F (get_or s.words k 0) r.log s.homes i q (grind arith) ok.early below (r.cells i).1
                (λ j e. not_held s r me.0 y at0 calm logged back.1 j (subst (λ (z : ℕ). holder (r.cells z).1 ≡ suc j) slot e)) shows ok.phase ∙ ap suc (sym pF)),
            λ y hears. let o = r.honest.heard id me.0 at hears.0 hears.1 y.0 p hears.2 y.1 hears.3 hears.4 in
                out_ready (o.out (omega arith)),
          )),
          λ one. in_row s r id me.0 at (sym f.3 ∙ one),
        ),
      ))

  pub takes_out_ok : (n id : ℕ) (me : Seated T S) → me.0.role ≡ Receiver → me.0.stage ≡ Holding → me.1 ≡ (me.0.at % n, boxed None) ∷ []
      → Allows (Queue boxed Good) n id me 0 (λ y. (y + 1) % 2 ^ 64) (takes_out (step n 0 1 0 none) me)
  takes_out_ok n id me is was has s r wide at small =
      let m : ℕ = length s.homes in let F : ℕ = r.freed in let p : ℕ = me.0.at in let i : ℕ = p % m in
      let kn = knows s r id me.0 Holding at was in
      let x = kn.0.1.0 in
      let y : ℕ = get_or s.words 0 0 in
      let y' : ℕ = (y + 1) % 2 ^ 64 in
      let w = freed_of me.0 x (me.0.asks_then ++ map asks_of s.views ∷ []) in
      let logged : get_elem? r.log F ≡ some x = grind arith in
      let next = take_next r.log F x logged in
      let now = get_or-set_same s.words 0 y' 0 (omega arith) in
      let count = length-append me.0.taken (x ∷ []) in
      subst (λ (cs : List (ℕ × S)). Goes boxed Good s 0 id (me.0, cs) (takes_out (step n 0 1 0 none) (me.0, cs)) y') {x = (i, boxed None) ∷ []}
      (grind arith) (
        w,
        gives,
        tt,
        moved s r 0 y' i id (suc F) r.log (p + m, free) (some (boxed None)) me.0 w r.good
            (frees_rightly m F r.closed r.log r.cells r.seat s.views id i (p + m) me.0 x r.honest at (grind (arith, fits)) is was (kn.0.0 ∙ ap (λ (z : ℕ). (z, reading id)) kn.1)) (grind (arith, get_or-set_other, set_here, holds_one s r id me.0 at, add-mod_right)),
        (refl, (x, kn.0.1.1, refl)),
      )

  -- A load of the tail, to see whether the queue is closed.
  pub finds_closed_ok : (n id : ℕ) (me : Seated T S) → me.0.role ≡ Sender → me.0.stage ≡ Idle
      → Allows (Queue boxed Good) n id me 1 (λ x. x) (finds_closed (step n 1 0 0 none) me)
  finds_closed_ok n id me is was s r wide at small = go (dec_le (2 ^ 63) (get_or s.words 1 0))
    where
      went : (b : Bool) → (b ≡ true → r.closed ≡ true) → SawOpen r.closed (set s.views id (with_glance me.0 b)) → Queue boxed Good (stepped s 1 (get_or s.words 1 0) id me.1 (with_glance me.0 b) keeps)
      went b right saw_open = reads s 1 id (with_glance me.0 b) (quiet s r s.words id r.late r.closed me.0 (with_glance me.0 b)
          (calms (length s.homes) r.freed r.closed r.closed r.log r.cells r.seat s.views id me.0 (with_glance me.0 b) r.honest at (λ e. e) right saw_open (grind arith))
          (grind (arith, fits)))

      closed_is : 2 ^ 63 ≤ get_or s.words 1 0 → r.closed ≡ true
      closed_is d = let bound = few_drawn s r in ⊎_elim (λ (e : r.closed ≡ true). e)
          (λ (e : r.closed ≡ false). let bit : shut_bit r.closed ≡ 0 = ap shut_bit e in absurd (omega arith)) (cases_Bool r.closed)

      open_is : (2 ^ 63 ≤ get_or s.words 1 0 → ⊥) → r.closed ≡ false
      open_is d = ⊎_elim (λ (e : r.closed ≡ true). let bit : shut_bit r.closed ≡ 2 ^ 63 = ap shut_bit e in absurd (d (omega arith)))
          (λ (e : r.closed ≡ false). e) (cases_Bool r.closed)

      go : Dec (2 ^ 63 ≤ get_or s.words 1 0) → Goes boxed Good s 1 id me (finds_closed (step n 1 0 0 none) me) (get_or s.words 1 0)
      go (yes d) = (with_glance me.0 true, keeps, tt, went true (λ _. closed_is d) (saw_open_after r.closed s.views id me.0 (with_glance me.0 true) r.honest.saw_open at refl (λ o. absurd (cc)) refl), grind arith)
      go (no d) = (with_glance me.0 false, keeps, tt, went false (λ e. absurd (cc)) (saw_open_now r.closed (set s.views id (with_glance me.0 false)) (open_is d)), grind arith)

  -- The first close.
  pub closes_ok : (n id : ℕ) (me : Seated T S) → me.0.role ≡ Receiver → me.0.stage ≡ Idle → me.0.total ≡ None
      → Allows (Queue boxed Good) n id me 1 (λ y. bit_or y (2 ^ 63)) (closes (step n 1 (2 ^ 63) 0 none) me)
  closes_ok n id me is was none' s r wide at small =
      let y : ℕ = get_or s.words 1 0 in
      let y' : ℕ = bit_or y (2 ^ 63) in
      let bound = few_drawn s r in
      let more = or_shifted_r 1 63 y (grind arith) in
      let now = get_or-set_same s.words 1 y' 0 (omega arith) in (
        with_total me.0 y (map (λ v. v.glances) s.views),
        keeps,
        tt,
        quiet s r (set s.words 1 y') id r.late true me.0 (with_total me.0 y (map (λ v. v.glances) s.views))
            (calms (length s.homes) r.freed r.closed true r.log r.cells r.seat s.views id me.0 (with_total me.0 y (map (λ v. v.glances) s.views)) r.honest at (λ _. refl) (λ _. refl)
            (saw_open_closing true s.views id (with_total me.0 y (map (λ v. v.glances) s.views)) (fits s r id me.0 Receiver at is).0 is refl) (grind arith)) (grind (arith, fits, length-set, get_or-set_other)),
        grind arith,
      )

  -- Once every sender has joined, the receiver has the log itself.
  pub gathers_ok : (n id : ℕ) (me : Seated T S) → me.0.role ≡ Receiver → me.0.stage ≡ Idle
      → ((k : ℕ) → k < me.0.made → (i : ℕ) × (l : List (ℕ × T)) × (get_elem? me.0.joined i ≡ some (k, l)))
      → Allows (Queue boxed Good) n id me 1 (λ x. x) (gathers Good (step n 1 0 0 none) me)
  gathers_ok n id me is was every s r wide at small =
      let f = fits s r id me.0 Receiver at is in
      let g = r.gathered me.0 (grind arith) in
      let gone : (j : ℕ) → Gone s.views (suc j) = all_gone s r me.0 (ap (get_elem? s.views) (sym f.0) ∙ at) f.3 every in
      let bound = few_drawn s r in (
        with_all me.0 r.log,
        keeps,
        tt,
        reads s 1 id (with_all me.0 r.log) (quiet s r s.words id r.late r.closed me.0 (with_all me.0 r.log)
            (calms (length s.homes) r.freed r.closed r.closed r.log r.cells r.seat s.views id me.0 (with_all me.0 r.log) r.honest at (λ e. e) (r.honest.shut id me.0 at)
            (saw_open_after r.closed s.views id me.0 (with_all me.0 r.log) r.honest.saw_open at refl (λ o. (o, refl)) refl) (grind arith)) (grind (arith, fits))),
        grind arith,
      )
