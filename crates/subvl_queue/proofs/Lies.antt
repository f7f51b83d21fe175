-- A step that says what the words don't keeps no rule, whatever the unseen parts of the rule are chosen to be.
-- In each lemma `s` is the table before the step, and `w` the view that the seat claims after it.
use Rattle.subvl_queue.proofs.Names.{◌≡◌, ◌≢◌, ℕ, zero, suc, ◌+◌, ◌^◌, ◌%◌, ◌<◌, ◌≤◌, ⊎_elim, true, false, List, [], ◌∷◌, length, get_or, set, sym, refl, ap, ◌∙◌, subst, arith, mod-lt, lt_of_not-le, cases_Bool, some, get_elem?, Option, View, Sender, Receiver, Idle, total, hand_of, rest_of, shown, shut_bit, in_hand, gave_back, Cell, full, holder, Queue, set_here, set_else}
use Rattle.subvl_queue.proofs.Totals.{total_set}
use Rattle.subvl_queue.proofs.Honest.{member_le}
use Rattle.subvl_queue.proofs.Parts.{owned_at}
use Rattle.subvl_queue.proofs.Cells.{St, fits, placed, holds_none}
use Rattle.subvl_queue.proofs.Moves.{few_drawn, is_ready, calm_at}

there : {A : Type 0} (l : List A) (i : ℕ) → i < length l → (a : A) × (get_elem? l i ≡ some a)
there [] i lt = absurd (omega arith)
there (x ∷ xs) zero lt = (x, refl)
there (x ∷ xs) (suc i) lt = there xs i (omega arith)

module _ {T S : Type 0} where
  -- the table after a step that writes no word and moves no slot
  abbrev pub claimed : St T S → ℕ → View T → St T S
  claimed s id w = record { words = s.words; homes = s.homes; views = set s.views id w }

module _ {T S : Type 0} {boxed : Option (ℕ × T) → S} {Good : T → Type 0} where
  -- READY: a look that finds nothing, while the next place is ready.
  pub lie_ready : (s : St T S) (r : Queue boxed Good s) (u w : View T) → get_elem? s.views 0 ≡ some u → u.role ≡ Receiver
      → r.cells (r.freed % length s.homes) ≡ (r.freed, full)
      → w.role ≡ Receiver → w.stage ≡ Idle → w.taken ≡ u.taken → w.looks ≡ u.looks + 1 → w.found ≡ false
      → Queue boxed Good (claimed s 0 w) → ⊥
  lie_ready s r u w at is hit role rests taken looks found q =
      let m : ℕ = length s.homes in
      let s' = claimed s 0 w in
      let at' : get_elem? s'.views 0 ≡ some w = set_here s.views 0 w (placed s.views 0 u at) in
      let f = fits s r 0 u Receiver at is in
      let f' = fits s' q 0 w Receiver at' role in
      let same : q.freed ≡ r.freed = sym f'.2 ∙ ap length taken ∙ f.2 in
      let i : ℕ = q.freed % m in
      let near = mod-lt q.freed q.some_slot in
      let ok = q.each_cell i near in
      let old = r.each_cell (r.freed % m) (mod-lt r.freed r.some_slot) in
      let word : get_or s.words (r.freed % m + 2) 0 ≡ suc r.freed = old.shows ∙ ap (λ (c : Cell). shown m c.0 c.1) hit in
      let calm = calm_at w.stage Idle rests (λ b. b) in
      let rd = is_ready boxed m q.freed q.log s.homes i (q.cells i).0 q.some_slot ok.early (q.cells i).1
      (λ e. holds_none s' q 0 w at' calm i near (ap holder e)) (sym ok.shows ∙ ap (λ (z : ℕ). get_or s.words (z % m + 2) 0) same ∙ word ∙ ap suc (sym same)) ok.phase in
      let x = rd.3.0 in
      let ready : q.cells i ≡ (q.freed, full) = λ k. (rd.1 k, rd.0 k) in
      let logged : get_elem? q.log q.freed ≡ some x = subst (λ (z : ℕ). get_elem? q.log z ≡ some x) rd.1 rd.3.1 in
      let below : x.0 < q.made = lt_of_not-le (λ le. owned_at x.0 0 q.log q.freed x logged refl (q.unmade x.0 le)) in
      let seat = q.seated x.0 below in
      let d = there s'.views (q.seat x.0) seat.1 in
      let late : d.0.looks_then ≡ w.looks = q.honest.misses w d.0 x at' d.1 found ready logged in
      let before : get_elem? s.views (q.seat x.0) ≡ some d.0 = sym (set_else s.views 0 (q.seat x.0) w (λ e. omega arith)) ∙ d.1 in
      let early = r.honest.ready u (q.seat x.0) d.0 at before in
      omega arith

  -- TAIL: a check that finds the queue closed, while it is open.
  pub lie_closed : (s : St T S) (r : Queue boxed Good s) (id : ℕ) (v w : View T) → get_elem? s.views id ≡ some v → r.closed ≡ false → w.shut ≡ true
      → Queue boxed Good (claimed s id w) → ⊥
  lie_closed s r id v w at open' shut q =
      let s' = claimed s id w in
      let is : q.closed ≡ true = q.honest.shut id w (set_here s.views id w (placed s.views id v at)) shut in
      let bit : shut_bit r.closed ≡ 0 = ap shut_bit open' in
      let bit' : shut_bit q.closed ≡ 2 ^ 63 = ap shut_bit is in
      let few = few_drawn s r in
      let few' = few_drawn s' q in
      omega arith

  -- ROOM: a slot request that finds more than there is, and is given back, in a queue that is open.
  pub lie_full : (s : St T S) (r : Queue boxed Good s) (id capacity : ℕ) (v w u : View T) → get_elem? s.views id ≡ some v → id ≢ 0
      → get_elem? s.views 0 ≡ some u → u.role ≡ Receiver → r.closed ≡ false
      → v.role ≡ Sender → v.stage ≡ Idle → length r.log + total in_hand s.views < r.freed + capacity
      → total (gave_back id (v.asks + 1)) s.views ≡ 0
      → w.role ≡ Sender → w.stage ≡ Idle → w.asks ≡ v.asks + 1 → capacity ≤ w.load
      → Queue boxed Good (claimed s id w) → ⊥
  lie_full s r id capacity v w u at apart at0 receives open' sends rests room none role rests' asks full' q =
      let s' = claimed s id w in
      let at' = set_here s.views id w (placed s.views id v at) in
      let at0' : get_elem? s'.views 0 ≡ some u = set_else s.views id 0 w (λ e. apart (sym e)) ∙ at0 in
      let few = few_drawn s r in
      let few' = few_drawn s' q in
      let bit : shut_bit r.closed ≡ 0 = ap shut_bit open' in
      let open'' : q.closed ≡ false = ⊎_elim
      (λ (e : q.closed ≡ true). let bit' : shut_bit q.closed ≡ 2 ^ 63 = ap shut_bit e in absurd (omega arith))
      (λ (e : q.closed ≡ false). e) (cases_Bool q.closed) in
      let bit'' : shut_bit q.closed ≡ 0 = ap shut_bit open'' in
      let none_late = r.none_late open' in
      let none_late' = q.none_late open'' in
      let same : q.freed ≡ r.freed = sym (fits s' q 0 u Receiver at0' receives).2 ∙ (fits s r 0 u Receiver at0 receives).2 in
      let k = q.honest.loads id w at' role (omega arith) in
      let k' = subst (λ (a : ℕ). w.load + 1 + q.freed + gave_back id a w ≤ length q.log + total in_hand s'.views + rest_of w.stage
      + total (gave_back id a) s'.views) asks k in
      let hands = total_set in_hand s.views id v w at in
      let asks_then = total_set (gave_back id (v.asks + 1)) s.views id v w at in
      let mine = member_le (gave_back id (v.asks + 1)) s.views id v at in
      let hand : hand_of v.stage ≡ 0 = ap hand_of rests in
      let hand' : hand_of w.stage ≡ 0 = ap hand_of rests' in
      let rest : rest_of w.stage ≡ 1 = ap rest_of rests' in
      omega arith

  -- TAIL: a check that finds the queue open, once it is closed.
  pub lie_open : (s : St T S) (r : Queue boxed Good s) (id : ℕ) (v w u : View T) → get_elem? s.views id ≡ some v → id ≢ 0 → get_elem? s.views 0 ≡ some u
      → r.closed ≡ true → get_or u.glances_then id 0 ≡ v.glances → w.role ≡ Sender → w.shut ≡ false → w.glances ≡ v.glances + 1
      → Queue boxed Good (claimed s id w) → ⊥
  lie_open s r id v w u at apart at0 closed' saw_open role open' glances q =
      let s' = claimed s id w in
      let at0' : get_elem? s'.views 0 ≡ some u = set_else s.views id 0 w (λ e. apart (sym e)) ∙ at0 in
      let few = few_drawn s r in
      let few' = few_drawn s' q in
      let bit : shut_bit r.closed ≡ 2 ^ 63 = ap shut_bit closed' in
      let is : q.closed ≡ true = ⊎_elim (λ (e : q.closed ≡ true). e)
      (λ (e : q.closed ≡ false). let bit' : shut_bit q.closed ≡ 0 = ap shut_bit e in absurd (omega arith)) (cases_Bool q.closed) in
      let k = q.honest.saw_open is u id w at0' (set_here s.views id w (placed s.views id v at)) role open' in
      omega arith
