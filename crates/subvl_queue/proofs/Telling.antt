-- A seat that carries what a sender made ready to the receiver.
use Rattle.subvl_queue.proofs.Names.{◌⊎◌, inl, inr, ⊎_elim, lt_of_not-le, ◌≡◌, ◌≢◌, ℕ, zero, suc, ◌-◌, ◌%◌, List, [], ◌∷◌, ◌++◌, length, set, sym, refl, ap, ◌∙◌, subst, arith, length-set, length-append, some, some-injective, some-ne-none, get_elem?, Option, Splits, Joins, set_else, at_longer, View, Sender, Receiver, Spent, Idle, Gone, Collects, Knows, Fits, Queue, AreHeard, owned, take, telling, hearing, no_seat}
use Rattle.subvl_queue.proofs.Totals.{sums, sums_end}
use Rattle.subvl_queue.proofs.Cells.{St, fits, placed, each_after}
use Rattle.subvl_queue.proofs.Honest.{is_gone, whole_seats, at_before, push_cases, adds_rightly, joins_rightly}
use Rattle.subvl_queue.proofs.Parts.{owned_get, owned_number, owned_at}
use Rattle.subvl_queue.proofs.Moves.{own_out}
use Rattle.atomic_table.proofs.Lists.{set_again}

at_either : {A : Type 0} (l m : List A) (i : ℕ) (a : A) → get_elem? (l ++ m) i ≡ some a → (get_elem? l i ≡ some a) ⊎ ((q : ℕ) × (get_elem? m q ≡ some a))
at_either [] m i a e = inr (i, e)
at_either (x ∷ xs) m zero a e = inl e
at_either (x ∷ xs) m (suc i) a e = at_either xs m i a e

module _ {T : Type 0} where
  gone_more : (views : List (View T)) (k : View T) (j : ℕ) → k.role ≡ Spent → Gone views j → Gone (views ++ k ∷ []) j
  gone_more views k j is gone d e = push_cases views k (λ q y. q ≡ j → y.role ≡ Spent) (λ _. is)
      (λ q y at same. gone y (subst (λ (z : ℕ). get_elem? views z ≡ some y) same at)) j d e refl

module _ {T S : Type 0} {boxed : Option (ℕ × T) → S} {Good : T → Type 0} where
  -- What a sender at rest tells is true.
  tells_truly : (s : St T S) (r : Queue boxed Good s) (id : ℕ) (v : View T) → get_elem? s.views id ≡ some v → v.role ≡ Sender → v.stage ≡ Idle
      → AreHeard (length s.homes) r.freed r.log r.cells ((v.port, v.own) ∷ [])
  tells_truly s r id v at is was zero q k p own m e e' =
      let f = fits s r id v Sender at is in
      let same = some-injective (v.port, v.own) (k, own) e in
      let port : v.port ≡ k = ap (λ (z : ℕ × List (ℕ × T)). z.0) same in
      let list : own ≡ owned k 0 r.log = sym (ap (λ (z : ℕ × List (ℕ × T)). z.1) same) ∙ f.1 ∙ ap (λ (z : ℕ). owned z 0 r.log) port in
      let mine = subst (λ (l : List (ℕ × T)). get_elem? l q ≡ some (p, m)) list e' in
      let all : p - 0 ≡ p = omega arith in
      let logged : get_elem? r.log p ≡ some (k, m) = subst (λ (z : ℕ). get_elem? r.log z ≡ some (k, m)) all (owned_get k 0 r.log q p m mine).1 in
      record {
        logged = logged;
        number = subst (λ (z : ℕ). length (owned k 0 (take z r.log)) ≡ q) all (owned_number k 0 r.log q p m mine);
        out = own_out s r id v at is was p (k, m) logged (sym port);
      }
  tells_truly s r id v at is was (suc i) q k p own m e e' = absurd (some-ne-none (k, own) (sym e))

  pub tells_ok : (id : ℕ) (v : View T) → v.role ≡ Sender → v.stage ≡ Idle → Splits (Queue boxed Good) id v v (telling v)
  tells_ok id v is was s r at =
      let k : View T = telling v in
      let vs = s.views in
      let n : ℕ = length s.homes in
      let longer = length-append vs (k ∷ []) in
      let there = placed vs id v at in
      let ends = sums_end vs k in
      let told : Queue boxed Good record { words = s.words; homes = s.homes; views = vs ++ k ∷ [] } = record {
        slots = r.slots;
        made = r.made;
        seat = r.seat;
        few_made = r.few_made;
        seated = λ q lt. let b = r.seated q lt in (b.0, omega arith);
        within = omega arith;
        room_is = omega arith;
        counted = omega arith;
        budgeted = omega arith;
        each_seat = push_cases vs k (λ j d. Fits r.made r.seat r.freed r.log j d d.role) (refl, refl) r.each_seat;
        each_hand = push_cases vs k (λ j d. Knows r.freed r.log j (r.cells (d.at % n)) d.at d.item d.port d.stage) tt r.each_hand;
        unmade = r.unmade;
        gathered = λ u e. let g = r.gathered u (at_before vs (k ∷ []) 0 u (omega arith) e) in (
          g.0,
          λ i q l e'. let j = g.1 i q l e' in (j.0, gone_more vs k (r.seat q) refl j.1),
          whole_seats r.log vs (vs ++ k ∷ []) (λ j. gone_more vs k (suc j) refl) u.all g.2,
        );
        honest = adds_rightly n r.freed r.closed r.log r.cells r.seat r.seat vs k r.honest refl refl refl refl refl refl (omega arith)
            (λ x at_x. (refl, (r.seated x.0 (lt_of_not-le (λ le. owned_at x.0 0 r.log r.freed x at_x refl (r.unmade x.0 le)))).1))
            (tells_truly s r id v at is was);
        busy = λ i j near held. let b = r.busy i j near held in grind (arith, at_longer);
      } in
      subst (λ (l : List (View T)). Queue boxed Good record { words = s.words; homes = s.homes; views = l ++ k ∷ [] }) (sym (set_again vs id v at)) told

  -- The receiver hears what a seat tells.
  pub hears_ok : (id : ℕ) (v : View T) (other : ℕ) (w : View T) → v.role ≡ Receiver → v.stage ≡ Idle → w.role ≡ Spent → w.looks_then ≡ 0 → w.asks_then ≡ []
      → Joins (Queue boxed Good) id v other w (hearing v w) no_seat
  hears_ok id v other w is was ended ready asks_then s r at two at' =
      let u : View T = hearing v w in
      let vs = set s.views id u in
      let k : View T = no_seat in
      let vs' = set vs other k in
      let n : ℕ = length s.homes in
      let f = fits s r id v Receiver at is in
      let seats : length vs' ≡ length s.views = grind (arith, length-set) in
      let at_old = sym (set_else s.views id other u two) ∙ at' in
      let h = fits s r other w Spent at_old ended in
      let sum = sums s.views id v u v.stage Receiver Receiver at refl is is in
      let ends = sums vs other w k Idle Spent Spent at' h.1 ended refl in
      let each : (F : ℕ → View T → Type 0) → F other k → F id u → ((j : ℕ) (c : View T) → j ≢ other → j ≢ id → get_elem? s.views j ≡ some c → F j c)
      → (j : ℕ) (c : View T) → get_elem? vs' j ≡ some c → F j c = λ F at_k at_u rest_of.
      each_after vs other k F at_k (λ j c not e. each_after s.views id u (λ q y. q ≢ other → F q y) (λ _. at_u) (λ q y not' e' z. rest_of q y z not' e') j c e not) in
      let gone : (j : ℕ) → Gone s.views j → Gone vs' j = λ j g d e. each (λ q y. q ≡ j → y.role ≡ Spent) (λ _. refl)
      (λ same. is_gone v is (g v (subst (λ (z : ℕ). get_elem? s.views z ≡ some v) same at)) u.role)
      (λ q y _ _ e' same. g y (subst (λ (z : ℕ). get_elem? s.views z ≡ some y) same e')) j d e refl in
      record {
        slots = r.slots;
        made = r.made;
        seat = r.seat;
        few_made = r.few_made;
        seated = rw seats r.seated;
        within = omega arith;
        room_is = omega arith;
        counted = omega arith;
        budgeted = omega arith;
        each_seat = each (λ q y. Fits r.made r.seat r.freed r.log q y y.role) (refl, refl)
            (grind arith) (λ j d _ _ e. r.each_seat j d e);
        each_hand = each (λ q y. Knows r.freed r.log q (r.cells (y.at % n)) y.at y.item y.port y.stage) tt (r.each_hand id v at)
            (λ j d _ _ e. r.each_hand j d e);
        unmade = r.unmade;
        gathered = λ d e. let g = r.gathered v (ap (get_elem? s.views) (sym f.0) ∙ at) in
            each (λ q y. q ≡ 0 → Collects r.closed r.log r.seat vs' y) (λ z. absurd (two (z ∙ sym f.0)))
            (λ _. (
              g.0,
              (λ i q l e'. let j = g.1 i q l e' in (j.0, gone (r.seat q) j.1)),
              whole_seats r.log s.views vs' (λ j. gone (suc j)) v.all g.2,
            )) (λ q c _ not e' z. absurd (not (z ∙ sym f.0))) 0 d e refl;
        honest = joins_rightly n r.freed r.closed r.log r.cells r.seat s.views id other v w u k r.honest at at_old two f.0 (grind arith)
            (λ i q n p own m e. ⊎_elim (λ (e' : get_elem? v.heard i ≡ some (n, own)). r.honest.heard id v at i q n p own m e')
            (λ (e' : (z : ℕ) × (get_elem? w.heard z ≡ some (n, own))). r.honest.heard other w at_old e'.0 q n p own m e'.1) (at_either v.heard w.heard i (n, own) e));
        busy = λ i j near held. let b = r.busy i j near held in grind (arith, set_else);
      }
