-- The rule at the start, with a new sender, and after a sender has ended.
use Rattle.subvl_queue.proofs.Names.{some-ne-none, cond, eqb, ne_eqb, lt_of_not-le, subst, ap, Role, ◌≡◌, ◌≢◌, ℕ, zero, suc, ◌+◌, ◌^◌, ◌%◌, ◌<◌, ◌≤◌, false, List, [], ◌∷◌, ◌++◌, map, length, get_or, set, replicate, sym, refl, ◌∙◌, ⊎_elim, arith, length-set, length-append, some, get_elem?, length-map, length-replicate, Option, None, Splits, Joins, opening, set_else, at_snoc, at_longer, View, Sender, Receiver, Spent, Idle, Gone, Collects, free, Knows, Fits, Queue, first_view, new_seat, spent_view, one_made, with_joined}
use Rattle.subvl_queue.proofs.Totals.{sums, sums_end}
use Rattle.subvl_queue.proofs.Cells.{fits, placed, each_after}
use Rattle.subvl_queue.proofs.Honest.{is_gone, whole_seats, calms, saw_open_after, starts_rightly, adds_rightly, joins_rightly}
use Rattle.subvl_queue.proofs.Parts.{owned_at}

-- A property of the changed or added member and of the others holds of each member.
each_end : {A : Type 0} (l : List A) (a : A) (F : ℕ → A → Type 0) → F (length l) a → ((j : ℕ) (b : A) → get_elem? l j ≡ some b → F j b)
    → (j : ℕ) (b : A) → get_elem? (l ++ a ∷ []) j ≡ some b → F j b
each_end [] a F here other zero b e = grind arith
each_end [] a F here other (suc j) b e = grind arith
each_end (x ∷ xs) a F here other zero b e = other zero b e
each_end (x ∷ xs) a F here other (suc j) b e = each_end xs a (λ q. F (suc q)) here (λ q. other (suc q)) j b e

each_two : {A : Type 0} (l : List A) (i k : ℕ) (a b : A) (F : ℕ → A → Type 0) → F k b → F i a
    → ((j : ℕ) (c : A) → j ≢ k → j ≢ i → get_elem? l j ≡ some c → F j c)
    → (j : ℕ) (c : A) → get_elem? (set (set l i a) k b) j ≡ some c → F j c
each_two l i k a b F at_k at_i other = each_after (set l i a) k b F at_k (λ j c not e.
    each_after l i a (λ q y. q ≢ k → F q y) (λ _. at_i) (grind arith) j c e not)

blank : {S : Type 0} (e : S) (n i : ℕ) → i < n → get_elem? (map some (replicate n e)) i ≡ some (some e)
blank e zero i near = absurd (omega arith)
blank e (suc n) zero near = refl
blank e (suc n) (suc i) near = blank e n i (omega arith)

-- One port more, with its seat.
pub seat_more : (ℕ → ℕ) → ℕ → ℕ → ℕ → ℕ
seat_more seat made seats k = cond (eqb k made) seats (seat k)

seat_here : (seat : ℕ → ℕ) (made seats : ℕ) → seat_more seat made seats made ≡ seats
unfolding seat_more
seat_here seat made seats = grind arith

seat_else : (seat : ℕ → ℕ) (made seats k : ℕ) → k < made → seat_more seat made seats k ≡ seat k
unfolding seat_more
seat_else seat made seats k lt = grind (arith, ne_eqb)

seat_below : (seat : ℕ → ℕ) (made seats k : ℕ) → 0 < seats → ((q : ℕ) → q < made → (0 < seat q) × (seat q < seats)) → k < suc made
    → (0 < seat_more seat made seats k) × (seat_more seat made seats k < suc seats)
unfolding seat_more
seat_below seat made seats k pos below lt = grind arith

module _ {T : Type 0} where
  fit_more : (made : ℕ) (seat : ℕ → ℕ) (seats freed : ℕ) (log : List (ℕ × T)) (j : ℕ) (d : View T) (ro : Role) → ro ≢ Receiver
      → Fits made seat freed log j d ro → Fits (suc made) (seat_more seat made seats) freed log j d ro
  fit_more made seat seats freed log j d Sender not f = (f.0 ∙ sym (seat_else seat made seats d.port f.4), f.1, f.2, f.3, omega arith)
  fit_more made seat seats freed log j d Receiver not f = absurd (not refl)
  fit_more made seat seats freed log j d Spent not f = f

module _ {T S : Type 0} {boxed : Option (ℕ × T) → S} {Good : T → Type 0} where
  pub starts_ok : (ws : List ℕ) (c : ℕ) → 0 < c → c ≤ 256 → length ws ≡ c + 2 → get_or ws 0 0 ≡ 2 ^ 32 + c → get_or ws 1 0 ≡ 0
      → ((i : ℕ) → i < c → get_or ws (i + 2) 0 ≡ 0) → Queue boxed Good (opening ws (replicate c (boxed None)) first_view)
  starts_ok ws c pos few wide room tail ready = let homes = map some (replicate c (boxed None)) in
      let n : ℕ = length homes in let is : n ≡ c = grind (arith, length-map, length-replicate) in record {
        slots = record {
          log = [];
          freed = 0;
          late = 0;
          closed = false;
          cells = λ i. (i, free);
          some_slot = omega arith;
          few_slots = omega arith;
          wide = omega arith;
          behind = omega arith;
          tail_is = tail;
          none_late = λ _. refl;
          each_cell = grind (arith, blank);
          good = grind arith;
        };
        made = 0;
        seat = λ k. k;
        few_made = omega arith;
        seated = λ k lt. absurd (omega arith);
        within = omega arith;
        room_is = omega arith;
        counted = omega arith;
        budgeted = omega arith;
        each_seat = grind arith;
        each_hand = grind arith;
        unmade = λ k le. refl;
        gathered = grind arith;
        honest = starts_rightly n (λ k. k);
        busy = grind arith;
      }

  pub splits_ok : (id : ℕ) (v : View T) → v.role ≡ Receiver → v.stage ≡ Idle → v.made < 64 → v.joined ≡ [] → v.all ≡ None
      → Splits (Queue boxed Good) id v (one_made v) (new_seat v.made)
  splits_ok id v is was few none_joined none_all s r at =
      let l = one_made v in
      let k = new_seat {T = T} v.made in
      let vs = set s.views id l in
      let vs' = vs ++ k ∷ [] in
      let n : ℕ = length s.homes in
      let f = fits s r id v Receiver at is in
      let there = placed s.views id v at in
      let long = length-set s.views id l in
      let longer = length-append vs (k ∷ []) in
      let seats : length vs' ≡ suc (length s.views) = omega arith in
      let sum = sums s.views id v l v.stage Receiver Receiver at refl is is in
      let ends = sums_end vs k in
      let seat' : ℕ → ℕ = seat_more r.seat r.made (length s.views) in
      let is_made : v.made ≡ r.made = f.3 in
      let Fit = λ (j : ℕ) (d : View T). Fits (suc r.made) seat' r.freed r.log j d d.role in
      let Know = λ (j : ℕ) (d : View T). Knows r.freed r.log j (r.cells (d.at % n)) d.at d.item d.port d.stage in
      record {
        slots = r.slots;
        made = suc r.made;
        seat = seat';
        few_made = omega arith;
        seated = rw seats (λ q lt. seat_below r.seat r.made (length s.views) q (omega arith) r.seated lt);
        within = omega arith;
        room_is = omega arith;
        counted = omega arith;
        budgeted = omega arith;
        each_seat = each_end vs k Fit
            (long ∙ sym (ap seat' is_made ∙ seat_here r.seat r.made (length s.views)), sym (r.unmade v.made (omega arith)), omega arith, omega arith, omega arith)
            (each_after s.views id l Fit
            (grind arith)
            (λ j d other e. fit_more r.made r.seat (length s.views) r.freed r.log j d d.role (λ same. other (grind (arith, fits))) (r.each_seat j d e)));
        each_hand = each_end vs k Know tt (each_after s.views id l Know (r.each_hand id v at) (λ j d _ e. r.each_hand j d e));
        unmade = grind arith;
        gathered = λ u e. each_end vs k (λ q y. q ≡ 0 → Collects r.closed r.log seat' vs' y) (λ z. absurd (omega arith))
            (each_after s.views id l (λ q y. q ≡ 0 → Collects r.closed r.log seat' vs' y)
            (grind arith) (grind arith)) 0 u e refl;
        honest = adds_rightly n r.freed r.closed r.log r.cells r.seat seat' vs k
            (calms n r.freed r.closed r.closed r.log r.cells r.seat s.views id v l r.honest at (λ e. e) (r.honest.shut id v at)
            (saw_open_after r.closed s.views id v l r.honest.saw_open at refl (λ o. (o, refl)) refl) (grind arith))
            refl refl refl refl refl refl (omega arith)
            (λ x at_x. let below : x.0 < r.made = lt_of_not-le (λ le. owned_at x.0 0 r.log r.freed x at_x refl (r.unmade x.0 le)) in
            (seat_else r.seat r.made (length s.views) x.0 (omega arith), subst (λ (m : ℕ). r.seat x.0 < m) (sym long) (r.seated x.0 below).1))
            (λ i q n p own m e. absurd (some-ne-none (n, own) (sym e)));
        busy = λ i j near held. let b = r.busy i j near held in grind (arith, at_longer, set_else);
      }

  pub joins_ok : (id : ℕ) (v : View T) (other : ℕ) (w : View T) → v.role ≡ Receiver → v.stage ≡ Idle → v.all ≡ None → w.role ≡ Sender → w.stage ≡ Idle
      → Joins (Queue boxed Good) id v other w (with_joined v w) (spent_view w.looks_then w.asks_then)
  joins_ok id v other w is was none_all sends rests s r at two at' =
      let u : View T = with_joined v w in
      let vs = set s.views id u in
      let k : View T = spent_view w.looks_then w.asks_then in
      let vs' = set vs other k in
      let n : ℕ = length s.homes in
      let f = fits s r id v Receiver at is in
      let seats : length vs' ≡ length s.views = grind (arith, length-set) in
      let at_old = sym (set_else s.views id other u two) ∙ at' in
      let h = fits s r other w Sender at_old sends in
      let sum = sums s.views id v u v.stage Receiver Receiver at refl is is in
      let ends = sums vs other w k Idle Sender Spent at' rests sends refl in
      let each = each_two s.views id other u k in
      let gone : (j : ℕ) → Gone s.views j → Gone vs' j = λ j g d e. each (λ q y. q ≡ j → y.role ≡ Spent) (λ _. refl)
      (λ same. is_gone v is (g v (subst (λ (z : ℕ). get_elem? s.views z ≡ some v) same at)) u.role)
      (λ q y _ _ e' same. g y (subst (λ (z : ℕ). get_elem? s.views z ≡ some y) same e')) j d e refl in
      record {
        slots = r.slots;
        made = r.made;
        seat = r.seat;
        few_made = r.few_made;
        seated = rw seats r.seated;
        within = omega arith;
        room_is = omega arith;
        counted = omega arith;
        budgeted = omega arith;
        each_seat = each (λ q y. Fits r.made r.seat r.freed r.log q y y.role) (refl, refl)
            (grind arith) (λ j d _ _ e. r.each_seat j d e);
        each_hand = each (λ q y. Knows r.freed r.log q (r.cells (y.at % n)) y.at y.item y.port y.stage) tt (r.each_hand id v at)
            (λ j d _ _ e. r.each_hand j d e);
        unmade = r.unmade;
        gathered = λ d e. let g = r.gathered v (grind arith) in
            each (λ q y. q ≡ 0 → Collects r.closed r.log r.seat vs' y) (λ z. absurd (omega arith))
            (λ _. (
              g.0,
              (λ i q l e'. ⊎_elim (λ (old : get_elem? v.joined i ≡ some (q, l)). let j = g.1 i q l old in (j.0, gone (r.seat q) j.1))
                  (λ (new : (w.port, w.own) ≡ (q, l)).
                  (let mine : other ≡ r.seat q = h.0 ∙ ap r.seat (ap (λ (z : ℕ × List (ℕ × T)). z.0) new) in (
                    grind arith,
                    λ d' e''. each (λ p y. p ≡ r.seat q → y.role ≡ Spent) (λ _. refl) (λ z. absurd (two (mine ∙ sym z)))
                        (λ p y not _ _ z. absurd (not (z ∙ sym mine))) (r.seat q) d' e'' refl,
                  ))) (at_snoc v.joined (w.port, w.own) (q, l) i e')),
              whole_seats r.log s.views vs' (λ j. gone (suc j)) v.all g.2,
            )) (λ q c _ not e' z. absurd (not (z ∙ sym f.0))) 0 d e refl;
        honest = joins_rightly n r.freed r.closed r.log r.cells r.seat s.views id other v w u k r.honest at at_old two f.0 (grind arith) (r.honest.heard id v at);
        busy = λ i j near held. let b = r.busy i j near held in grind (arith, set_else);
      }
