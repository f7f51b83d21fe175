-- The ports of an emitter, once each of them sent its messages, and how many slots one requested.
use Rattle.storm.proofs.Names.{◌≡◌, ◌∙◌, ℕ, zero, suc, ◌+◌, ◌*◌, ◌<◌, ◌≤◌, List, [], ◌∷◌, length, map, get_or, refl, ap, sym, arith, sum_by, get_or-map, length-map, length-append, Contains-get_or, Plan, port_plan_at, SenderView, Tx, queues_in, PortView, BelongsTo, AreOpenedWith, AreFreshPorts, HasEveryPlace, messages_to, named, sent_all, asked_by, asked_after, AreAtMost, IsSpent, AreSpent, ◌++◌, set, get_or-set_other, Counts, Watched, seen, IsReading, ReadsOnly, sum_by-cons, Result, IfOk, IsOkAnd}
use Rattle.storm.proofs.SameCells.{cells_kept, no_seen}

-- a fresh port that sent its messages
spent_port : (old new : Tx) (n turns k : ℕ) (before after : PortView) → new.plan ≡ old.plan → queues_in new.links ≡ queues_in old.links
    → before.place ≡ k → before.plan ≡ port_plan_at old.plan.ports k → before.sender.own ≡ [] → BelongsTo old.plan (queues_in old.links) before
    → named after ≡ sent_all n before → after.sender.asks ≤ turns → IsSpent new n turns k after
spent_port old new n turns k before after plan queues place at own of e asks = grind arith

-- a port that requested at most one slot for each of its turns, since it was fresh
asks_at : (before after : List PortView) (turns k : ℕ) (d : PortView) → length after ≡ length before → k < length after
    → (get_or before k d).sender.asks ≡ 0 → AreAtMost (map asked_by after) (map (asked_after turns) before)
    → (get_or after k d).sender.asks ≤ turns
asks_at before after turns k d many lt none most =
    let below : k < length before = omega arith in
    let here : k < length (map asked_by after) = omega (arith, length-map after asked_by) in
    let own : get_or (map asked_by after) k 0 ≡ (get_or after k d).sender.asks = get_or-map asked_by after k d 0 lt in
    grind (arith, map, asked_after, get_or-map)

-- once each port of a fresh emitter sent its messages
pub spent : (old new : Tx) (n turns : ℕ) (before after : List PortView) → new.plan ≡ old.plan
    → queues_in new.links ≡ queues_in old.links → AreFreshPorts old before → AreOpenedWith old before
    → map named after ≡ map (sent_all n) before → AreAtMost (map asked_by after) (map (asked_after turns) before)
    → AreSpent new n turns after
spent old new n turns before after plan queues fresh opened same most =
    let many : length after ≡ length before = sym (length-map after named) ∙ ap length same ∙ length-map before (sent_all n) in
    record {
      count = many ∙ fresh.count ∙ ap (λ (p : Plan). length p.ports) (sym plan);
      each = λ k d lt.
          let below : k < length before = omega arith in
          let is = fresh.each k d (omega (arith, fresh.count)) in
          let e : named (get_or after k d) ≡ sent_all n (get_or before k d) =
          sym (get_or-map named after k d (named d) lt) ∙ ap (λ l. get_or l k (named d)) same
          ∙ get_or-map (sent_all n) before k d (named d) below in
          spent_port old new n turns k (get_or before k d) (get_or after k d) plan queues is.at is.plan
          (ap (λ (s : SenderView). s.own) is.sender.is) (opened k d below) e
          (asks_at before after turns k d many lt (ap (λ (s : SenderView). s.asks) is.sender.is) most);
    }

-- so none is missing
pub every_place : (tx : Tx) (n turns : ℕ) (ports : List PortView) → AreSpent tx n turns ports → HasEveryPlace (length tx.plan.ports) ports
every_place tx n turns [] spent place lt = absurd (omega (arith, spent.count))
every_place tx n turns (port ∷ more) spent place lt =
    let below : place < length (port ∷ more) = omega (arith, spent.count) in
    record {
      port = get_or (port ∷ more) place port;
      inside = Contains-get_or (port ∷ more) place port below;
      at = (spent.each place port below).at;
    }

-- as many messages as the number of the last
pub length-messages : (id n : ℕ) → length (messages_to id n) ≡ n
length-messages id zero = refl
length-messages id (suc n) = grind (arith, length-append, length-messages id n)

sum_same : (f : PortView → ℕ) (m : ℕ) (ports : List PortView) → ((k : ℕ) (d : PortView) → k < length ports → f (get_or ports k d) ≡ m)
    → sum_by f ports ≡ length ports * m
sum_same f m [] each = omega arith
sum_same f m (port ∷ more) each =
    let rest = sum_same f m more (λ k d lt. each (suc k) d (omega (arith, lt))) in
    let first : f port ≡ m = each 0 port (omega arith) in
    sum_by-cons f port more ∙ omega (arith, rest, first)

-- all of them
pub sum_spent : (tx : Tx) (n turns : ℕ) (ports : List PortView) → AreSpent tx n turns ports
    → sum_by (λ (port : PortView). length port.sender.own) ports ≡ length tx.plan.ports * n
sum_spent tx n turns ports spent = grind (arith, sum_same, length-messages)

-- one number more, which isn't above the other
pub at_most_push : (low high : List ℕ) (n m : ℕ) → length low ≡ length high → AreAtMost low high → n ≤ m
    → (k : ℕ) → k < length (low ++ n ∷ []) → get_or (low ++ n ∷ []) k 0 ≤ get_or (high ++ m ∷ []) k 0
at_most_push [] [] n m count all le zero lt = le
at_most_push [] [] n m count all le (suc k) lt = absurd (omega arith)
at_most_push [] (y ∷ high) n m count all le k lt = absurd (omega arith)
at_most_push (x ∷ low) [] n m count all le k lt = absurd (omega arith)
at_most_push (x ∷ low) (y ∷ high) n m count all le zero lt = all 0 (omega arith)
at_most_push (x ∷ low) (y ∷ high) n m count all le (suc k) lt =
    at_most_push low high n m (omega arith) (λ j below. all (suc j) (omega arith)) le k (omega arith)

-- what follows where a result is known to be `Ok`, and something holds if it is
pub at_ok : {A E : Type 0} (r : Result A E) (P Q : A → Type 0) (C : Type 0) → ((x : A) → P x → Q x → C) → IfOk r P → IsOkAnd r Q → C
at_ok r P Q C both p q = grind arith

-- one reading more of a link
pub only_more : (old mid new : List Watched) (link times : ℕ) (found : Counts) → ReadsOnly old mid link times
    → IsReading (seen mid link) found (seen new link) → new ≡ set mid link (seen new link)
    → ReadsOnly old new link (times + 1)
only_more old mid new link times found before reading is = grind (arith, cells_kept, get_or-set_other, no_seen)
