-- Each step on a link's cell keeps the rule.
use Rattle.status_board.proofs.Names.{arith, ◌≡◌, ◌≢◌, ℕ, zero, suc, ◌+◌, List, [], ◌∷◌, ◌++◌, length, set, true, false, refl, sym, ap, ◌∙◌, subst, append-nil, some, some-ne-none, some-injective, get_elem?, Turns, Forks, Merges, TableId, at_set, set_again, set_else, Counts, Stamped, View, NoFieldFalls, value_of, zeros, Watched, IsReading, stamped, counts_of, opener, Fits, KeepsHistory, Adds, FindsEntry, Agrees, without_reading, as_monitor, as_told, hearing, nobody}
use Rattle.status_board.proofs.Histories.{last_or-push, rises-push, starts_same, starts_more, starts_none, counts_of-append, counts_start, are_after-push, never_behind}

-- P of each view after one has changed
views_set : (P : ℕ → View → Type 0) (views : List View) (by : ℕ) (w : View)
    → ((j : ℕ) (u : View) → j ≢ by → get_elem? views j ≡ some u → P j u) → P by w → (j : ℕ) (u : View)
    → get_elem? (set views by w) j ≡ some u → P j u
views_set P views by w others mine j u e = grind (arith, at_set)

-- P of each view after one has come
views_push : (P : ℕ → View → Type 0) (views : List View) (w : View) → ((j : ℕ) (u : View) → get_elem? views j ≡ some u → P j u)
    → P (length views) w → (j : ℕ) (u : View) → get_elem? (views ++ w ∷ []) j ≡ some u → P j u
views_push P [] w others mine zero u e = subst (P 0) (some-injective w u e) mine
views_push P [] w others mine (suc j) u e = absurd (some-ne-none u (sym e))
views_push P (v ∷ views) w others mine zero u e = others zero u e
views_push P (v ∷ views) w others mine (suc j) u e = views_push (λ q. P (suc q)) views w (λ q. others (suc q)) mine j u e

-- a pass that is not the monitor's fits whatever the monitor is
not_monitor : (k writer monitor loads monitor' loads' : ℕ) (history : List Stamped) (u : View) → k ≢ monitor
    → Fits writer monitor loads history k u → Fits writer monitor' loads' history k u
not_monitor k writer monitor loads monitor' loads' history u apart f = grind arith

-- the same history, and other views
keeps_views : (x : Counts) (views views' : List View) (k : KeepsHistory x views) (monitor loads : ℕ)
    → ((j : ℕ) (u : View) → get_elem? views' j ≡ some u → Fits k.writer monitor loads k.history j u) → KeepsHistory x views'
keeps_views x views views' k monitor loads each = record {
  writer = k.writer;
  monitor = monitor;
  loads = loads;
  history = k.history;
  value_is = k.value_is;
  rising = k.rising;
  each = each;
}

-- the first pass of a cell fits
pub begins : KeepsHistory zeros (opener ∷ [])
begins = record {
  writer = 0;
  monitor = 0;
  loads = 0;
  history = [];
  value_is = refl;
  rising = tt;
  each = views_push (Fits 0 0 0 []) [] opener (λ j u e. absurd (some-ne-none u (sym e))) record {
    knows = starts_none [];
    heard = starts_none [];
    as_writer = λ _. (refl, refl);
    as_monitor = λ _. (refl, refl, tt);
  };
}

pub publishes : (by : ℕ) (v : View) (c : Counts) → v.writes ≡ true → v.reads ≡ false
    → NoFieldFalls (value_of (counts_of v.history)) c → Turns KeepsHistory by v (λ _. c) Adds
publishes by v c is blind rise x views k at =
    let mine = k.each by v at in
    let e : Stamped = stamped c k.loads in
    let now = k.history ++ e ∷ [] in
    let w : View = record v { history = v.history ++ e ∷ [] } in
    let all = counts_of-append k.history (e ∷ []) in
    let P = Fits k.writer k.monitor k.loads now in
    let fits : P by w = grind (arith, append-nil, starts_more) in
    let kept : KeepsHistory c (set views by w) = record {
      writer = k.writer;
      monitor = k.monitor;
      loads = k.loads;
      history = now;
      value_is = grind (arith, last_or-push);
      rising = grind (arith, rises-push);
      each = views_set P views by w
          (λ j u apart at_j. let f = k.each j u at_j in record {
            knows = grind (arith, starts_more);
            heard = grind (arith, starts_more);
            as_writer = grind arith;
            as_monitor = grind (arith, are_after-push);
          })
          fits;
    } in
    grind arith

pub reads : (by : ℕ) (v : View) → v.reads ≡ true → Turns KeepsHistory by v (λ x. x) FindsEntry
reads by v is x views k at =
    let mine = k.each by v at in
    let role = mine.as_monitor is in
    let w : View = record v { history = k.history; loads = v.loads + 1 } in
    let P = Fits k.writer k.monitor (k.loads + 1) k.history in
    let fits : P by w = record {
      knows = starts_same k.history;
      heard = mine.heard;
      as_writer = λ r. ((mine.as_writer r).0, refl);
      as_monitor = λ _. (role.0, ap (λ n. n + 1) role.1, tt);
    } in
    let kept = keeps_views x views (set views by w) k k.monitor (k.loads + 1) (views_set P views by w
    (λ j u apart at_j. not_monitor j k.writer k.monitor k.loads k.monitor (k.loads + 1) k.history u (λ e. apart (e ∙ sym role.0)) (k.each j u at_j))
    fits) in
    let found : FindsEntry v x x w = record {
      writes = refl;
      reads = refl;
      loads = refl;
      heard = refl;
      begins = mine.knows;
      told = mine.heard;
      rising = k.rising;
      value = k.value_is;
    } in
    (w, kept, found)

pub parts : (by : ℕ) (v : View) → v.reads ≡ true → Forks KeepsHistory by v (without_reading v) (as_monitor v)
parts by v is x views k at =
    let left : View = without_reading v in
    let right : View = as_monitor v in
    let kept = set views by left in
    let mine = k.each by v at in
    let role = mine.as_monitor is in
    let P = Fits k.writer (length kept) k.loads k.history in
    let own : P by left = grind arith in
    let new : P (length kept) right =
    record { knows = mine.knows; heard = mine.heard; as_writer = λ r. absurd (cc); as_monitor = λ _. (refl, role.1, role.2) } in
    keeps_views x views (kept ++ right ∷ []) k (length kept) k.loads (views_push P kept right (views_set P views by left
    (λ j u apart at_j. not_monitor j k.writer k.monitor k.loads (length kept) k.loads k.history u (λ e. apart (e ∙ sym role.0)) (k.each j u at_j))
    own) new)

pub tells : (by : ℕ) (v : View) → Forks KeepsHistory by v v (as_told v)
tells by v x views k at =
    let mine = k.each by v at in
    keeps_views x views (set views by v ++ as_told v ∷ []) k k.monitor k.loads
    (views_push (Fits k.writer k.monitor k.loads k.history) (set views by v) (as_told v)
    (λ j u at_j. k.each j u (grind (arith, set_again)))
    (grind arith))

pub hears : (by : ℕ) (v : View) (other : ℕ) (u : View) → Merges KeepsHistory by v other u (hearing v u) nobody
hears by v other u x views k at apart there =
    let P = Fits k.writer k.monitor k.loads k.history in
    let w : View = hearing v u in
    let mine = k.each by v at in
    let theirs = k.each other u (grind (arith, set_else)) in
    let heard : P by w =
    record { knows = mine.knows; heard = theirs.knows; as_writer = mine.as_writer; as_monitor = mine.as_monitor } in
    keeps_views x views (set (set views by w) other nobody) k k.monitor k.loads
    (views_set P (set views by w) other nobody (λ j y _ e. views_set P views by w (λ j y _ e. k.each j y e) heard j y e)
    (grind arith))

pub compares : (by : ℕ) (v : View) → v.writes ≡ true → Turns KeepsHistory by v (λ x. x) Agrees
compares by v is x views k at = let mine = k.each by v at in grind (arith, set_again, begins)

-- what publishing adds is the last
pub adds_entry : (old : View) (before published : Counts) (new : View) → Adds old before published new
    → counts_of new.history ≡ counts_of old.history ++ published ∷ []
adds_entry old before published new added = grind (arith, counts_of-append)

-- what a load finds is a reading
pub reading : (seen : Watched) (cell cell' : TableId) (old new : View) (before found : Counts)
    → record { cell = cell; history = counts_of old.history; loads = old.loads } ≡ seen → cell' ≡ cell → FindsEntry old before found new
    → IsReading seen found (record { cell = cell'; history = counts_of new.history; loads = new.loads })
reading seen cell cell' old new before found is same f =
    let begins = counts_start new.history old.history f.begins in
    grind (arith, never_behind)
