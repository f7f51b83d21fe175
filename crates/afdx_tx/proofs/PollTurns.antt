-- A poll after one more link's turn.
use Rattle.afdx_tx.proofs.Names.{ℕ, zero, suc, ◌≡◌, ◌≢◌, ◌<◌, ◌≤◌, rules, due_from, waits_until, min, cases_lt, AllWaitUntil, List, [], ◌∷◌, ◌++◌, ◌||◌, false, length, map, set, get_or, arith, ap, ◌∙◌, sym, subst, length-set, ext_get_or, get_or-map, length-map, All-push, LinkPlan, link_plan_at, A, link_in, Entry, entry, Logged, logged_for, Lines, log, log_more, log_same, IsLater, Served, Nothing, Released, Lost, counts_in, link_stream, IsKnown, AreKnown, LinkState, link_at, no_link, Serves, Follows, IsSameLink, is_lost, plan_of_link, plans, AreApart, AreCarried, AreServedBy, IsSamePlan, IsKept, IsSteady, Turned, IsOwn, HasItems, AreWhole, link_turn, kept_turn, other_stream, kept_stream, each_set, ◌+◌, add-one, true, append-nil, map-append, append_assoc, length-append, get_or-set_same, get_or-set_other, BothEndure, any_up, both_on, may_release, AreTurns, Release, turn_release, IsTold, IsPolling, IsTurn, IsTurnAt, turns_seen, turns_push}

-- The turn of one link, at its place.
pub turned_at : (now i : ℕ) (links : List LinkState) (item new : LinkState) (lines after : Lines) (did : Served)
    → item ≡ link_at links i → i < length links → AreServedBy now links → (link_at links i).lost ≡ false
    → Serves now item.plan item.pace item.subs new.subs lines after did → Follows new.plan.id.0 new.pace after did
    → IsSameLink item new → new.lost ≡ (item.lost || is_lost did)
    → new.counts ≡ counts_in (link_stream new.plan.id.0 (log after))
    → Turned now (link_at links i) new lines after did
turned_at now i links item new lines after did is lt later whole serves paced same lost counted = grind arith

-- A property of each link of which one was set.
pub at_each : (P : ℕ → LinkState → Type 0) (links : List LinkState) (i : ℕ) (new : LinkState)
    → i < length links → P i new → ((k : ℕ) → k < length links → k ≢ i → P k (link_at links k)) → (k : ℕ)
    → k < length links → P k (link_at (set links i new) k)
at_each P links i new lt p q k klt =
    each_set (λ j l. j < length links → P j l) links i new no_link lt (λ _. p) (λ j ne jlt. q j jlt ne) k klt

-- The relation is transitive.
trans_same : (a b c : LinkState) → IsSameLink a b → IsSameLink b c → IsSameLink a c
trans_same a b c p q = grind arith

-- A known frame at the end of a known list.
known_push : (links : List LinkPlan) (H : List Entry) (e : Entry) → AreKnown links A H
    → IsKnown links A e.frame → AreKnown links A (H ++ e ∷ [])
known_push links [] e h k = (k, tt)
known_push links (x ∷ xs) e h k = (h.0, known_push links xs e h.1 k)

-- The plan at a place is that of the link there.
pub plan_at_is : (links : List LinkState) (k : ℕ) → k < length links
    → link_plan_at (plans links) k ≡ (link_at links k).plan
plan_at_is links k lt = grind (arith, get_or-map)

-- There are as many plans as links.
pub plans_length : (links : List LinkState) → length (plans links) ≡ length links
plans_length links = length-map links plan_of_link

-- Equal elements have equal images.
pub map_alike : {X Y : Type 0} (f : X → Y) (xs ys : List X) (d : X) → length xs ≡ length ys
    → ((k : ℕ) → k < length ys → f (get_or xs k d) ≡ f (get_or ys k d)) → map f xs ≡ map f ys
map_alike f xs ys d same each = ext_get_or (f d) (map f xs) (map f ys) (grind (arith, length-map))
    (λ k lt. let here : k < length xs = omega (arith, length-map xs f) in let there : k < length ys = omega arith in
    get_or-map f xs k d (f d) here ∙ each k there ∙ sym (get_or-map f ys k d (f d) there))

-- The frames are known after a turn.
known_after : (now i : ℕ) (old : List LinkState) (did : Served) (links : List LinkState) (new : LinkState) (lines after : Lines)
    → IsSamePlan old links → i < length links → IsOwn (link_at links i)
    → Turned now (link_at links i) new lines after did → AreKnown (plans old) A (log lines)
    → AreKnown (plans old) A (log after)
known_after now i old Nothing links new lines after same lt own t h = grind arith
known_after now i old (Released sub number) links new lines after same lt own t h =
    let r = t.serves.2 in
    let il : i < length old = omega (arith, same.count) in
    let plan = plan_at_is old i il ∙ sym (same.each i il).plan in
    rw (log_more lines after (logged_for (link_at links i).plan.networks (entry now r.frame)) r.enters)
    (grind (arith, known_push, plans_length))
known_after now i old Lost links new lines after same lt own t h = grind (arith, log_same)

-- After a turn the log is carried by its links' networks.
carried_after : (now i : ℕ) (old : List LinkState) (did : Served) (links : List LinkState) (new : LinkState) (lines after : Lines)
    → AreApart old → IsSamePlan old links → i < length links
    → Turned now (link_at links i) new lines after did → AreCarried (plans old) lines.logged
    → AreCarried (plans old) after.logged
carried_after now i old Nothing links new lines after apart same lt t h k klt = rw (t.serves.1) (h k klt)
carried_after now i old (Released sub number) links new lines after apart same lt t h k klt =
    let r = t.serves.2 in
    let kl : k < length old = omega (arith, plans_length old) in
    let P = λ (l : Logged). link_in l.entry.frame ≡ (link_plan_at (plans old) k).id.0 → l.networks ≡ (link_plan_at (plans old) k).networks in
    rw r.enters (All-push P lines.logged (logged_for (link_at links i).plan.networks (entry now r.frame)) (h k klt) (grind (arith, plan_at_is)))
carried_after now i old Lost links new lines after apart same lt t h k klt = rw t.serves.1.same (h k klt)

-- Each turn keeps the invariant of turns.
pub steady_more : (now i : ℕ) (old links : List LinkState) (lines after : Lines) (new : LinkState) (did : Served)
    → IsSteady now old links lines → AreApart old → i < length links
    → Turned now (link_at links i) new lines after did → IsLater new.pace.last now
    → IsSteady now old (set links i new) after
steady_more now i old links lines after new did s apart lt t later =
    let il : i < length old = omega (arith, s.same.count) in
    let len : length (set links i new) ≡ length links = length-set links i new in
    let all = at_each (λ j l. IsSameLink (link_at old j) l × IsOwn l × IsKept l (log after) × IsLater l.pace.last now
    × HasItems l)
    links i new lt (
      trans_same _ _ _ (s.same.each i il) t.same,
      grind (arith, link_turn),
      grind (arith, kept_turn),
      later,
      grind arith,
    )
    (λ j jlt ne. (
      grind arith,
      s.each j jlt,
      kept_stream (link_at links j) (log lines) (log after) (grind (arith, other_stream, link_at)) (s.kept j jlt),
      s.later j jlt,
      λ q qlt. s.items j q jlt qlt,
    )) in
    grind (arith, known_after, carried_after)

-- The release of a turn is reported after the earlier ones.
pub told_more : (now : ℕ) (did : Served) (link new : LinkState) (rs : List Release) (before lines after : Lines)
    → Turned now link new lines after did → IsTold now rs before lines
    → IsTold now (rs ++ turn_release link.plan.id did) before after
told_more now Nothing link new rs before lines after t h = grind (arith, append-nil)
told_more now (Released sub number) link new rs before lines after t h =
    let r = t.serves.2 in
    let e = entry now r.frame in
    record {
      entries = h.entries ++ e ∷ [];
      grown = log_more lines after (logged_for link.plan.networks e) r.enters
          ∙ ap (λ (x : List Entry). x ++ e ∷ []) h.grown
          ∙ append_assoc (log before) h.entries (e ∷ []);
      named = grind (arith, map-append);
      moments = grind (arith, map-append);
    }
told_more now Lost link new rs before lines after t h = grind (arith, append-nil, log_same)

-- All networks of a link that lost a frame are down.
whole_after : (now : ℕ) (did : Served) (link new : LinkState) (lines after : Lines)
    → Turned now link new lines after did → any_up new.plan.networks after ≡ true → new.lost ≡ false
whole_after now did link new lines after t stands = grind arith

-- One turn more.
pub turns_on : (now i : ℕ) (old news : List LinkState) (before lines after : Lines) (did : Served)
    → AreTurns (IsTurnAt now old news) 0 i before lines → IsTurnAt now old news i lines after did
    → AreTurns (IsTurnAt now old news) 0 (i + 1) before after
turns_on now i old news before lines after did turns turn = rw add-one
    (turns_push (IsTurnAt now old news) 0 i before lines after did
    turns (grind arith))

-- One more link has had its turn.
pub polling_more : (now i : ℕ) (old links : List LinkState) (before lines after : Lines) (new : LinkState) (did : Served)
    (released : List Release) → IsPolling now i old links before lines released → AreApart old → i < length links
    → Turned now (link_at links i) new lines after did → IsLater new.pace.last now
    → BothEndure lines after → IsPolling now (i + 1) old (set links i new) before after
    (released ++ turn_release (link_at links i).plan.id did)
polling_more now i old links before lines after new did released p apart lt turned later stays_down =
    let turn : IsTurnAt now old (set links i new) i lines after did = grind (arith, get_or-set_same) in
    record {
      steady = steady_more now i old links lines after new did p.steady apart lt turned later;
      turns = turns_on now i old (set links i new) before lines after did
          (grind (arith, turns_seen, set, get_or-set_other, no_link)) turn;
      rest = grind (arith, get_or-set_other);
      whole = λ k klt. at_each (λ j l. any_up l.plan.networks after ≡ true → l.lost ≡ false) links i new lt
          (grind (arith, whole_after)) (grind arith)
          k (omega (arith, length-set links i new));
      told = grind (arith, told_more);
      room = grind (arith, length-append, turn_release);
      stays_down = both_on before lines after p.stays_down stays_down;
    }

-- One more link may not release a frame.
pub polling_on : (now i : ℕ) (old links : List LinkState) (before lines : Lines) (released : List Release)
    → IsPolling now i old links before lines released → i < length links
    → may_release now (link_at links i).plan (link_at links i).pace lines ≡ false
    → IsPolling now (i + 1) old links before lines released
polling_on now i old links before lines released p lt may_not_now =
    let turn = subst (λ (l : LinkState). IsTurn now l (link_at links i) lines lines Nothing) (p.rest i (omega arith))
    (grind arith) in
    record {
      steady = p.steady;
      turns = turns_on now i old links before lines lines Nothing p.turns turn;
      rest = grind arith;
      whole = p.whole;
      told = p.told;
      room = omega arith;
      stays_down = p.stays_down;
    }

-- No link is due before the time that all of them wait for: a poll before it gives no link a turn.
pub polling_none : (now at : ℕ) (links : List LinkState) (lines : Lines) → IsSteady now links links lines → AreWhole links lines
    → AllWaitUntil at links (length links) → now < at → (i : ℕ) → i ≤ length links → IsPolling now i links links lines lines []
polling_none now at links lines steady whole wait before zero le = search rules
polling_none now at links lines steady whole wait before (suc i) le =
    rw (← add-one) (polling_on now i links links lines lines []
    (polling_none now at links lines steady whole wait before i (omega arith)) (omega arith) (not_due (wait i (omega arith))))
  where
    not_due : at ≤ due_from (link_at links i).pace.gap (link_at links i).pace.last
        → may_release now (link_at links i).plan (link_at links i).pace lines ≡ false
    not_due later = grind arith

-- All wait until the earlier of two times, if the first links wait until the one and the next until the other.
pub wait_more : (at i : ℕ) (links : List LinkState) (item : LinkState) → item ≡ link_at links i → AllWaitUntil at links i
    → AllWaitUntil (min at (waits_until item.pace.gap item.pace.last)) links (i + 1)
wait_more at i links item is wait k klt = grind (arith, cases_lt)
