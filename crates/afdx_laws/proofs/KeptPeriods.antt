-- How many fragments, and how many messages, the ports of a sub-VL can have accepted in a time if they keep their periods
-- with their jitter.
use Rattle.afdx_laws.proofs.RunNames.{ℕ, ◌≡◌, ◌⊎◌, ◌+◌, ◌-◌, ◌*◌, ◌≤◌, List, [], ◌∷◌, ◌++◌, Bool, true, false, cond, ◌&&◌, ◌||◌, nat_le, nat_lt, nat_tests, arith, refl, sym, ap, ◌∙◌, subst, get_or, Option, Some, None, inl, inr, map, length, length-map, mul-le, All, All-cons, All-head, All-nil, All-tail, All-weaker, eq-eqb, Contains, Plan, IsPlan, link_plan_at, LinkPlan, PortPlan, room_of, IsAllowed, pieces_of, port_pieces, ◌/◌, filter, filter-append, not, unwrap_or, IfSome, is_some, sum_by, get_or_default, All-filter, All-map, filter_passes, sum_by-filter_both, sum_by-cons, sum_by-le, port_plan_at, PortId, is_on, Sender, senders_on, have_periods, has_period, Arrival, AreApart, AreDue, KeepPeriod, times_in, is_from, is_before}
use Rattle.afdx_laws.proofs.PiecesInRun.{own_pieces}

-- the fragments of a message on a link whose frames have this room
abbrev pub weight_of : ℕ → Arrival → ℕ
weight_of room a = pieces_of room (length a.sent.bytes)

-- a list of which nothing can be an element
pub has_none : {X : Type 0} (xs : List X) → All (λ (x : X). ⊥) xs → xs ≡ []
has_none [] none = refl
has_none (x ∷ xs) none = absurd (none 0 x (omega arith))

-- a test that all pass
pub filter_all : {X : Type 0} (p : X → Bool) (xs : List X) → All (λ (x : X). p x ≡ true) xs → filter p xs ≡ xs
filter_all p [] all = refl
filter_all {X = X} p (x ∷ xs) all =
    grind (arith, all 0 x (omega arith), filter_all p xs (All-tail (λ (y : X). p y ≡ true) x xs all))

pub filter_swap : {X : Type 0} (p q : X → Bool) (xs : List X) → filter p (filter q xs) ≡ filter q (filter p xs)
filter_swap p q [] = refl
filter_swap {X = X} p q (x ∷ xs) = by_tests (filter_swap p q xs) (p x) (q x) refl refl
  where
    by_tests : filter p (filter q xs) ≡ filter q (filter p xs) → (b c : Bool) → p x ≡ b → q x ≡ c
        → filter p (cond c (x ∷ filter q xs) (filter q xs)) ≡ filter q (cond b (x ∷ filter p xs) (filter p xs))
    by_tests rest true true is own = grind arith
    by_tests rest true false is own = grind arith
    by_tests rest false true is own = grind arith
    by_tests rest false false is own = rest

-- accepted from a time on and before another
abbrev pub is_within : ℕ → ℕ → Arrival → Bool
is_within q t a = nat_le q a.at && nat_lt a.at (q + t)

-- what came before a later time came before an earlier one or in between
pub sum_between : (weight : Arrival → ℕ) (q t : ℕ) (arrivals : List Arrival) → sum_by weight (filter (is_before (q + t)) arrivals)
    ≤ sum_by weight (filter (is_before q) arrivals) + sum_by weight (filter (is_within q t) arrivals)
sum_between weight q t [] = omega arith
sum_between weight q t (a ∷ arrivals) =
    let rest = sum_between weight q t arrivals in
    let all = first (is_before (q + t)) in
    let before = first (is_before q) in
    let within = first (is_within q t) in
    let one : cond (nat_lt a.at (q + t)) (weight a) 0 ≤ cond (nat_lt a.at q) (weight a) 0 + cond (is_within q t a) (weight a) 0 = grind (arith, nat_tests) in
    omega arith
  where
    by_test : (b : Bool) (ys : List Arrival) → sum_by weight (cond b (a ∷ ys) ys) ≡ cond b (weight a) 0 + sum_by weight ys
    by_test true ys = sum_by-cons weight a ys
    by_test false ys = omega arith

    first : (p : Arrival → Bool) → sum_by weight (filter p (a ∷ arrivals)) ≡ cond (p a) (weight a) 0 + sum_by weight (filter p arrivals)
    first p = by_test (p a) (filter p arrivals)

one_more : (u p : ℕ) → 1 ≤ p → p ≤ u → u / p ≡ 1 + (u - p) / p
one_more u p step le = grind arith

-- times a period apart: at most one each period
spaced : (p q u : ℕ) (times : List ℕ) → 1 ≤ p → AreApart p times → All (λ (n : ℕ). q ≤ n) times → All (λ (n : ℕ). n ≤ q + u) times
    → length times ≤ 1 + u / p
spaced p q u [] step apart from by = omega arith
spaced p q u (first ∷ []) step apart from by = omega arith
spaced p q u (first ∷ second ∷ times) step apart from by =
    let own = from 0 first (omega arith) in
    let far = apart.0 0 second (omega arith) in
    let near = by 1 second (omega arith) in
    let rest = spaced p (q + p) (u - p) (second ∷ times) step apart.1
    (All-weaker (λ (n : ℕ). first + p ≤ n) (λ (n : ℕ). q + p ≤ n) (λ n le. omega arith) (second ∷ times) apart.0)
    (All-weaker (λ (n : ℕ). n ≤ q + u) (λ (n : ℕ). n ≤ q + p + (u - p)) (λ n le. omega arith) (second ∷ times)
    (All-tail (λ (n : ℕ). n ≤ q + u) first (second ∷ times) by)) in
    let more = one_more u p step (omega arith) in
    omega arith

-- the times at which messages between two times are due
due_within : (j low high : ℕ) (times dues : List ℕ) → AreDue j times dues → All (λ (n : ℕ). low ≤ n) times → All (λ (n : ℕ). n ≤ high) times
    → All (λ (n : ℕ). low ≤ n) dues × All (λ (n : ℕ). n ≤ high + j) dues × (length dues ≡ length times)
due_within j low high [] [] due from by = (All-nil _, All-nil _, refl)
due_within j low high [] (d ∷ dues) due from by = absurd due
due_within j low high (t ∷ times) [] due from by = absurd due
due_within j low high (t ∷ times) (d ∷ dues) due from by =
    let rest = due_within j low high times dues due.2 (All-tail (λ (n : ℕ). low ≤ n) t times from) (All-tail (λ (n : ℕ). n ≤ high) t times by) in
    let least = All-head (λ (n : ℕ). low ≤ n) t times from in
    let most = All-head (λ (n : ℕ). n ≤ high) t times by in
    let late = due.0 in
    let soon = due.1 in (
      All-cons (λ (n : ℕ). low ≤ n) d dues (omega arith) rest.0,
      All-cons (λ (n : ℕ). n ≤ high + j) d dues (omega arith) rest.1,
      omega (arith, rest.2),
    )

-- messages that keep a period with a jitter: at most one each period, and one more within the jitter
spaced_kept : (p j q u : ℕ) (times : List ℕ) → 1 ≤ p → KeepPeriod p j times → All (λ (n : ℕ). q ≤ n) times → All (λ (n : ℕ). n ≤ q + u) times
    → length times ≤ 1 + (u + j) / p
spaced_kept p j q u times step kept from by =
    let within = due_within j q (q + u) times kept.dues kept.due from by in
    let few = spaced p q (u + j) kept.dues step kept.apart within.0
    (All-weaker (λ (n : ℕ). n ≤ q + u + j) (λ (n : ℕ). n ≤ q + (u + j)) (λ n le. omega arith) kept.dues within.1) in
    let same = within.2 in
    omega arith

-- Messages that keep a period, and are due at some of these times.
record IsThinned (p j : ℕ) (arrivals : List Arrival) (dues : List ℕ) : Type 0 where
  pub keep : KeepPeriod p j (times_in arrivals)
  pub among : (low : ℕ) → All (λ (n : ℕ). low ≤ n) dues → All (λ (n : ℕ). low ≤ n) keep.dues

-- those that pass a test keep it too
thinned : (p j : ℕ) (test : Arrival → Bool) (arrivals : List Arrival) (dues : List ℕ) → AreDue j (times_in arrivals) dues → AreApart p dues
    → IsThinned p j (filter test arrivals) dues
thinned p j test [] [] due apart = record { keep = record { dues = []; due = tt; apart = tt }; among = λ low all. all }
thinned p j test [] (d ∷ dues) due apart = absurd due
thinned p j test (a ∷ arrivals) [] due apart = absurd due
thinned p j test (a ∷ arrivals) (d ∷ dues) due apart = by_test (test a) (thinned p j test arrivals dues due.2 apart.1)
  where
    by_test : (b : Bool) → IsThinned p j (filter test arrivals) dues
        → IsThinned p j (cond b (a ∷ filter test arrivals) (filter test arrivals)) (d ∷ dues)
    by_test true rest = record {
      keep = record { dues = d ∷ rest.keep.dues; due = (due.0, due.1, rest.keep.due); apart = (rest.among (d + p) apart.0, rest.keep.apart) };
      among = λ low all. All-cons (λ (n : ℕ). low ≤ n) d rest.keep.dues (All-head (λ (n : ℕ). low ≤ n) d dues all)
          (rest.among low (All-tail (λ (n : ℕ). low ≤ n) d dues all));
    }
    by_test false rest = record { keep = rest.keep; among = λ low all. rest.among low (All-tail (λ (n : ℕ). low ≤ n) d dues all) }

-- and so do the first of them
fronted : (p j : ℕ) (xs ys : List Arrival) (dues : List ℕ) → AreDue j (times_in (xs ++ ys)) dues → AreApart p dues → IsThinned p j xs dues
fronted p j [] ys dues due apart = record { keep = record { dues = []; due = tt; apart = tt }; among = λ low all. All-nil _ }
fronted p j (a ∷ xs) ys [] due apart = absurd due
fronted p j (a ∷ xs) ys (d ∷ dues) due apart =
    let rest = fronted p j xs ys dues due.2 apart.1 in
    record {
      keep = record { dues = d ∷ rest.keep.dues; due = (due.0, due.1, rest.keep.due); apart = (rest.among (d + p) apart.0, rest.keep.apart) };
      among = λ low all. All-cons (λ (n : ℕ). low ≤ n) d rest.keep.dues (All-head (λ (n : ℕ). low ≤ n) d dues all)
          (rest.among low (All-tail (λ (n : ℕ). low ≤ n) d dues all));
    }

pub front_kept : (sender : Sender) (xs ys : List Arrival) (o : Option ℕ)
    → IfSome o (λ p. KeepPeriod p sender.jitter (times_in (filter (is_from sender.port) (xs ++ ys))))
    → IfSome o (λ p. KeepPeriod p sender.jitter (times_in (filter (is_from sender.port) xs)))
front_kept sender xs ys None keeps = keeps
front_kept sender xs ys (Some p) keeps =
    let parts = filter-append (is_from sender.port) xs ys in
    (fronted p sender.jitter (filter (is_from sender.port) xs) (filter (is_from sender.port) ys) keeps.dues (rw parts at keeps.due) keeps.apart).keep

-- the port is that of one of these senders
abbrev pub IsAmong : PortPlan → List Sender → Type 0
IsAmong port [] = ⊥
IsAmong port (sender ∷ senders) = (port ≡ sender.port) ⊎ IsAmong port senders

-- a sender of a plan that keeps its period
pub record IsKept (ports : List PortPlan) (arrivals : List Arrival) (sender : Sender) : Type 0 where
  pub port : Contains ports sender.port
  pub period : IfSome sender.period (λ p. (1 ≤ p) × (sender.jitter ≤ p))
  pub keeps : IfSome sender.period (λ p. KeepPeriod p sender.jitter (times_in (filter (is_from sender.port) arrivals)))

-- also of the messages that pass a test
pub still_kept : (ports : List PortPlan) (test : Arrival → Bool) (arrivals : List Arrival) (sender : Sender) → IsKept ports arrivals sender
    → IsKept ports (filter test arrivals) sender
still_kept ports test arrivals sender kept = record { port = kept.port; period = kept.period; keeps = by_period sender.period kept.keeps }
  where
    by_period : (o : Option ℕ) → IfSome o (λ p. KeepPeriod p sender.jitter (times_in (filter (is_from sender.port) arrivals)))
        → IfSome o (λ p. KeepPeriod p sender.jitter (times_in (filter (is_from sender.port) (filter test arrivals))))
    by_period None keeps = keeps
    by_period (Some p) keeps =
        rw (filter_swap (is_from sender.port) test arrivals)
        (thinned p sender.jitter test (filter (is_from sender.port) arrivals) keeps.dues keeps.due keeps.apart).keep

-- ports of one id are one
same_port : (plan : Plan) (p r : PortPlan) → IsPlan plan → Contains plan.ports p → Contains plan.ports r → p.id.0 ≡ r.id.0 → p ≡ r
same_port plan p r valid (i, below_i, is_p) (j, below_j, is_r) same =
    let d : PortPlan = port_plan_at [] 0 in
    let at_p : port_plan_at plan.ports i ≡ p = get_or_default plan.ports i d p below_i ∙ is_p in
    let at_r : port_plan_at plan.ports j ≡ r = get_or_default plan.ports j d r below_j ∙ is_r in
    let id_of : ℕ → PortId = λ n. record { 0 = n } in
    let of_port : PortPlan → PortId = λ port. port.id in
    let one : i ≡ j = valid.ports_apart i j below_i below_j (ap of_port at_p ∙ (ap id_of same ∙ sym (ap of_port at_r))) in
    sym at_p ∙ (ap (port_plan_at plan.ports) one ∙ at_r)

-- The most messages of a sender, by its period and its jitter.
abbrev pub of_sender : (bound : (period jitter : ℕ) → ℕ) → Sender → ℕ
of_sender bound sender = bound (unwrap_or sender.period 1) sender.jitter

-- The most that senders on a sub-VL have accepted, by the size of a message of each port and the most messages of each
-- period and jitter.
abbrev pub most_of : (size : PortPlan → ℕ) → LinkPlan → ℕ → (bound : (period jitter : ℕ) → ℕ) → List Sender → ℕ
most_of size link s bound [] = 0
most_of size link s bound (sender ∷ senders) =
    cond (is_on link s sender.port) (size sender.port * of_sender bound sender) 0 + most_of size link s bound senders

pub most_is : {F : Type 0} (size : PortPlan → ℕ) (link : LinkPlan) (s : ℕ) (bound : (period jitter : ℕ) → ℕ) (flow : Sender → F) (count : F → ℕ)
    → ((d : Sender) → count (flow d) ≡ size d.port * of_sender bound d)
    → (senders : List Sender) → sum_by count (map flow (senders_on link s senders)) ≡ most_of size link s bound senders
most_is size link s bound flow count each [] = refl
most_is size link s bound flow count each (sender ∷ senders) = by_place (is_on link s sender.port) (most_is size link s bound flow count each senders)
  where
    by_place : (b : Bool) → sum_by count (map flow (senders_on link s senders)) ≡ most_of size link s bound senders
        → sum_by count (map flow (cond b (sender ∷ senders_on link s senders) (senders_on link s senders)))
        ≡ cond b (size sender.port * of_sender bound sender) 0 + most_of size link s bound senders
    by_place true rest = grind (arith, sum_by-cons, each sender)
    by_place false rest = omega arith

both_true : (b c : Bool) → (b && c) ≡ true → (b ≡ true) × (c ≡ true)
both_true true c is = (refl, is)
both_true false c is = absurd (cc)

-- an arrival that its sub-VL may accept is no greater than a message of its port
abbrev pub AreSized : Plan → (k s : ℕ) → (size : PortPlan → ℕ) → (weight : Arrival → ℕ) → Type 0
AreSized plan k s size weight = (a : Arrival) → IsAllowed plan k s a.sent → weight a ≤ size a.sent.port

pub pieces_sized : (plan : Plan) (k s : ℕ) → 8 ≤ room_of (link_plan_at plan.links k).lmax
    → AreSized plan k s (port_pieces (link_plan_at plan.links k)) (weight_of (room_of (link_plan_at plan.links k).lmax))
pieces_sized plan k s wide a allowed = own_pieces plan k s a.sent wide allowed

module _ (plan : Plan) (k s : ℕ) (valid : IsPlan plan) (size : PortPlan → ℕ) (weight : Arrival → ℕ) (sized : AreSized plan k s size weight)
    (q u : ℕ) (bound : (period jitter : ℕ) → ℕ) (most : (p j : ℕ) → 1 ≤ p → 1 + (u + j) / p ≤ bound p j) where
  abbrev link : LinkPlan
  link = link_plan_at plan.links k

  -- a message that the sub-VL accepted in the time
  pub record IsTimed (a : Arrival) : Type 0 where
    pub allowed : IsAllowed plan k s a.sent
    pub from : q ≤ a.at
    pub by : a.at ≤ q + u

  -- the fragments of one sender
  own_most : (sender : Sender) (arrivals : List Arrival) (b : Bool) (o : Option ℕ) → is_on link s sender.port ≡ b → sender.period ≡ o
      → IsKept plan.ports arrivals sender → (not b || is_some o) ≡ true → All IsTimed arrivals
      → sum_by weight (filter (is_from sender.port) arrivals) ≤ cond b (size sender.port * bound (unwrap_or o 1) sender.jitter) 0
  own_most sender arrivals b o on is kept has timed = by_cases b o on is has
    where
      mine : List Arrival
      mine = filter (is_from sender.port) arrivals

      its : All IsTimed mine
      its = All-filter (is_from sender.port) IsTimed arrivals timed

      same : All (λ (a : Arrival). a.sent.port ≡ sender.port) mine
      same i d lt = same_port plan (get_or mine i d).sent.port sender.port valid (its i d lt).allowed.queued.port kept.port
          (let test = filter_passes (is_from sender.port) arrivals i d lt in grind (arith, nat_tests))

      on_it : (a : Arrival) → IsTimed a → a.sent.port ≡ sender.port → is_on link s sender.port ≡ true
      on_it a timed is = subst (λ (p : PortPlan). is_on link s p ≡ true) is (grind (arith, nat_tests, timed.allowed.queued.over, timed.allowed.queued.its))

      by_cases : (b : Bool) (o : Option ℕ) → is_on link s sender.port ≡ b → sender.period ≡ o → (not b || is_some o) ≡ true
          → sum_by weight mine ≤ cond b (size sender.port * bound (unwrap_or o 1) sender.jitter) 0
      by_cases false o on is has =
          let none = has_none mine (λ i d lt. (let yes = on_it (get_or mine i d) (its i d lt) (same i d lt) in cc)) in
          rw none (omega arith)
      by_cases true None on is has = absurd (cc)
      by_cases true (Some p) on is has =
          let good : (1 ≤ p) × (sender.jitter ≤ p) = rw is at kept.period in
          let period = good.0 in
          let keeps : KeepPeriod p sender.jitter (times_in mine) = rw is at kept.keeps in
          let count = spaced_kept p sender.jitter q u (times_in mine) period keeps (All-map (λ (n : ℕ). q ≤ n) (λ (a : Arrival). a.at) mine (λ i d lt. (its i d lt).from))
          (All-map (λ (n : ℕ). n ≤ q + u) (λ (a : Arrival). a.at) mine (λ i d lt. (its i d lt).by)) in
          let many = length-map mine (λ (a : Arrival). a.at) in
          let all = sum_by-le weight (size sender.port) mine (λ i d lt. subst (λ (r : PortPlan). weight (get_or mine i d) ≤ size r)
          (same i d lt) (sized (get_or mine i d) (its i d lt).allowed)) in
          let enough = most p sender.jitter period in
          let le = mul-le (length mine) (size sender.port) (bound p sender.jitter) (size sender.port) (omega arith) (omega arith) in
          omega arith

  -- the messages of the ports of these senders
  pub by_senders : (senders : List Sender) (arrivals : List Arrival) → All (IsKept plan.ports arrivals) senders
      → have_periods link s senders ≡ true → All IsTimed arrivals → All (λ (a : Arrival). IsAmong a.sent.port senders) arrivals
      → sum_by weight arrivals ≤ most_of size link s bound senders
  by_senders [] arrivals kept periods timed among = rw (has_none arrivals among) (omega arith)
  by_senders (sender ∷ senders) arrivals kept periods timed among =
      let Kept : Sender → Type 0 = IsKept plan.ports arrivals in
      let parts = sum_by-filter_both (is_from sender.port) foreign (λ a. refl) weight arrivals in
      let has = both_true (not (is_on link s sender.port) || has_period sender) (have_periods link s senders) periods in
      let own = own_most sender arrivals (is_on link s sender.port) sender.period refl refl (All-head Kept sender senders kept) has.0 timed in
      let rest = by_senders senders (filter foreign arrivals)
      (All-weaker Kept (IsKept plan.ports (filter foreign arrivals)) (still_kept plan.ports foreign arrivals) senders (All-tail Kept sender senders kept))
      has.1 (All-filter foreign IsTimed arrivals timed)
      (λ i d lt. other (get_or (filter foreign arrivals) i d) (filter_passes foreign arrivals i d lt)
      (All-filter foreign (λ (a : Arrival). IsAmong a.sent.port (sender ∷ senders)) arrivals among i d lt)) in
      omega arith
    where
      foreign : Arrival → Bool
      foreign a = not (is_from sender.port a)

      other : (a : Arrival) → foreign a ≡ true → IsAmong a.sent.port (sender ∷ senders) → IsAmong a.sent.port senders
      other a not_its (inl same) =
          let its : is_from sender.port a ≡ true = eq-eqb a.sent.port.id.0 sender.port.id.0 (ap (λ (p : PortPlan). p.id.0) same) in
          absurd (cc)
      other a not_its (inr later) = later
