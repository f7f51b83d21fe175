-- The fragments that a sub-VL owes in a run, if its ports keep periods.
use Rattle.afdx_laws.proofs.RunNames.{Accepted, all_back, all_front, ℕ, suc, zero, ◌≡◌, ◌+◌, ◌-◌, ◌<◌, ◌≤◌, ◌∙◌, List, [], ◌∷◌, ◌++◌, true, false, Bool, nat_tests, append-nil, pieces_of, port_pieces, arith, sym, ap, subst, inl, inr, map, length, lt-ltb, refl, All, All-cons, All-weaker, Contains, Plan, IsPlan, link_plan_at, LinkPlan, PortPlan, room_of, A, Sent, IsAllowed, fragments_of, ◌/◌, filter, filter-append, sum_by, div_ceil, All-contains_itself, All-filter, filter_passes, sum_by-append, sum_by-cons, sum_by_push, Sender, AreSendersOf, arrived, arrived_before, flow_of, flows_of, have_periods, all_of_map, Arrival, AreApart, KeepPeriods, accepted_by, is_before, messages_in, times_in}
use Rattle.afdx_laws.proofs.Backlog.{are_round, before_both, filter_none, sum_filter}
use Rattle.afdx_laws.proofs.GroupWait.{KeepsOwn}
use Rattle.afdx_laws.proofs.KeptPeriods.{IsAmong, IsKept, IsTimed, by_senders, filter_all, has_none, is_within, most_is, most_of, pieces_sized, still_kept, sum_between, weight_of}
use Rattle.afdx_laws.proofs.PiecesInRun.{fragments_count, pieces_in}

pub among_of : (port : PortPlan) (senders : List Sender) → Contains (map (λ (s : Sender). s.port) senders) port → IsAmong port senders
among_of port [] (k, lt, is) = absurd (omega arith)
among_of port (sender ∷ senders) (zero, lt, is) = inl (sym is)
among_of port (sender ∷ senders) (suc k, lt, is) = inr (among_of port senders (k, omega arith, is))

ceil_most : (u j p : ℕ) → 1 ≤ p → 1 + (u + j) / p ≤ div_ceil (suc u + j) p
ceil_most u j p step = grind arith

pieces_are : (room : ℕ) (arrivals : List Arrival) → pieces_in room (messages_in arrivals) ≡ sum_by (weight_of room) arrivals
pieces_are room [] = refl
pieces_are room (a ∷ arrivals) =
    let first = sum_by-cons (λ (m : Sent). pieces_of room (length m.bytes)) a.sent (messages_in arrivals) in
    let own = sum_by-cons (weight_of room) a arrivals in
    let rest = pieces_are room arrivals in
    omega arith

module _ (plan : Plan) (k s : ℕ) (valid : IsPlan plan) (wide : 8 ≤ room_of (link_plan_at plan.links k).lmax) (before : List Sent)
    (arrivals : List Arrival) where
  abbrev link : LinkPlan
  link = link_plan_at plan.links k

  abbrev weight : Arrival → ℕ
  weight = weight_of (room_of link.lmax)

  abbrev owed : ℕ → ℕ
  owed = accepted_by plan k before arrivals

  -- what was accepted with these arrivals, in fragments
  pub count_is : (came : List Arrival) → length (fragments_of plan k (before ++ messages_in came))
      ≡ pieces_in (room_of link.lmax) before + sum_by weight came
  count_is came =
      let room : ℕ = room_of link.lmax in
      let whole = fragments_count plan.end_system room A 0 (before ++ messages_in came) wide in
      let parts = sum_by-append (λ (m : Sent). pieces_of room (length m.bytes)) before (messages_in came) in
      let same = pieces_are room came in
      omega arith

  -- what the sub-VL owes keeps its flows
  pub keeps_owed : (senders : List Sender) → AreSendersOf plan senders → have_periods link s senders ≡ true
      → All (λ (a : Arrival). IsAllowed plan k s a.sent) arrivals → All (IsKept plan.ports arrivals) senders
      → KeepsOwn owed link s senders
  keeps_owed senders of periods allowed kept = record {
    kept_before = kept_before;
    kept = λ q t. (
        let few = window q t (λ p j. 1 + (t + j) / p) (λ p j step. omega arith) in
        let same : arrived (flows_of link s senders) t ≡ most_of (port_pieces link) link s (λ p j. 1 + (t + j) / p) senders =
        most_is (port_pieces link) link s (λ p j. 1 + (t + j) / p) (flow_of link) _ (λ d. refl) senders in
        omega arith
        );
  }
    where
      -- each message is of a sender
      among : All (λ (a : Arrival). IsAmong a.sent.port senders) arrivals
      among = All-weaker (λ (a : Arrival). IsAllowed plan k s a.sent) (λ (a : Arrival). IsAmong a.sent.port senders)
          (λ a is. among_of a.sent.port senders
          (subst (λ (ports : List PortPlan). Contains ports a.sent.port) (sym of.ports) is.queued.port)) arrivals allowed

      window : (q u : ℕ) (bound : (period jitter : ℕ) → ℕ) → ((p j : ℕ) → 1 ≤ p → 1 + (u + j) / p ≤ bound p j)
          → owed (q + suc u) - owed q ≤ most_of (port_pieces link) link s bound senders
      window q u bound most =
          let within : Arrival → Bool = is_within q (suc u) in
          let timed : All (IsTimed plan k s valid (port_pieces link) weight (pieces_sized plan k s wide) q u bound most) (filter within arrivals) = λ i a lt.
          let test = filter_passes within arrivals i a lt in
          record {
            allowed = All-filter within (λ (d : Arrival). IsAllowed plan k s d.sent) arrivals allowed i a lt;
            from = grind (arith, nat_tests);
            by = grind (arith, nat_tests);
          } in
          let few = by_senders plan k s valid (port_pieces link) weight (pieces_sized plan k s wide) q u bound most senders (filter within arrivals)
          (All-weaker (IsKept plan.ports arrivals) (IsKept plan.ports (filter within arrivals)) (still_kept plan.ports within arrivals) senders kept)
          periods timed (All-filter within (λ (a : Arrival). IsAmong a.sent.port senders) arrivals among) in
          let more = sum_between weight q (suc u) arrivals in
          let here = count_is (filter (is_before q) arrivals) in
          let there = count_is (filter (is_before (q + suc u)) arrivals) in
          omega arith

      kept_before : (q t : ℕ) → 1 ≤ t → owed (q + t) ≤ owed q + arrived_before (flows_of link s senders) t
      kept_before q zero some = absurd (omega arith)
      kept_before q (suc u) some =
          let few = window q u (λ p j. div_ceil (suc u + j) p) (λ p j step. ceil_most u j p step) in
          let same : arrived_before (flows_of link s senders) (suc u) ≡ most_of (port_pieces link) link s (λ p j. div_ceil (suc u + j) p) senders =
          most_is (port_pieces link) link s (λ p j. div_ceil (suc u + j) p) (flow_of link) _ (λ d. refl) senders in
          omega arith

  -- it owes no less at a later time
  pub owed_rises : (t u : ℕ) → t ≤ u → owed t ≤ owed u
  owed_rises t u le =
      let here = count_is (filter (is_before t) arrivals) in
      let there = count_is (filter (is_before u) arrivals) in
      let same = ap (sum_by weight) (before_both t u le arrivals) in
      let part = sum_filter weight (is_before t) (filter (is_before u) arrivals) in
      omega arith

  -- and no more than what it accepted in all
  pub owed_within : (t : ℕ) (later all : List Sent) → all ≡ (before ++ messages_in arrivals) ++ later → owed t ≤ length (fragments_of plan k all)
  owed_within t later all are =
      let here = count_is (filter (is_before t) arrivals) in
      let whole = count_is arrivals in
      let part = sum_filter weight (is_before t) arrivals in
      let room : ℕ = room_of link.lmax in
      let these = fragments_count plan.end_system room A 0 (before ++ messages_in arrivals) wide in
      let every = fragments_count plan.end_system room A 0 ((before ++ messages_in arrivals) ++ later) wide in
      let both = sum_by-append (λ (m : Sent). pieces_of room (length m.bytes)) (before ++ messages_in arrivals) later in
      let same = ap (λ (list : List Sent). length (fragments_of plan k list)) are in
      omega arith

  -- the fragments of the first messages of the run, up to one
  pub first_is : (earlier : List Arrival) (own : Arrival) → length (fragments_of plan k (before ++ messages_in (earlier ++ own ∷ [])))
      ≡ pieces_in (room_of link.lmax) before + sum_by weight earlier + weight own
  first_is earlier own =
      let whole = count_is (earlier ++ own ∷ []) in
      let push = sum_by_push weight earlier own in
      omega arith

  -- are not all owed before its acceptance
  pub owed_short : (earlier : List Arrival) (own : Arrival) (others : List Arrival) → arrivals ≡ earlier ++ own ∷ others
      → AreApart 0 (times_in (earlier ++ own ∷ others)) → owed own.at < length (fragments_of plan k (before ++ messages_in (earlier ++ own ∷ [])))
  owed_short earlier own others is apart =
      let here = count_is (filter (is_before own.at) arrivals) in
      let first = first_is earlier own in
      let front = filter-append (is_before own.at) earlier (own ∷ others) in
      let none = filter_none (is_before own.at) (own ∷ others) (All-cons (λ (a : Arrival). is_before own.at a ≡ false) own others (grind (arith, nat_tests))
      (All-weaker (λ (a : Arrival). own.at ≤ a.at) (λ (a : Arrival). is_before own.at a ≡ false) (λ a le. grind (arith, nat_tests)) others
      (are_round earlier own others apart).after)) in
      let only = ap (sum_by weight) (ap (filter (is_before own.at)) is ∙ (front ∙ (ap (λ (list : List Arrival). filter (is_before own.at) earlier ++ list) none
      ∙ append-nil (filter (is_before own.at) earlier)))) in
      let part = sum_filter weight (is_before own.at) earlier in
      omega arith

  -- but after it
  pub owed_all : (earlier : List Arrival) (own : Arrival) (others : List Arrival) (t : ℕ) → arrivals ≡ earlier ++ own ∷ others
      → AreApart 0 (times_in (earlier ++ own ∷ others)) → own.at < t
      → length (fragments_of plan k (before ++ messages_in (earlier ++ own ∷ []))) ≤ owed t
  owed_all earlier own others t is apart past =
      let here = count_is (filter (is_before t) arrivals) in
      let first = first_is earlier own in
      let front = filter-append (is_before t) earlier (own ∷ others) in
      let all = filter_all (is_before t) earlier (All-weaker (λ (a : Arrival). a.at ≤ own.at) (λ (a : Arrival). is_before t a ≡ true)
      (λ a le. lt-ltb a.at t (omega arith)) earlier (are_round earlier own others apart).before) in
      let second : filter (is_before t) (own ∷ others) ≡ own ∷ filter (is_before t) others = grind (arith, nat_tests) in
      let both = ap (sum_by weight) (ap (filter (is_before t)) is ∙ (front ∙ (ap (λ (list : List Arrival). list ++ filter (is_before t) (own ∷ others)) all
      ∙ ap (λ (list : List Arrival). earlier ++ list) second))) in
      let parts = sum_by-append weight earlier (own ∷ filter (is_before t) others) in
      let last = sum_by-cons weight own (filter (is_before t) others) in
      omega arith

  -- nothing was accepted since, before the start
  pub none_owed : (start : ℕ) → All (λ (n : ℕ). start + 0 ≤ n) (times_in arrivals) → owed start ≡ length (fragments_of plan k before)
  none_owed start from =
      let later = all_of_map (λ (n : ℕ). start + 0 ≤ n) (λ (a : Arrival). a.at) arrivals from in
      let none = has_none (filter (is_before start) arrivals) (λ i a lt. (
      let soon = filter_passes (is_before start) arrivals i a lt in
      let late = All-filter (is_before start) (λ (d : Arrival). start + 0 ≤ d.at) arrivals later i a lt in
      grind (arith, nat_tests)
      )) in
      rw none (rw append-nil refl)

-- the senders of a plan keep their periods
pub are_kept : (plan : Plan) (senders : List Sender) (start : ℕ) (arrivals : List Arrival) → AreSendersOf plan senders → KeepPeriods senders start arrivals
    → All (IsKept plan.ports arrivals) senders
are_kept plan senders start arrivals of keeps i d lt =
    let ports : All (Contains plan.ports) (map (λ (s : Sender). s.port) senders) =
    subst (All (Contains plan.ports)) (sym of.ports) (All-contains_itself plan.ports) in
    record {
      port = all_of_map (Contains plan.ports) (λ (s : Sender). s.port) senders ports i d lt;
      period = of.periods i d lt;
      keeps = keeps.periods i d lt;
    }

-- the messages that a sub-VL accepted in a run are allowed
pub arrivals_allowed : (plan : Plan) (accepted : Accepted) (k t : ℕ) (before : List Sent) (arrivals : List Arrival) (later : List Sent)
    → accepted k t ≡ (before ++ messages_in arrivals) ++ later → All (IsAllowed plan k t) (accepted k t)
    → All (λ (a : Arrival). IsAllowed plan k t a.sent) arrivals
arrivals_allowed plan accepted k t before arrivals later are allowed =
    all_of_map (IsAllowed plan k t) (λ (a : Arrival). a.sent) arrivals (all_back (IsAllowed plan k t) before (messages_in arrivals)
    (all_front (IsAllowed plan k t) (before ++ messages_in arrivals) later (accepted k t) (sym are) allowed))
