-- The law of a queue that is never full: what it holds.
use Rattle.afdx_laws.proofs.RunNames.{IsKnownBacklog, NeverFullInGroup, Option, min, unwrap_or, ℕ, ◌≡◌, ◌+◌, ◌-◌, ◌/◌, ◌≤◌, List, [], ◌∷◌, ◌++◌, true, None, Some, length, map, arith, refl, ap, sym, subst, ◌∙◌, inl, inr, cases_lt, length-append, append_assoc, append-nil, map-append, length-map, filter, filter_passes, All, Contains, All-append, All-cons, All-filter, All-head, All-map, All-nil, All-push, All-weaker, all_back, all_front, all_of_map, nat_tests, sum_by, sum_by-append, Plan, IsPlan, link_plan_at, room_of, LinkPlan, PortPlan, A, Sent, Accepted, IsAllowed, Lines, stream_at, fragments_of, seen_of, is_on, Sender, AreSendersOf, have_periods, flows_of, messages, greatest_message, places_at, IsBusyTime, round_of, Arrival, AreApart, KeepPeriods, accepted_by, is_before, messages_in, times_in, AsksAfter, NeverFull, asked_at, queued_of}
use Rattle.afdx_laws.proofs.Backlog.{IsBetween, are_round, few_messages, front_apart, front_keeps, greatest_most, has_oldest, is_later, messages_mono, piece, queued_after, queued_most, split_at, sum_filter}
use Rattle.afdx_laws.proofs.KeptPeriods.{IsAmong, IsKept, weight_of}
use Rattle.afdx_laws.proofs.LoneRun.{IsSince, lone_since}
use Rattle.afdx_laws.proofs.MessageRun.{wide_room}
use Rattle.afdx_laws.proofs.PiecesInRun.{fragments_count, own_pieces, pieces_in}
use Rattle.afdx_laws.proofs.TrafficRun.{alone_runs, gone_by, lone_run, own_in, released}
use Rattle.afdx_laws.proofs.Owed.{among_of, are_kept, count_is, first_is}

module _ (plan : Plan) (senders : List Sender) (accepted : Accepted) (moments : List ℕ) (lines after : Lines) (k s late start now : ℕ)
    (before : List Sent) (arrivals : List Arrival) (asked : List Sent) (own : Sent) (later : List Sent) (valid : IsPlan plan)
    (of : AreSendersOf plan senders) (periods : have_periods (link_plan_at plan.links k) s senders ≡ true)
    (is : AsksAfter plan accepted k s (before ++ messages_in arrivals) asked own later)
    (keeps : KeepPeriods senders start ((arrivals ++ map (asked_at now) asked) ++ asked_at now own ∷ [])) where
  abbrev link : LinkPlan
  link = link_plan_at plan.links k

  abbrev room : ℕ
  room = room_of link.lmax

  abbrev under : List Arrival
  under = map (asked_at now) asked

  abbrev came : List Arrival
  came = (arrivals ++ under) ++ asked_at now own ∷ []

  abbrev Allowed : Arrival → Type 0
  Allowed a = IsAllowed plan k s a.sent

  wide : 8 ≤ room
  wide = wide_room plan k valid is.link

  -- the messages that the sub-VL accepted
  are_allowed : All (IsAllowed plan k s) (before ++ messages_in arrivals)
  are_allowed = all_front (IsAllowed plan k s) (before ++ messages_in arrivals) later (accepted k s) (sym is.are) (is.allowed k s is.link is.sub)

  arrivals_allowed : All Allowed arrivals
  arrivals_allowed = all_of_map (IsAllowed plan k s) (λ (a : Arrival). a.sent) arrivals (all_back (IsAllowed plan k s) before (messages_in arrivals) are_allowed)

  came_allowed : All Allowed came
  came_allowed = All-push Allowed (arrivals ++ under) (asked_at now own)
      (All-append Allowed arrivals under arrivals_allowed (All-map Allowed (asked_at now) asked is.others)) is.asking

  among : All (λ (a : Arrival). IsAmong a.sent.port senders) came
  among = All-weaker Allowed (λ (a : Arrival). IsAmong a.sent.port senders)
      (λ a allowed. among_of a.sent.port senders
      (subst (λ (ports : List PortPlan). Contains ports a.sent.port) (sym of.ports) allowed.queued.port)) came came_allowed

  kept : All (IsKept plan.ports came) senders
  kept = are_kept plan senders start came of keeps

  came_is : came ≡ arrivals ++ (under ++ asked_at now own ∷ [])
  came_is = append_assoc arrivals under (asked_at now own ∷ [])

  came_from : All (λ (a : Arrival). start + 0 ≤ a.at) came
  came_from = all_of_map (λ (n : ℕ). start + 0 ≤ n) (λ (a : Arrival). a.at) came keeps.ordered.0

  pub from : start ≤ now
  from = let last = All-head (λ (a : Arrival). start + 0 ≤ a.at) (asked_at now own) [] (all_back (λ (a : Arrival). start + 0 ≤ a.at) (arrivals ++ under) _ came_from) in omega arith

  -- none of them after now
  came_by : All (λ (a : Arrival). a.at ≤ now) (arrivals ++ under)
  came_by = (are_round (arrivals ++ under) (asked_at now own) [] keeps.ordered.1).before

  arrivals_by : All (λ (a : Arrival). a.at ≤ now) arrivals
  arrivals_by = all_front (λ (a : Arrival). a.at ≤ now) arrivals under (arrivals ++ under) refl came_by

  arrivals_apart : AreApart 0 (times_in arrivals)
  arrivals_apart = front_apart 0 arrivals under (front_apart 0 (arrivals ++ under) (asked_at now own ∷ []) keeps.ordered.1)

  abbrev owed : ℕ → ℕ
  owed = accepted_by plan k before arrivals

  sum_is : (list : List Arrival) → length (fragments_of plan k (before ++ messages_in list)) ≡ pieces_in room before + sum_by (weight_of room) list
  sum_is list = count_is plan k s valid wide before arrivals list

  -- What the queue holds, with the requests under way.

  abbrev flows : ℕ → ℕ
  flows u = messages (flows_of link s senders) u

  abbrev asking : List Arrival
  asking = under ++ asked_at now own ∷ []

  asking_many : length asking ≡ length asked + 1
  asking_many = length-append under (asked_at now own ∷ []) ∙ ap (λ (n : ℕ). n + 1) (length-map asked (asked_at now))

  asking_between : (q : ℕ) → q ≤ now → All (IsBetween q (now - q)) asking
  asking_between q le = All-push (IsBetween q (now - q)) under (asked_at now own)
      (All-map (IsBetween q (now - q)) (asked_at now) asked (λ i d lt. record { from = le; by = omega arith })) (record { from = le; by = omega arith })

  are_between : (q : ℕ) (list : List Arrival) → All (λ (a : Arrival). q ≤ a.at) list → All (λ (a : Arrival). a.at ≤ now) list
      → All (IsBetween q (now - q)) list
  are_between q list from by i d lt = let le = by i d lt in record { from = from i d lt; by = omega (arith, from i d lt) }

  -- messages from a time on, with those that are asked for
  few_since : (q : ℕ) (front back : List Arrival) → arrivals ≡ front ++ back → q ≤ now → All (λ (a : Arrival). q ≤ a.at) back
      → length back + length asked + 1 ≤ flows (now - q)
  few_since q front back split le from =
      let same : came ≡ front ++ ((back ++ asking) ++ []) = came_is ∙ (ap (λ (list : List Arrival). list ++ asking) split
      ∙ (append_assoc front back asking ∙ ap (λ (list : List Arrival). front ++ list) (sym (append-nil (back ++ asking))))) in
      let by = all_back (λ (a : Arrival). a.at ≤ now) front back (subst (All (λ (a : Arrival). a.at ≤ now)) split arrivals_by) in
      let few = few_messages plan k s valid senders came periods kept came_allowed among q (now - q) front (back ++ asking) [] same
      (All-append (IsBetween q (now - q)) back asking (are_between q back from by) (asking_between q le)) in
      let both = length-append back asking in
      omega (arith, asking_many)

  abbrev most : ℕ
  most = greatest_message (flows_of link s senders)

  on_it : (a : Arrival) → Allowed a → is_on link s a.sent.port ≡ true
  on_it a allowed = grind (arith, nat_tests, allowed.queued.over, allowed.queued.its)

  greatest : (a : Arrival) → Allowed a → IsAmong a.sent.port senders → piece plan k wide a.sent ≤ most
  greatest a allowed inside =
      let own = own_pieces plan k s a.sent wide allowed in
      let part = greatest_most link s a.sent.port senders inside (on_it a allowed) in
      omega arith

  all_small : (list : List Arrival) → All Allowed list → All (λ (m : Sent). piece plan k wide m ≤ most) (messages_in list)
  all_small list allowed = All-map (λ (m : Sent). piece plan k wide m ≤ most) (λ (a : Arrival). a.sent) list
      (All-weaker Allowed (λ (a : Arrival). piece plan k wide a.sent ≤ most) (λ a of_it. greatest a of_it
      (among_of a.sent.port senders (subst (λ (ports : List PortPlan). Contains ports a.sent.port) (sym of.ports) of_it.queued.port))) list allowed)

  some_most : 1 ≤ most
  some_most =
      let last = All-head (λ (m : Sent). piece plan k wide m ≤ most) own [] (all_small (asked_at now own ∷ []) (All-cons Allowed (asked_at now own) [] is.asking (All-nil _))) in
      omega arith

  -- the messages before a time, and those from it on
  abbrev front_at : ℕ → List Arrival
  front_at q = filter (is_before q) arrivals

  abbrev back_at : ℕ → List Arrival
  back_at q = filter (is_later q) arrivals

  split_is : (q : ℕ) → arrivals ≡ front_at q ++ back_at q
  split_is q = split_at q arrivals arrivals_apart

  back_from : (q : ℕ) → All (λ (a : Arrival). q ≤ a.at) (back_at q)
  back_from q i d lt = let test = filter_passes (is_later q) arrivals i d lt in grind (arith, nat_tests)

  abbrev pieces : List Sent → ℕ
  pieces list = sum_by (piece plan k wide) list

  -- what is owed before a time is what those before it have
  owed_is : (q : ℕ) → owed q ≡ pieces (before ++ messages_in (front_at q))
  owed_is q = fragments_count plan.end_system room A 0 (before ++ messages_in (front_at q)) wide

  parts_is : (q : ℕ) → before ++ messages_in arrivals ≡ (before ++ messages_in (front_at q)) ++ messages_in (back_at q)
  parts_is q =
      ap (λ (list : List Arrival). before ++ messages_in list) (split_is q)
      ∙ (ap (λ (list : List Sent). before ++ list) (map-append (λ (a : Arrival). a.sent) (front_at q) (back_at q))
      ∙ sym (append_assoc before (messages_in (front_at q)) (messages_in (back_at q))))

  -- no more came by now than those before a time and those from it on
  owed_now : (q : ℕ) → owed now ≤ owed q + pieces (messages_in (back_at q))
  owed_now q =
      let here = sum_is (filter (is_before now) arrivals) in
      let whole = sum_is arrivals in
      let part = sum_filter (weight_of room) (is_before now) arrivals in
      let all = fragments_count plan.end_system room A 0 (before ++ messages_in arrivals) wide in
      let same = ap pieces (parts_is q) in
      let both = sum_by-append (piece plan k wide) (before ++ messages_in (front_at q)) (messages_in (back_at q)) in
      let front = owed_is q in
      omega arith

  held_is : (q gone : ℕ) → owed q ≤ gone → queued_of plan k (before ++ messages_in arrivals) gone
      ≡ queued_of plan k (messages_in (back_at q)) (gone - owed q)
  held_is q gone le =
      let front = owed_is q in
      ap (λ (list : List Sent). queued_of plan k list gone) (parts_is q)
      ∙ (queued_after plan k wide (before ++ messages_in (front_at q)) (messages_in (back_at q)) gone (omega arith)
      ∙ ap (λ (n : ℕ). queued_of plan k (messages_in (back_at q)) (gone - n)) (sym front))

  -- by the fragments that were sent
  by_backlog : (round gone q : ℕ) → IsSince round now gone owed link s senders q
      → queued_of plan k (before ++ messages_in arrivals) gone + length asked + 1 ≤ places_at round (flows_of link s senders) (now - q)
  by_backlog round gone q since =
      let sent = since.gone in
      let all = since.came in
      let g : ℕ = (now - q - 1) / round in
      let same = held_is q gone (omega arith) in
      let more = owed_now q in
      let begun = queued_most plan k wide (messages_in (back_at q)) (gone - owed q) g most some_most
      (all_small (back_at q) (All-filter (is_later q) Allowed arrivals arrivals_allowed)) (omega arith) (omega arith) in
      let count = length-map (back_at q) (λ (a : Arrival). a.sent) in
      let few = few_since q (front_at q) (back_at q) (split_is q) since.by (back_from q) in
      omega arith

  -- the oldest message of the queue has waited no longer than its wait
  by_oldest : (gone wait : ℕ) → pieces before ≤ gone
      → ((earlier : List Arrival) (m : Arrival) (others : List Arrival) → arrivals ≡ earlier ++ m ∷ others → m.at + wait ≤ now - 1
      → length (fragments_of plan k (before ++ messages_in (earlier ++ m ∷ []))) ≤ gone)
      → queued_of plan k (before ++ messages_in arrivals) gone + length asked + 1 ≤ flows wait
  by_oldest gone wait begin sent_in =
      let same = queued_after plan k wide before (messages_in arrivals) gone begin in
      elim (cases_lt 0 (queued_of plan k (messages_in arrivals) (gone - pieces before))) [
        | inr none ↦
            let few = few_since now arrivals [] (sym (append-nil arrivals)) (omega arith) (All-nil _) in
            let more = messages_mono link s senders (now - now) wait (omega arith) in
            omega arith
        | inl some ↦
            let old = has_oldest plan k wide arrivals (gone - pieces before) some in
            let m = old.oldest in
            let round_it = are_round old.front m old.back (subst (λ (list : List Arrival). AreApart 0 (times_in list)) old.is arrivals_apart) in
            let by_all : All (λ (a : Arrival). a.at ≤ now) (old.front ++ m ∷ old.back) = subst (All (λ (a : Arrival). a.at ≤ now)) old.is arrivals_by in
            let soon = All-head (λ (a : Arrival). a.at ≤ now) m old.back (all_back (λ (a : Arrival). a.at ≤ now) old.front (m ∷ old.back) by_all) in
            let few = few_since m.at old.front (m ∷ old.back) old.is soon (All-cons (λ (a : Arrival). m.at ≤ a.at) m old.back (omega arith) round_it.after) in
            let count = old.count in
            let not_begun = old.sent in
            let first = first_is plan k s valid wide before arrivals old.front m in
            let own_pieces = some_weight m in
            elim (cases_lt (now - 1) (m.at + wait)) [
              | inl waits ↦ (let more = messages_mono link s senders (now - m.at) wait (omega arith) in omega arith)
              | inr over ↦ (let all = sent_in old.front m old.back old.is over in absurd (omega arith))
            ]
      ]
    where
      some_weight : (a : Arrival) → 1 ≤ weight_of room a
      some_weight a = omega arith

-- what is within the backlog and within the messages of a wait is within the need
within_need : (round : ℕ) (link : LinkPlan) (s : ℕ) (senders : List Sender) (wait need at load : ℕ) (o : Option ℕ)
    → IsKnownBacklog round (flows_of link s senders) o
    → need ≡ min (unwrap_or o (messages (flows_of link s senders) wait)) (messages (flows_of link s senders) wait)
    → ((busy : ℕ) → IsBusyTime round (flows_of link s senders) busy → at ≤ busy)
    → load ≤ places_at round (flows_of link s senders) at → load ≤ messages (flows_of link s senders) wait → load ≤ need
within_need round link s senders wait need at load None none is within first second = omega arith
within_need round link s senders wait need at load (Some backlog) known is within first second =
    let most = known.is_most.most at (within known.busy known.is_busy) in
    omega arith

pub never_full_in_group : NeverFullInGroup
never_full_in_group plan senders accepted moments lines after k s mates late start now wait need before arrivals later asked own valid of periods wait_is need_is fits is run keeps timely port new size capacity load refused =
    let link : LinkPlan = link_plan_at plan.links k in
    let round : ℕ = round_of late plan link s 0 in
    let gone : ℕ = length (seen_of s (stream_at plan k after)) in
    let inside = own_in plan senders accepted moments lines after k s mates late start before arrivals later valid of wait_is.0 run in
    let starts = from plan senders accepted moments lines after k s late start now (before s) (arrivals s) asked own (later s) valid of periods is keeps in
    let lone = lone_run plan senders accepted k s mates start before arrivals later moments lines after run in
    let since = lone_since plan senders accepted moments lines after k s late start now before arrivals later valid of lone periods starts timely in
    let first = by_backlog plan senders accepted moments lines after k s late start now (before s) (arrivals s) asked own (later s) valid of periods is keeps
    round gone since.0 since.1 in
    let sent = ap length (run.each s run.sub inside).quiet in
    let begun = gone_by plan senders accepted moments lines after k s mates late start before arrivals later valid of wait_is.0 run 0 (now - 1) timely in
    let second = by_oldest plan senders accepted moments lines after k s late start now (before s) (arrivals s) asked own (later s) valid of periods is keeps
    gone wait (let count = fragments_count plan.end_system (room_of link.lmax) A 0 (before s) (wide_room plan k valid run.link) in omega (arith, sent, begun))
    (λ earlier m others parts over. (
    let all = released plan senders accepted moments lines after k s mates late start before arrivals later valid of wait_is.0 run
    wait (now - 1) earlier m others periods wait_is.1 parts over timely in
    let by = gone_by plan senders accepted moments lines after k s mates late start before arrivals later valid of wait_is.0 run (m.at + wait) (now - 1) timely in
    omega arith
    )) in
    let full = refused.queue.1 in
    let places = within_need round link s senders wait need (now - since.0) _ need_is.backlog need_is.is_backlog need_is.less since.1.within first second in
    absurd (omega arith)

pub never_full_holds : NeverFull
never_full_holds plan senders accepted moments lines after k s late start now wait need before arrivals asked own later valid of wait_is need_is fits is last quiet keeps finding stands timely =
    never_full_in_group plan senders accepted moments lines after k s 0 late start now wait need (λ t. before) (λ t. arrivals) (λ t. later) asked own valid of
    wait_is.0 wait_is.1 need_is fits is
    (alone_runs plan senders accepted moments lines after k s start before arrivals later is.link is.sub is.allowed is.are last quiet
    (front_keeps senders start arrivals (map (asked_at now) asked ++ asked_at now own ∷ []) (subst (KeepPeriods senders start) (append_assoc arrivals (map (asked_at now) asked) (asked_at now own ∷ [])) keeps))
    finding stands) keeps timely
