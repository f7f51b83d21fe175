-- The law of a message in a run of polls.
use Rattle.afdx_laws.proofs.RunNames.{AreReleasedBy, all_back, Poll, released_by, lt-ltb, subst, IsAccepted, AreQueued, IsQueued, All-weaker, has_port, true, used_sub_vls, ℕ, ◌≡◌, ◌⊎◌, ◌+◌, ◌-◌, ◌*◌, ◌<◌, ◌≤◌, List, [], ◌∷◌, ◌++◌, Bool, nat_lt, length, map, take, drop, arith, refl, ap, ◌∙◌, sym, None, inl, inr, ⊎_elim, All, suc-mul, mul-le, cases_lt, le-ltb, append_assoc, length-append, take-append-drop, length-drop, All-head, All-drop, Plan, IsPlan, link_plan_at, bag_micros, link_place, room_of, LinkPlan, A, Sent, fragments_from, Entry, Lines, latest, IsPrefixOf, Accepted, IsAllowed, IsDrained, stream_at, cons_parts, all_front, pieces_of, port_pieces, most_pieces, queued_before, message_wait, worst_wait, AreTimely, fragments_of, seen_of, HasPlace, FindsIt, FindsGroup, IsGroupPoll, ArePolls, Passes, held_at, link_at, ◌&&◌, and_from, eq-eqb, eqb-true, false, false≢true, MessageInRun, own_link, sum_by-le, sum_by-take-drop, sum_by_push}
use Rattle.afdx_laws.proofs.PollStep.{StandsAt, StepsAt, emitter_step, drain_step, emitter_endures, drain_endures}
use Rattle.afdx_laws.proofs.Ran.{HasOwed, SendsOwed, Rise, Show, has_at, some_gap, at_of, seen_both, seen_append, adds_seen, timely_rise, splits, AreSteps, have_run}
use Rattle.afdx_laws.proofs.Used.{queued_port}
use Rattle.afdx_laws.proofs.Timely.{timely_released}
use Rattle.afdx_laws.proofs.Groups.{alone}
use Rattle.afdx_laws.proofs.PiecesInRun.{own_pieces, fragments_count, fragments_both, port_most}

-- fewer fragments of a sub-VL of the group were sent than are owed
abbrev waiting : (ℕ → Bool) → (ℕ → ℕ) → List Entry → ℕ → Bool
waiting group owed S x = group x && nat_lt (length (seen_of x S)) (owed x)

find_step : (now : ℕ) (plan : Plan) (accepted : Accepted) (k : ℕ) (group rest : ℕ → Bool) (owed : ℕ → ℕ → ℕ) (lines mid : Lines) → IsPlan plan
    → k < length plan.links → ((x : ℕ) → x < (link_plan_at plan.links k).sub_vls → group x ≡ true → owed x now ≤ length (fragments_of plan k (accepted k x))) → AreQueued plan accepted
    → IsGroupPoll plan accepted k group rest owed now lines mid → StandsAt plan k mid
    → StepsAt now plan k (waiting group (λ x. owed x now) (stream_at plan k lines)) lines mid
find_step now plan accepted k group rest owed lines mid valid inside most queued p stands = by_poll p.poll
  where
    W : ℕ → Bool
    W = waiting group (λ x. owed x now) (stream_at plan k lines)

    by_poll : FindsGroup plan k group owed now lines mid ⊎ IsDrained now plan accepted lines mid → StepsAt now plan k W lines mid
    by_poll (inl finds) = emitter_step now plan k W lines mid valid inside finds.poll (grind arith) stands
    by_poll (inr drains) = drain_step now plan accepted k W lines mid valid inside queued drains (grind (arith, le-ltb)) stands

-- what is known of a group at polls: what they find, and that no fragment of the rest is sent before it is owed
pub record AreFound (subs : ℕ) (group rest : ℕ → Bool) (owed : ℕ → ℕ → ℕ) (S : List Entry) (polls : List Poll) : Type 0 where
  pub has : (x : ℕ) → group x ≡ true → HasOwed x (owed x) (length (seen_of x S)) polls
  pub sends : (x : ℕ) → x < subs → rest x ≡ true → SendsOwed x (owed x) (length (seen_of x S)) polls

-- the polls of a run
pub finding_steps : (plan : Plan) (accepted : Accepted) (k : ℕ) (group rest : ℕ → Bool) (owed : ℕ → ℕ → ℕ) → IsPlan plan → k < length plan.links
    → ((now x : ℕ) → x < (link_plan_at plan.links k).sub_vls → group x ≡ true → owed x now ≤ length (fragments_of plan k (accepted k x))) → AreQueued plan accepted
    → AreSteps plan k (IsGroupPoll plan accepted k group rest owed) (AreFound (link_plan_at plan.links k).sub_vls group rest owed)
    (λ now S. waiting group (λ x. owed x now) S)
finding_steps plan accepted k group rest owed valid inside most queued = record {
  stays_down = λ now lines after p. ⊎_elim (λ finds. emitter_endures now plan lines after finds.poll)
      (grind (arith, drain_endures)) p.poll;
  step = λ now lines after p stands. find_step now plan accepted k group rest owed lines after valid inside (most now) queued p stands;
  none = λ S. record { has = λ x its. tt; sends = λ x lt its. tt };
  more = λ p polls lines mid of adds waits had. record {
    has = λ x its. (
      λ few. waits x (and_from (group x) _ its (lt-ltb (length (seen_of x (stream_at plan k lines))) (owed x p.at) few)),
      subst (λ (n : ℕ). HasOwed x (owed x) n polls) (adds_seen p.at x p.released _ _ adds) (had.has x its),
    );
    sends = λ x lt its. (
        let count = adds_seen p.at x p.released _ _ adds in
        let soon = of.sooner x lt its in
        (omega arith, subst (λ (n : ℕ). SendsOwed x (owed x) n polls) count (had.sends x lt its))
        );
  };
}

-- polls of one kind are polls of another
pub polls_are : {P Q : ℕ → Lines → Lines → Type 0} → ((now : ℕ) (lines after : Lines) → P now lines after → Q now lines after)
    → (moments : List ℕ) (lines after : Lines) → ArePolls P moments lines after → ArePolls Q moments lines after
polls_are each [] lines after is = is
polls_are each (now ∷ moments) lines after is = (is.0, each now lines is.0 is.1, polls_are each moments is.0 after is.2)

-- a poll that finds a sub-VL is one of a group of it alone
pub alone_found : (plan : Plan) (accepted : Accepted) (k s : ℕ) (group rest : ℕ → Bool) (owed : ℕ → ℕ → ℕ) (now : ℕ) (lines after : Lines)
    → ((x : ℕ) → group x ≡ true → x ≡ s) → ((x : ℕ) → rest x ≡ false)
    → FindsIt plan k s (owed s now) now lines after ⊎ IsDrained now plan accepted lines after
    → IsGroupPoll plan accepted k group rest owed now lines after
alone_found plan accepted k s group rest owed now lines after only none p = record { poll = by_poll p; sooner = λ x lt its. absurd (false≢true (sym (none x) ∙ its)) }
  where
    by_poll : FindsIt plan k s (owed s now) now lines after ⊎ IsDrained now plan accepted lines after
        → FindsGroup plan k group owed now lines after ⊎ IsDrained now plan accepted lines after
    by_poll (inl finds) = inl (record {
      poll = finds.poll;
      finds = λ x its. subst (λ (y : ℕ). Passes (held_at (link_at finds.poll.old.links k).subs y) (held_at (link_at finds.poll.new.links k).subs y)
          → owed y now ≤ length (seen_of y (stream_at plan k lines))) (sym (only x its)) finds.finds;
    })
    by_poll (inr drains) = inr drains

front_of : {X : Type 0} (xs ys us vs : List X) → xs ++ us ≡ ys ++ vs → length xs ≤ length ys → IsPrefixOf xs ys
front_of [] ys us vs is le = (ys, refl)
front_of (x ∷ xs) [] us vs is le = absurd (omega arith)
front_of (x ∷ xs) (y ∷ ys) us vs is le =
    let parts = cons_parts is in
    let rest = front_of xs ys us vs parts.1 (omega arith) in
    grind arith

pub wide_room : (plan : Plan) (k : ℕ) → IsPlan plan → k < length plan.links → 8 ≤ room_of (link_plan_at plan.links k).lmax
wide_room plan k valid inside = grind arith

module _ (plan : Plan) (k s : ℕ) (valid : IsPlan plan) (inside : k < length plan.links) where
  abbrev most_of : ℕ
  most_of = most_pieces (link_plan_at plan.links k) s plan.ports

  abbrev Few : Sent → Type 0
  Few m = pieces_of (room_of (link_plan_at plan.links k).lmax) (length m.bytes) ≤ most_of

  all_few : (messages : List Sent) → All (IsAllowed plan k s) messages → All Few messages
  all_few messages of i d lt = grind (arith, own_pieces, wide_room, port_most)

  -- How many fragments up to the message's last can be missing if its queue had room for it.
  missing : (earlier : List Sent) (sent : Sent) (stream : List Entry) → All Few earlier
      → IsAllowed plan k s sent → HasPlace plan k s earlier stream
      → length (fragments_of plan k (earlier ++ sent ∷ [])) - length (seen_of s stream)
      ≤ queued_before (link_plan_at plan.links k) most_of + port_pieces (link_plan_at plan.links k) sent.port
  missing earlier sent stream few of place =
      let link : LinkPlan = link_plan_at plan.links k in
      let room : ℕ = room_of link.lmax in
      let wide = wide_room plan k valid inside in
      let own = own_pieces plan k s sent wide of in
      let pieces : Sent → ℕ = λ m. pieces_of room (length m.bytes) in
      let whole = fragments_count plan.end_system room A 0 (earlier ++ sent ∷ []) wide in
      let parts = sum_by_push pieces earlier sent in
      elim (cases_lt (length earlier) link.capacity) [
        | inl less ↦ grind (arith, sum_by-le pieces most_of earlier few, mul-le)
        | inr more ↦
            let n : ℕ = length earlier - link.capacity in
            let size = length-drop n earlier in
            let both = sum_by-take-drop pieces earlier n in
            let front = fragments_count plan.end_system room A 0 (take n earlier) wide in
            let begun = place (take n earlier) (drop n earlier) (sym (take-append-drop n earlier)) (omega arith) in
            let held = sum_by-le pieces most_of (drop n earlier) (All-drop Few n earlier few) in
            grind (arith, suc-mul (link.capacity - 1) most_of)
      ]

own_wait : (plan : Plan) (k s late : ℕ) (sent : Sent) → link_place plan sent.port ≡ k → sent.port.sub ≡ s
    → worst_wait late plan sent.port ≡ message_wait late (link_plan_at plan.links k)
    (used_sub_vls (link_plan_at plan.links k) plan.ports) (most_pieces (link_plan_at plan.links k) s plan.ports) (port_pieces (link_plan_at plan.links k) sent.port)
own_wait plan k s late sent at its = grind arith

-- the fragments of the messages up to this one begin those of all
whole_front : (plan : Plan) (accepted : Accepted) (k s : ℕ) (earlier : List Sent) (sent : Sent) (later : List Sent)
    → IsAccepted plan accepted k s earlier sent later → fragments_of plan k (earlier ++ sent ∷ [])
    ++ fragments_from plan.end_system (room_of (link_plan_at plan.links k).lmax) A (0 + length (earlier ++ sent ∷ [])) later
    ≡ fragments_of plan k (accepted k s)
whole_front plan accepted k s earlier sent later is =
    grind (arith, fragments_both plan.end_system (room_of (link_plan_at plan.links k).lmax) A 0 (earlier ++ sent ∷ []) later, append_assoc earlier (sent ∷ []) later)

-- what follows of the accepted messages
pub record AreKnown (plan : Plan) (accepted : Accepted) (k s : ℕ) (earlier : List Sent) (sent : Sent) : Type 0 where
  pub before : All (IsAllowed plan k s) earlier
  pub own : IsAllowed plan k s sent
  pub queued : AreQueued plan accepted
  pub most : length (fragments_of plan k (earlier ++ sent ∷ [])) ≤ length (fragments_of plan k (accepted k s))
  pub user : has_port (link_plan_at plan.links k) plan.ports s ≡ true

pub are_known : (plan : Plan) (accepted : Accepted) (k s : ℕ) (earlier : List Sent) (sent : Sent) (later : List Sent)
    → IsAccepted plan accepted k s earlier sent later → AreKnown plan accepted k s earlier sent
are_known plan accepted k s earlier sent later is =
    let of_all : All (IsAllowed plan k s) (earlier ++ sent ∷ later) = rw is.are at (is.allowed k s is.link is.sub) in
    let of : IsAllowed plan k s sent = All-head (IsAllowed plan k s) sent later (all_back (IsAllowed plan k s) earlier (sent ∷ later) of_all) in
    let ahead = whole_front plan accepted k s earlier sent later is in
    record {
      before = all_front (IsAllowed plan k s) earlier (sent ∷ later) _ refl of_all;
      own = of;
      queued = λ i t lt tlt. All-weaker (IsAllowed plan i t) (IsQueued plan i t) (λ m a. a.queued) (accepted i t) (is.allowed i t lt tlt);
      most = grind (arith, length-append);
      user = queued_port plan k s sent of.queued;
    }

-- A message is released by a time by which the polls of a run released this many fragments of its sub-VL.
pub by_polls : (plan : Plan) (accepted : Accepted) (k s end start : ℕ) (earlier : List Sent) (sent : Sent) (later : List Sent)
    (polls : List Poll) (added : List Entry) (lines after : Lines) → IsAccepted plan accepted k s earlier sent later
    → Rise start polls → Show polls added → stream_at plan k after ≡ stream_at plan k lines ++ added
    → IsPrefixOf (seen_of s (stream_at plan k after)) (fragments_of plan k (accepted k s))
    → length (fragments_of plan k (earlier ++ sent ∷ [])) ≤ length (seen_of s (stream_at plan k lines)) + released_by s end polls
    → AreReleasedBy plan k s (earlier ++ sent ∷ []) (stream_at plan k lines) (stream_at plan k after) end
by_polls plan accepted k s end start earlier sent later polls added lines after is rise show grown begins enough =
    let S : List Entry = stream_at plan k lines in
    let ahead = whole_front plan accepted k s earlier sent later is in
    let split = splits polls added s end start rise show in
    let count = seen_both s S split.soon in
    let soon_front : IsPrefixOf (seen_of s (S ++ split.soon)) (seen_of s (stream_at plan k after)) = (
      seen_of s split.more,
      grind (arith, seen_append, append_assoc),
    ) in
    record {
      soon = split.soon;
      more = split.more;
      is = grind arith;
      by = split.by;
      whole = front_of (fragments_of plan k (earlier ++ sent ∷ [])) (seen_of s (S ++ split.soon)) _ (seen_of s split.more ++ begins.0)
          (ahead ∙ (sym begins.1 ∙ (ap (λ (seen : List (List ℕ)). seen ++ begins.0) (sym soon_front.1)
          ∙ append_assoc (seen_of s (S ++ split.soon)) (seen_of s split.more) begins.0))) (omega arith);
    }

pub message_in_run_holds : MessageInRun
message_in_run_holds plan accepted moments lines after k s late start earlier sent later valid is last place finding begins stands timely =
    let link : LinkPlan = link_plan_at plan.links k in
    let S : List Entry = stream_at plan k lines in
    let many : ℕ = length (fragments_of plan k (earlier ++ sent ∷ [])) in
    let end : ℕ = start + worst_wait late plan sent.port in
    let known = are_known plan accepted k s earlier sent later is in
    let few : All (Few plan k s valid is.link) earlier = all_few plan k s valid is.link earlier known.before in
    let gone = missing plan k s valid is.link earlier sent S few known.own place in
    let wait = own_wait plan k s late sent (grind (arith, own_link)) known.own.queued.its in
    let used : ℕ = used_sub_vls link plan.ports in
    let owed : ℕ → ℕ → ℕ = λ x now. many in
    let none : ℕ → Bool = λ x. false in
    let run = have_run moments plan k (IsGroupPoll plan accepted k (alone s) none owed) (AreFound (link_plan_at plan.links k).sub_vls (alone s) none owed) _ lines after
    (finding_steps plan accepted k (alone s) none owed valid is.link
    (λ now x lt its. subst (λ (y : ℕ). many ≤ length (fragments_of plan k (accepted k y))) (sym (eqb-true x s its)) known.most) known.queued)
    (polls_are (λ now lines after p. alone_found plan accepted k s (alone s) none owed now lines after (λ x its. eqb-true x s its) (λ x. refl) p) moments lines after finding) stands in
    let had = has_at s (many - length (seen_of s S)) many (length (seen_of s S)) run.polls (omega arith) (run.had.has s (eq-eqb s s refl)) in
    let rounds = mul-le used (many - length (seen_of s S)) used
    (queued_before link (most_pieces link s plan.ports) + port_pieces link sent.port) (omega arith) gone in
    let long = mul-le (used * (many - length (seen_of s S))) (bag_micros link.bag + late)
    (used * (queued_before link (most_pieces link s plan.ports) + port_pieces link sent.port)) (bag_micros link.bag + late)
    rounds (omega arith) in
    let when : AreTimely (bag_micros link.bag) late end start (map at_of run.polls) = rw run.at timely in
    let released = timely_released run.polls link.sub_vls (has_port link plan.ports) s (many - length (seen_of s S)) (bag_micros link.bag) late start end
    (latest None S) is.sub known.user (some_gap link.bag) last run.served run.users had when (omega arith) in
    by_polls plan accepted k s end start earlier sent later run.polls run.added lines after is
    (timely_rise (bag_micros link.bag) late end start run.polls when) run.show run.grown begins (omega arith)
