-- The law of a message in a run of polls if the ports of its sub-VL keep periods.
use Rattle.afdx_laws.proofs.RunNames.{is_with, AreAllowed, AreFindingAll, mates_have_periods, false≢true, ⊎_elim, AreQueued, GroupInRun, HasTraffic, IsGroupRun, IsQueued, IsWaitInGroup, AreMates, Accepted, Lines, is_in, has_sub, flows_with, any_up, ℕ, suc, ◌≡◌, ◌+◌, ◌*◌, ◌^◌, ◌||◌, ◌<◌, ◌≤◌, ◌∙◌, List, [], ◌∷◌, ◌++◌, true, false, Bool, nat_tests, arith, sym, ap, subst, None, Entry, inl, inr, map, length, append_assoc, map-append, refl, All, All-head, All-tail, All-weaker, Plan, IsPlan, link_plan_at, LinkPlan, bag_micros, room_of, Sent, IsAllowed, has_port, users_among, released_by, latest, IsLater, AreTimely, stream_at, fragments_of, seen_of, ◌/◌, div-le_self, Sender, AreSendersOf, arrived, arrived_before, flow_of, flows_of, have_periods, round_of, Arrival, KeepPeriods, TrafficInRun, accepted_by, messages_in, times_in}
use Rattle.afdx_laws.proofs.GroupWait.{KeepsOwn, KeepsRest, sent_in_group}
use Rattle.afdx_laws.proofs.Groups.{in_group, outside, sum_in, sum_in_both, sum_in_le}
use Rattle.afdx_laws.proofs.Mates.{by_mates, mate_has_periods, not_mate, round_is}
use Rattle.afdx_laws.proofs.MessageRun.{AreFound, alone_found, by_polls, finding_steps, polls_are, wide_room}
use Rattle.afdx_laws.proofs.Owed.{are_kept, arrivals_allowed, keeps_owed, none_owed, owed_all, owed_rises, owed_short, owed_within}
use Rattle.afdx_laws.proofs.QuietPolls.{AreAfter}
use Rattle.afdx_laws.proofs.Ran.{HaveRun, at_of, have_run, seen_both, some_gap, splits, timely_rise}

-- a message of a run is not accepted before the start
from_start : (start : ℕ) (earlier : List Arrival) (own : Arrival) (others : List Arrival)
    → All (λ (n : ℕ). start + 0 ≤ n) (times_in (earlier ++ own ∷ others)) → start ≤ own.at
from_start start [] own others all = let first = All-head (λ (n : ℕ). start + 0 ≤ n) own.at (times_in others) all in omega arith
from_start start (a ∷ earlier) own others all =
    from_start start earlier own others (All-tail (λ (n : ℕ). start + 0 ≤ n) a.at (times_in (earlier ++ own ∷ others)) all)

module _ (plan : Plan) (senders : List Sender) (accepted : Accepted) (moments : List ℕ) (lines after : Lines) (k s mates late start : ℕ)
    (before : ℕ → List Sent) (arrivals : ℕ → List Arrival) (later : ℕ → List Sent) (valid : IsPlan plan) (of : AreSendersOf plan senders)
    (are : AreMates plan (link_plan_at plan.links k) s senders mates)
    (run : IsGroupRun plan senders accepted k s mates start before arrivals later moments lines after) where
  abbrev pub its_link : LinkPlan
  its_link = link_plan_at plan.links k

  wide : 8 ≤ room_of its_link.lmax
  wide = wide_room plan k valid run.link

  abbrev pub owed_at : ℕ → ℕ → ℕ
  owed_at t = accepted_by plan k (before t) (arrivals t)

  abbrev pub stream : List Entry
  stream = stream_at plan k lines

  abbrev pub mate : ℕ → Bool
  mate = has_sub mates

  pub at_rises : (t u v : ℕ) → u ≤ v → owed_at t u ≤ owed_at t v
  at_rises t = owed_rises plan k t valid wide (before t) (arrivals t)

  queued : AreQueued plan accepted
  queued i t lt tlt = All-weaker (IsAllowed plan i t) (IsQueued plan i t) (λ m a. a.queued) (accepted i t) (run.allowed i t lt tlt)

  -- the polls of the group
  pub group_run : HaveRun (bag_micros its_link.bag) its_link.sub_vls (has_port its_link plan.ports) (AreFound its_link.sub_vls (is_in s mates) mate owed_at) moments
      stream (stream_at plan k after)
  group_run = have_run moments plan k _ (AreFound its_link.sub_vls (is_in s mates) mate owed_at) _ lines after
      (finding_steps plan accepted k (is_in s mates) mate owed_at valid run.link
      (λ now t lt its. owed_within plan k t valid wide (before t) (arrivals t) now (later t) (accepted k t) (run.each t lt its).are) queued) run.polls run.is_up

  -- and what is known after the start
  pub are_after : (until : ℕ) → AreTimely (bag_micros its_link.bag) late until start moments
      → AreAfter (bag_micros its_link.bag) its_link.sub_vls (has_port its_link plan.ports) (is_in s mates) owed_at late until (some_gap its_link.bag) at_rises
      start (λ t. length (seen_of t stream)) (latest None stream) group_run.polls
  are_after until timely = record {
    later = run.starts;
    served = group_run.served;
    users = group_run.users;
    timely = rw group_run.at timely;
    has = λ t lt its. group_run.had.has t its;
  }

  pub sent_all : (t : ℕ) → t < its_link.sub_vls → is_in s mates t ≡ true → length (seen_of t stream) ≡ owed_at t start
  sent_all t lt its =
      let traffic = run.each t lt its in
      ap length traffic.quiet ∙ sym (none_owed plan k t valid wide (before t) (arrivals t) start traffic.keeps.ordered.0)

  -- a sub-VL of the group keeps its flows
  pub sub_keeps : (t : ℕ) → t < its_link.sub_vls → is_in s mates t ≡ true → have_periods its_link t senders ≡ true
      → KeepsOwn (owed_at t) its_link t senders
  sub_keeps t lt its periods =
      let traffic = run.each t lt its in
      keeps_owed plan k t valid wide (before t) (arrivals t) senders of periods
      (arrivals_allowed plan accepted k t (before t) (arrivals t) (later t) traffic.are (run.allowed k t run.link lt))
      (are_kept plan senders start (arrivals t) of traffic.keeps)

  -- and so do the mates together
  pub mates_keep : KeepsRest (λ u. sum_in its_link.sub_vls mate (λ t. owed_at t u)) its_link mates senders
  mates_keep = record {
    kept_before = λ q u one. (
        let each = together (λ t. owed_at t (q + u)) (λ t. owed_at t q) (λ t. arrived_before (flows_of its_link t senders) u)
        (λ t lt its. (each_keeps t lt its).kept_before q u one) in
        let whole : sum_in its_link.sub_vls mate (λ t. arrived_before (flows_of its_link t senders) u) ≤ arrived_before (flows_with its_link mates senders) u =
        by_mates (flow_of its_link) _ its_link its_link.sub_vls mates senders in
        omega arith
        );
    kept = λ q u. (
        let each = together (λ t. owed_at t (q + suc u)) (λ t. owed_at t q) (λ t. arrived (flows_of its_link t senders) u)
        (λ t lt its. (each_keeps t lt its).kept q u) in
        let whole : sum_in its_link.sub_vls mate (λ t. arrived (flows_of its_link t senders) u) ≤ arrived (flows_with its_link mates senders) u =
        by_mates (flow_of its_link) _ its_link its_link.sub_vls mates senders in
        omega arith
        );
  }
    where
      or_right : (b c : Bool) → c ≡ true → (b || c) ≡ true
      or_right true c is = refl
      or_right false c is = is

      each_keeps : (t : ℕ) → t < its_link.sub_vls → mate t ≡ true → KeepsOwn (owed_at t) its_link t senders
      each_keeps t lt its = sub_keeps t lt (or_right _ _ its) (mate_has_periods its_link mates t senders its are.periods)

      together : (there here more : ℕ → ℕ) → ((t : ℕ) → t < its_link.sub_vls → mate t ≡ true → there t ≤ here t + more t)
          → sum_in its_link.sub_vls mate there ≤ sum_in its_link.sub_vls mate here + sum_in its_link.sub_vls mate more
      together there here more each =
          let few = sum_in_le its_link.sub_vls mate there (λ t. here t + more t) each in
          let both = sum_in_both its_link.sub_vls mate here more in
          omega arith

  -- the polls by a time have sent no more than all polls
  pub gone_by : (t until : ℕ) → AreTimely (bag_micros its_link.bag) late until start moments
      → length (seen_of s stream) + released_by s t group_run.polls ≤ length (seen_of s (stream_at plan k after))
  gone_by t until timely =
      let when : AreTimely (bag_micros its_link.bag) late until start (map at_of group_run.polls) = rw group_run.at timely in
      let split = splits group_run.polls group_run.added s t start (timely_rise (bag_micros its_link.bag) late until start group_run.polls when) group_run.show in
      let more = seen_both s stream group_run.added in
      let grown = ap (λ (T : List Entry). length (seen_of s T)) group_run.grown in
      let parts = seen_both s split.soon split.more in
      let whole = ap (λ (T : List Entry). length (seen_of s T)) split.is in
      let seen = split.seen in
      omega arith

  pub own_in : is_in s mates s ≡ true
  own_in = grind (arith, nat_tests)

  -- A message of the sub-VL is wholly released within the wait, if the polls last as long. `until` is their end.
  pub released : (wait until : ℕ) (earlier : List Arrival) (own : Arrival) (others : List Arrival) → have_periods its_link s senders ≡ true
      → IsWaitInGroup (round_of late plan its_link s mates) (flows_of its_link s senders) (flows_with its_link mates senders) wait
      → arrivals s ≡ earlier ++ own ∷ others → own.at + wait ≤ until → AreTimely (bag_micros its_link.bag) late until start moments
      → length (fragments_of plan k (before s ++ messages_in (earlier ++ own ∷ [])))
      ≤ length (seen_of s stream) + released_by s (own.at + wait) group_run.polls
  released wait until earlier own others periods wait_is is far timely =
      let gap : ℕ = bag_micros its_link.bag in
      let traffic = run.each s run.sub own_in in
      let keeps = subst (KeepPeriods senders start) is traffic.keeps in
      let turned : IsWaitInGroup (suc (users_among its_link.sub_vls (outside (has_port its_link plan.ports) (in_group s mate))) * (gap + late))
      (flows_of its_link s senders) (flows_with its_link mates senders) wait =
      subst (λ (r : ℕ). IsWaitInGroup r (flows_of its_link s senders) (flows_with its_link mates senders) wait) (sym (round_is late plan its_link s mates)) wait_is in
      sent_in_group gap its_link.sub_vls (has_port its_link plan.ports) late until (some_gap its_link.bag) s mate run.sub
      (not_mate plan k s mates senders valid run.link run.sub are) owed_at at_rises start (λ t. length (seen_of t stream)) (latest None stream)
      group_run.polls (are_after until timely) its_link mates senders own.at (length (fragments_of plan k (before s ++ messages_in (earlier ++ own ∷ []))))
      (owed_short plan k s valid wide (before s) (arrivals s) earlier own others is keeps.ordered.1)
      (λ t past. owed_all plan k s valid wide (before s) (arrivals s) earlier own others t is keeps.ordered.1 past)
      wait (sub_keeps s run.sub own_in periods) mates_keep
      group_run.had.sends sent_all turned (from_start start earlier own others keeps.ordered.0) far

pub group_in_run_holds : GroupInRun
group_in_run_holds plan senders accepted moments lines after k s mates late start wait before arrivals later earlier own others valid of periods wait_is run is begins timely =
    let own_run = group_run plan senders accepted moments lines after k s mates late start before arrivals later valid of wait_is.0 run in
    let traffic = run.each s run.sub (own_in plan senders accepted moments lines after k s mates late start before arrivals later valid of wait_is.0 run) in
    let same : before s ++ messages_in (earlier ++ own ∷ []) ≡ (before s ++ messages_in earlier) ++ own.sent ∷ [] = grind (arith, append_assoc, map-append) in
    let parts : before s ++ messages_in (arrivals s) ≡ (before s ++ messages_in earlier) ++ own.sent ∷ messages_in others = grind (arith, append_assoc, map-append, is) in
    let enough = released plan senders accepted moments lines after k s mates late start before arrivals later valid of wait_is.0 run
    wait (own.at + wait) earlier own others periods wait_is.1 is (omega arith) timely in
    let count = ap (λ (messages : List Sent). length (fragments_of plan k messages)) same in
    let when : AreTimely (bag_micros (link_plan_at plan.links k).bag) late (own.at + wait) start (map at_of own_run.polls) = rw own_run.at timely in
    by_polls plan accepted k s (own.at + wait) start (before s ++ messages_in earlier) own.sent (messages_in others ++ later s) own_run.polls own_run.added lines after
    (record {
      link = run.link;
      sub = run.sub;
      are = traffic.are ∙ (ap (λ (list : List Sent). list ++ later s) parts ∙ append_assoc (before s ++ messages_in earlier) (own.sent ∷ messages_in others) (later s));
      allowed = run.allowed;
    })
    (timely_rise (bag_micros (link_plan_at plan.links k).bag) late (own.at + wait) start own_run.polls when) own_run.show own_run.grown begins (omega arith)

-- The sub-VL alone.

pub has_none_of : (t : ℕ) → has_sub 0 t ≡ false
has_none_of t = let none : 0 / (2 ^ t) ≡ 0 = (let le = div-le_self 0 (2 ^ t) in omega arith) in rw none refl

pub only_own : (s t : ℕ) → is_in s 0 t ≡ true → t ≡ s
only_own s t its = let none = has_none_of t in grind (arith, nat_tests)

no_mates : (link : LinkPlan) (senders : List Sender) → mates_have_periods link 0 senders ≡ true
unfolding is_with
no_mates link [] = refl
no_mates link (sender ∷ senders) =
    let none = has_none_of sender.port.sub in
    let rest = no_mates link senders in
    grind arith

pub are_none : (plan : Plan) (link : LinkPlan) (s : ℕ) (senders : List Sender) → AreMates plan link s senders 0
are_none plan link s senders = record { few = omega arith; are = refl; periods = no_mates link senders }

-- a run of a group is one of the sub-VL alone
pub lone_run : (plan : Plan) (senders : List Sender) (accepted : Accepted) (k s mates start : ℕ) (before : ℕ → List Sent)
    (arrivals : ℕ → List Arrival) (later : ℕ → List Sent) (moments : List ℕ) (lines after : Lines)
    → IsGroupRun plan senders accepted k s mates start before arrivals later moments lines after
    → IsGroupRun plan senders accepted k s 0 start before arrivals later moments lines after
lone_run plan senders accepted k s mates start before arrivals later moments lines after run = record {
  link = run.link;
  sub = run.sub;
  allowed = run.allowed;
  starts = run.starts;
  each = λ t lt its. run.each t lt (in_more t its);
  polls = polls_are (λ now mid end p. record { poll = ⊎_elim (λ finds. inl (record { poll = finds.poll; finds = λ t its. finds.finds t (in_more t its) })) (λ drains. inr drains) p.poll; sooner = λ t lt its. absurd (false≢true (sym (has_none_of t) ∙ its)) })
      moments lines after run.polls;
  is_up = run.is_up;
}
  where
    in_more : (t : ℕ) → is_in s 0 t ≡ true → is_in s mates t ≡ true
    in_more t its = let same = only_own s t its in grind (arith, nat_tests)

-- a run of a sub-VL whose polls find its messages is a run of it alone
pub alone_runs : (plan : Plan) (senders : List Sender) (accepted : Accepted) (moments : List ℕ) (lines after : Lines) (k s start : ℕ)
    (before : List Sent) (arrivals : List Arrival) (later : List Sent) → k < length plan.links → s < (link_plan_at plan.links k).sub_vls
    → AreAllowed plan accepted → accepted k s ≡ (before ++ messages_in arrivals) ++ later → IsLater (latest None (stream_at plan k lines)) start
    → seen_of s (stream_at plan k lines) ≡ fragments_of plan k before → KeepPeriods senders start arrivals
    → AreFindingAll plan accepted k s (accepted_by plan k before arrivals) moments lines after
    → any_up (link_plan_at plan.links k).networks after ≡ true
    → IsGroupRun plan senders accepted k s 0 start (λ t. before) (λ t. arrivals) (λ t. later) moments lines after
alone_runs plan senders accepted moments lines after k s start before arrivals later inside lt allowed are last quiet keeps finding stands = record {
  link = inside;
  sub = lt;
  allowed = allowed;
  starts = last;
  each = λ t below its.
      subst (λ (x : ℕ). HasTraffic plan senders accepted k x start before arrivals later (stream_at plan k lines)) (sym (only_own s t its))
      (record { are = are; quiet = quiet; keeps = keeps });
  polls = polls_are (λ now mid end p. alone_found plan accepted k s (is_in s 0) (has_sub 0) (λ t. accepted_by plan k before arrivals) now mid end
      (only_own s) has_none_of p) moments lines after finding;
  is_up = stands;
}

pub traffic_in_run_holds : TrafficInRun
traffic_in_run_holds plan senders accepted moments lines after k s late start wait before earlier own later valid of wait_is is last quiet keeps finding begins stands timely =
    group_in_run_holds plan senders accepted moments lines after k s 0 late start wait (λ t. before) (λ t. earlier ++ own ∷ []) (λ t. later) earlier own [] valid of
    wait_is.0 wait_is.1
    (alone_runs plan senders accepted moments lines after k s start before (earlier ++ own ∷ []) later is.link is.sub is.allowed
    (grind (arith, append_assoc, map-append, is.are)) last quiet keeps finding stands)
    refl begins timely
