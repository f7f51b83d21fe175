-- The longest wait of a message, and the places that its queue needs, if each port of its sub-VL keeps a period with
-- its jitter.
use Rattle.std.specs.Prelude.{ℕ, Bool, true, false, ◌≡◌, ◌+◌, ◌-◌, ◌*◌, ◌/◌, ◌%◌, ◌^◌, ◌≤◌, ◌<◌, List, [], ◌∷◌, ◌++◌, length, map, filter, sum_by, max, min, not, nat_eq, ◌&&◌, ◌||◌, All, Option, Some, None, IfSome, is_some, unwrap_or, get_or}
use Rattle.std.specs.Int.{div_ceil}
use Rattle.std.specs.List.{list_all}
use Rattle.afdx_plan.specs.Config.{Plan, port_plan_at}
use Rattle.afdx_plan.specs.Plan.{bag_micros, IsPort}
use Rattle.afdx_plan.specs.declared.link_plan.LinkPlan.{LinkPlan}
use Rattle.plan_analysis.specs.declared.traffic.Bound.{Bound}
use Rattle.plan_analysis.specs.declared.traffic.Bound.TheVariants.{NoPeriod, Found, Overloaded, TooLong}
use Rattle.plan_analysis.specs.declared.busy_time.Flow.{Flow}
use Rattle.plan_analysis.specs.declared.traffic.Sender.{Sender}
use Rattle.afdx_plan.specs.declared.port_plan.PortPlan.{PortPlan}
use Rattle.vl_shaper.specs.Pace.{users_among}
use Rattle.plan_analysis.specs.Wait.{is_on, has_port, link_of, port_pieces}

-- The most fragments that ports hand over in the first `t` microseconds, both ends included. Each port hands over a
-- greatest message at the start, late by the jitter. The others are planned a period apart after it, and come on time.
abbrev pub arrived : List Flow → ℕ → ℕ
arrived flows t = sum_by (λ (f : Flow). f.fragments * (1 + (t + f.jitter) / f.period)) flows

-- the most fragments that ports hand over in the first `t` microseconds without their end, if `t` is at least 1
abbrev pub arrived_before : List Flow → ℕ → ℕ
arrived_before flows t = sum_by (λ (f : Flow). f.fragments * div_ceil (t + f.jitter) f.period) flows

-- The longest busy time of a sub-VL that sends a fragment each `round`: the first time at which all that was handed
-- over before it can be sent.
pub record IsBusyTime (round : ℕ) (flows : List Flow) (busy : ℕ) : Type 0 where
  pub some : 1 ≤ busy
  pub is : busy ≡ round * arrived_before flows busy
  pub least : (t : ℕ) → 1 ≤ t → t ≡ round * arrived_before flows t → busy ≤ t

-- A group of sub-VLs sends a fragment each `round`. A message of one of them is accepted during a busy time of the
-- group: its sub-VL had `own` fragments up to it. By this end all is sent that could go before it: these, and what the
-- other sub-VLs of the group hand over by then, the end included.
abbrev pub IsEnough : (round own : ℕ) → (rest : List Flow) → (end : ℕ) → Type 0
IsEnough round own rest end = round * (own + arrived rest end) ≤ end

-- the wait of the message, accepted `at` after the start: up to the least end that is enough
pub record IsWaitAt (round own : ℕ) (rest : List Flow) (at wait : ℕ) : Type 0 where
  pub some : 1 ≤ own
  pub end : ℕ
  pub enough : IsEnough round own rest end
  pub least : (t : ℕ) → IsEnough round own rest t → end ≤ t
  pub is : wait ≡ end - at

-- an end that is enough, within a wait
abbrev pub IsSentIn : (round own : ℕ) → (rest : List Flow) → (at wait : ℕ) → Type 0
IsSentIn round own rest at wait = (end : ℕ) × IsEnough round own rest end × (end ≤ at + wait)

-- No busy time and no wait of more than this many rounds is looked for.
abbrev pub busy_limit : ℕ
busy_limit = 65536

-- no end within this wait is enough
abbrev pub IsLate : (round own : ℕ) → (rest : List Flow) → (at : ℕ) → Type 0
IsLate round own rest at = (end : ℕ) → IsEnough round own rest end → at + round * busy_limit < end

-- the message of some time up to the end of a busy time is late
abbrev pub IsTooLong : (round : ℕ) → (own rest : List Flow) → (busy : ℕ) → Type 0
IsTooLong round own rest busy = (t : ℕ) × (t ≤ busy) × IsLate round (arrived own t) rest t

-- some message up to the end of a busy time has this wait
abbrev pub IsMetBy : (round : ℕ) → (own rest : List Flow) → (busy wait : ℕ) → Type 0
IsMetBy round own rest busy wait = (t : ℕ) × (t ≤ busy) × IsWaitAt round (arrived own t) rest t wait

-- The wait by traffic in a group: the greatest wait, over all times up to the longest busy time of the group.
pub record IsWaitInGroup (round : ℕ) (own rest : List Flow) (wait : ℕ) : Type 0 where
  pub busy : ℕ
  pub is_busy : IsBusyTime round (own ++ rest) busy
  pub soon : busy ≤ round * busy_limit
  pub met : IsMetBy round own rest busy wait
  pub most : (t : ℕ) → t ≤ busy → IsSentIn round (arrived own t) rest t wait
  pub short : wait ≤ round * busy_limit

-- the most messages that ports hand over in the first `t` microseconds, both ends included
abbrev pub messages : List Flow → ℕ → ℕ
messages flows t = sum_by (λ (f : Flow). 1 + (t + f.jitter) / f.period) flows

-- the most fragments of a message
abbrev pub greatest_message : List Flow → ℕ
greatest_message [] = 0
greatest_message (f ∷ flows) = max f.fragments (greatest_message flows)

-- the time of a later message of a flow whose first one is late by the jitter at the start
abbrev pub later_at : Flow → ℕ → ℕ
later_at flow turn = flow.period - flow.jitter + turn * flow.period

-- The most messages that are handed over and not begun when one is, `t` after the start of a busy time, itself among
-- them. Each round that ended before then released a fragment, so at least this many messages are begun.
abbrev pub places_at : ℕ → List Flow → ℕ → ℕ
places_at round flows t = messages flows t - div_ceil ((t - 1) / round) (greatest_message flows)

-- a value at some time up to an end
abbrev pub IsWithin : (value_at : ℕ → ℕ) → (end value : ℕ) → Type 0
IsWithin value_at end value = (t : ℕ) × (t ≤ end) × (value ≡ value_at t)

-- the greatest number of messages not begun (`places_at`), over all times up to an end
pub record IsMostPlaces (round : ℕ) (flows : List Flow) (end places : ℕ) : Type 0 where
  pub met : IsWithin (places_at round flows) end places
  pub most : (t : ℕ) → t ≤ end → places_at round flows t ≤ places

-- the greatest number over all times up to the longest busy time
pub record IsBacklog (round : ℕ) (flows : List Flow) (backlog : ℕ) : Type 0 where
  pub busy : ℕ
  pub is_busy : IsBusyTime round flows busy
  pub is_most : IsMostPlaces round flows busy backlog

-- the backlog, if the sub-VL alone has a wait within the limit
abbrev pub IsKnownBacklog : (round : ℕ) → List Flow → Option ℕ → Type 0
IsKnownBacklog round flows None = (wait : ℕ) → IsWaitInGroup round flows [] wait → ⊥
IsKnownBacklog round flows (Some backlog) = IsBacklog round flows backlog

-- The places that a queue needs for its traffic. Its messages are no more than the backlog, if that is known; and all
-- of them were handed over within the wait of the oldest, as each is begun before its wait is over.
pub record IsNeed (round : ℕ) (flows : List Flow) (wait need : ℕ) : Type 0 where
  pub backlog : Option ℕ
  pub is_backlog : IsKnownBacklog round flows backlog
  pub less : need ≡ min (unwrap_or backlog (messages flows wait)) (messages flows wait)

-- At no time is all that was handed over before it sent.
abbrev pub IsOverloaded : (round : ℕ) → List Flow → Type 0
IsOverloaded round flows = (t : ℕ) → 1 ≤ t → t < round * arrived_before flows t

-- The share of its turns that the traffic of a sub-VL takes for ever, in parts of `whole_share`: the fragments that
-- each port hands over in a round, rounded down.
abbrev pub link_share : ℕ → List Flow → ℕ
link_share round flows = sum_by (λ (f : Flow). f.fragments * round * 2 ^ 64 / f.period) flows

abbrev pub whole_share : ℕ
whole_share = 2 ^ 64

-- true if bit `sub` of the number is set
abbrev pub has_sub : (mates sub : ℕ) → Bool
has_sub mates sub = nat_eq (mates / 2 ^ sub % 2) 1

-- A group of sub-VLs of a link: sub-VL `sub`, and its mates, the sub-VLs whose bits are set in a number. Each mate is
-- another sub-VL that has a port.
abbrev pub is_mate : LinkPlan → List PortPlan → (sub mates k : ℕ) → Bool
is_mate link ports sub mates k = not (has_sub mates k) || (not (nat_eq k sub) && has_port link ports k)

abbrev pub are_mates : LinkPlan → List PortPlan → (sub mates : ℕ) → Bool
are_mates link ports sub mates = is_mate link ports sub mates 0 && is_mate link ports sub mates 1
    && is_mate link ports sub mates 2 && is_mate link ports sub mates 3

-- a sub-VL with a port outside the group
abbrev pub is_outside : LinkPlan → List PortPlan → (sub mates k : ℕ) → Bool
is_outside link ports sub mates k = has_port link ports k && not (nat_eq k sub) && not (has_sub mates k)

-- A round of a group: a BAG and the lateness of a poll for the group, and for each sub-VL with a port outside it.
abbrev pub round_of : ℕ → Plan → LinkPlan → (sub mates : ℕ) → ℕ
round_of late plan link sub mates = (1 + users_among link.sub_vls (is_outside link plan.ports sub mates))
    * (bag_micros link.bag + late)

-- the senders on a sub-VL of a link
abbrev pub senders_on : LinkPlan → ℕ → List Sender → List Sender
senders_on link sub senders = filter (λ (s : Sender). is_on link sub s.port) senders

abbrev pub has_period : Sender → Bool
has_period sender = is_some sender.period

-- the flow of a sender with a period
abbrev pub flow_of : LinkPlan → Sender → Flow
flow_of link sender = record {
  fragments = port_pieces link sender.port;
  period = unwrap_or sender.period 1;
  jitter = sender.jitter;
}

-- each sender on a sub-VL of a link has a period
abbrev pub have_periods : LinkPlan → ℕ → List Sender → Bool
have_periods link sub senders = list_all (λ (s : Sender). not (is_on link sub s.port) || has_period s) senders

-- the flows of the senders on a sub-VL of a link
abbrev pub flows_of : LinkPlan → ℕ → List Sender → List Flow
flows_of link sub senders = map (flow_of link) (senders_on link sub senders)

-- the port sends on a mate
unfoldable pub is_with : LinkPlan → (mates : ℕ) → PortPlan → Bool
is_with link mates port = nat_eq port.vl.0 link.id.0 && has_sub mates port.sub

-- each sender on a mate has a period
abbrev pub mates_have_periods : LinkPlan → ℕ → List Sender → Bool
mates_have_periods link mates senders =
    list_all (λ (s : Sender). not (is_with link mates s.port) || has_period s) senders

-- the flows of the senders on the mates
abbrev pub flows_with : LinkPlan → ℕ → List Sender → List Flow
flows_with link mates senders =
    map (flow_of link) (filter (λ (s : Sender). is_with link mates s.port) senders)

-- the flows of a sub-VL, if each of its senders has a period
abbrev pub AreFlowsOf : LinkPlan → ℕ → List Sender → Option (List Flow) → Type 0
AreFlowsOf link sub senders None = have_periods link sub senders ≡ false
AreFlowsOf link sub senders (Some flows) = (have_periods link sub senders ≡ true)
    × (flows ≡ flows_of link sub senders)

-- the flows of the mates, if each of their senders has a period
abbrev pub AreFlowsWith : LinkPlan → ℕ → List Sender → Option (List Flow) → Type 0
AreFlowsWith link mates senders None = mates_have_periods link mates senders ≡ false
AreFlowsWith link mates senders (Some flows) = (mates_have_periods link mates senders ≡ true)
    × (flows ≡ flows_with link mates senders)

-- a flow with the fragments of a message, a period and a jitter within it
pub record IsFlow (flow : Flow) : Type 0 where
  pub some : 1 ≤ flow.fragments
  pub most : flow.fragments ≤ 342
  pub period : 1 ≤ flow.period
  pub jitter : flow.jitter ≤ flow.period

-- Mates of a sub-VL whose ports all have periods. A number below 16 has the bits of four sub-VLs.
pub record AreMates (plan : Plan) (link : LinkPlan) (sub : ℕ) (senders : List Sender) (mates : ℕ) : Type 0 where
  pub few : mates < 16
  pub are : are_mates link plan.ports sub mates ≡ true
  pub periods : mates_have_periods link mates senders ≡ true

-- the wait by traffic of a message on a sub-VL in a group
abbrev pub IsGroupWait : ℕ → Plan → LinkPlan → ℕ → List Sender → (mates wait : ℕ) → Type 0
IsGroupWait late plan link sub senders mates wait = AreMates plan link sub senders mates
    × IsWaitInGroup (round_of late plan link sub mates) (flows_of link sub senders) (flows_with link mates senders) wait

-- The wait by traffic of a message on a sub-VL of a link, if each of its senders has a period: the least in its groups.
pub record IsSubWait (late : ℕ) (plan : Plan) (link : LinkPlan) (sub : ℕ) (senders : List Sender)
    (wait : ℕ) : Type 0 where
  pub periods : have_periods link sub senders ≡ true
  pub mates : ℕ
  pub met : IsGroupWait late plan link sub senders mates wait
  pub least : (group other : ℕ) → IsGroupWait late plan link sub senders group other → wait ≤ other

-- the lesser of two numbers, or the one that is known
abbrev pub least_of : Option ℕ → Option ℕ → Option ℕ
least_of (Some one) (Some other) = Some (min one other)
least_of (Some one) None = Some one
least_of None other = other

-- the wait by traffic of a message of a sender
abbrev pub IsWaitOf : ℕ → Plan → List Sender → Sender → ℕ → Type 0
IsWaitOf late plan senders sender wait =
    IsSubWait late plan (link_of plan sender.port) sender.port.sub senders wait

-- The places that the queue of a sub-VL of a link needs, if each of its senders has a period. The backlog is that of
-- the sub-VL without mates.
pub record IsSubNeed (late : ℕ) (plan : Plan) (link : LinkPlan) (sub : ℕ) (senders : List Sender)
    (need : ℕ) : Type 0 where
  pub wait : ℕ
  pub is_wait : IsSubWait late plan link sub senders wait
  pub is_need : IsNeed (round_of late plan link sub 0) (flows_of link sub senders) wait need

-- The flows take more than the whole of their turns, and never catch up.
abbrev pub IsOver : ℕ → List Flow → Type 0
IsOver round flows = (whole_share < link_share round flows) × IsOverloaded round flows

-- the flows of a sub-VL and its mates
abbrev pub flows_in : LinkPlan → ℕ → List Sender → (mates : ℕ) → List Flow
flows_in link sub senders mates = flows_of link sub senders ++ flows_with link mates senders

-- the flows `own` of a sub-VL, and then those of its mates, if these make a group
abbrev pub AreFlowsIn : Plan → LinkPlan → ℕ → List Sender → (mates : ℕ) → List Flow → Option (List Flow) → Type 0
AreFlowsIn plan link sub senders mates own None = AreMates plan link sub senders mates → ⊥
AreFlowsIn plan link sub senders mates own (Some flows) = AreMates plan link sub senders mates
    × (flows ≡ own ++ flows_with link mates senders)

-- a group that never catches up
abbrev pub IsGroupOver : ℕ → Plan → LinkPlan → ℕ → List Sender → (mates : ℕ) → Type 0
IsGroupOver late plan link sub senders mates =
    IsOver (round_of late plan link sub mates) (flows_in link sub senders mates)

-- a group that is within its turns
abbrev pub IsGroupWithin : ℕ → Plan → LinkPlan → ℕ → List Sender → (mates : ℕ) → Type 0
IsGroupWithin late plan link sub senders mates = AreMates plan link sub senders mates
    × (link_share (round_of late plan link sub mates) (flows_in link sub senders mates) ≤ whole_share)

-- The bound of a sub-VL of a link: none if one of its senders has no period. It is overloaded exactly if each of its
-- groups is. The bound has no number if no group has a wait within the limit.
abbrev pub IsSubBound : ℕ → Plan → LinkPlan → ℕ → List Sender → Bound → Type 0
IsSubBound late plan link sub senders NoPeriod = have_periods link sub senders ≡ false
IsSubBound late plan link sub senders (Found worst) = IsSubWait late plan link sub senders worst.wait
    × IsSubNeed late plan link sub senders worst.need
IsSubBound late plan link sub senders Overloaded = (have_periods link sub senders ≡ true)
    × ((mates : ℕ) → AreMates plan link sub senders mates → IsGroupOver late plan link sub senders mates)
IsSubBound late plan link sub senders TooLong = (have_periods link sub senders ≡ true)
    × ((mates : ℕ) × IsGroupWithin late plan link sub senders mates)
    × ((mates wait : ℕ) → IsGroupWait late plan link sub senders mates wait → ⊥)

-- the wait by traffic that is known
abbrev pub wait_of : Bound → Option ℕ
wait_of NoPeriod = None
wait_of (Found worst) = Some worst.wait
wait_of Overloaded = None
wait_of TooLong = None

-- the bound of a sender's sub-VL
abbrev pub IsBoundOf : ℕ → Plan → List Sender → Sender → Bound → Type 0
IsBoundOf late plan senders sender bound =
    IsSubBound late plan (link_of plan sender.port) sender.port.sub senders bound

-- a period, if there is one, of at least a microsecond, and a jitter of at most the period
abbrev pub IsGoodPeriod : Sender → Type 0
IsGoodPeriod sender = IfSome sender.period (λ p. (1 ≤ p) × (sender.jitter ≤ p))

-- a valid port with a good period
pub record HasGoodPeriod (sender : Sender) : Type 0 where
  pub port : IsPort sender.port
  pub period : IsGoodPeriod sender

-- a sender for each port of a plan, in order
pub record AreSendersOf (plan : Plan) (senders : List Sender) : Type 0 where
  pub ports : map (λ (s : Sender). s.port) senders ≡ plan.ports
  pub periods : All IsGoodPeriod senders

-- the sender at an index; past the end, one that no plan has
abbrev pub sender_at : List Sender → ℕ → Sender
sender_at senders i = get_or senders i (record { port = port_plan_at [] 0; period = None; jitter = 0 })

-- the bounds of each sender's sub-VL, in order
pub record AreBoundsOf (late : ℕ) (plan : Plan) (senders : List Sender) (bounds : List Bound) : Type 0 where
  pub count : length bounds ≡ length senders
  pub each : (i : ℕ) → i < length senders
      → IsBoundOf late plan senders (sender_at senders i) (get_or bounds i NoPeriod)
