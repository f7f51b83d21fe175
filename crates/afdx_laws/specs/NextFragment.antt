-- The distance between two neighbouring fragments of a message, if the sub-VLs of their link take turns.
use Rattle.std.specs.Prelude.{◌≡◌, ◌≢◌, ℕ, ◌+◌, ◌*◌, ◌≤◌, ◌<◌, max, true, false, List, [], ◌∷◌, ◌++◌, length, All}
use Rattle.afdx_plan.specs.Config.{Plan, IsPlan, link_plan_at}
use Rattle.afdx_plan.specs.Plan.{bag_micros}
use Rattle.afdx_plan.specs.declared.link_plan.LinkPlan.{LinkPlan}
use Rattle.afdx_frame.specs.declared.net.Net.{Net}
use Rattle.afdx_frame.specs.Header.{sub_in}
use Rattle.redundant_mux.specs.Lines.{Entry}
use Rattle.afdx_legal.specs.Streams.{link_stream, more_in, TakesTurns, TakeTurnsOn}
use Rattle.afdx_legal.specs.Legal.{Accepted, IsLegalOn}
use Rattle.afdx_plan.specs.Demo.{demo_plan}
use Rattle.afdx_legal.specs.Worked.{turn_entry, in_turn}
use Rattle.afdx_laws.specs.Plans.{id_at}

-- In a stream, an entry with the flag of more fragments, the entries of other sub-VLs that follow, and then the next
-- entry of its own sub-VL.
pub record AreNeighbours (stream : List Entry) (first : Entry) (between : List Entry) (next : Entry) : Type 0 where
  pub before : List Entry
  pub after : List Entry
  pub is : stream ≡ before ++ (first ∷ (between ++ next ∷ after))
  pub more : more_in first.frame ≡ true
  pub others : All (λ (e : Entry). sub_in e.frame ≢ sub_in first.frame) between
  pub its : sub_in next.frame ≡ sub_in first.frame

abbrev pub IsOfOneOf : ℕ → Entry → Type 0
IsOfOneOf subs e = sub_in e.frame < subs

-- The next fragment is one of the next `subs` entries of the link.
abbrev pub NextInARound : Type 0
NextInARound = (subs : ℕ) (stream : List Entry) (first : Entry) (between : List Entry) (next : Entry)
    → TakesTurns stream → All (IsOfOneOf subs) stream → AreNeighbours stream first between next
    → length between + 1 ≤ subs

-- each entry follows the one before it, the first a start, within `most`
abbrev pub FollowWithin : ℕ → ℕ → List Entry → Type 0
FollowWithin most before [] = Unit {0}
FollowWithin most before (e ∷ es) = (e.at ≤ before + most) × FollowWithin most e.at es

-- The next fragment of a message is released within `subs` BAGs and latenesses, if the link releases a frame in each
-- while it waits.
abbrev pub NextInTime : Type 0
NextInTime = (subs gap late : ℕ) (stream : List Entry) (first : Entry) (between : List Entry) (next : Entry)
    → TakesTurns stream → All (IsOfOneOf subs) stream → AreNeighbours stream first between next
    → FollowWithin (gap + late) first.at (between ++ next ∷ []) → next.at ≤ first.at + subs * (gap + late)

-- the longest time between two neighbouring fragments of a message on a link, in microseconds
abbrev pub link_wait : ℕ → LinkPlan → ℕ
link_wait late link = link.sub_vls * (bag_micros link.bag + late)

abbrev pub longest_wait : ℕ → List LinkPlan → ℕ
longest_wait late [] = 0
longest_wait late (link ∷ links) = max (link_wait late link) (longest_wait late links)

-- The bound for a whole plan, on the frames sent to a network.
abbrev pub NextInPlan : Type 0
NextInPlan = (plan : Plan) (accepted : Accepted) (net : Net) (handed : List Entry) (late k : ℕ)
    (first : Entry) (between : List Entry) (next : Entry)
    → IsPlan plan → IsLegalOn plan accepted net handed → TakeTurnsOn plan handed → k < length plan.links
    → AreNeighbours (link_stream (id_at plan k) handed) first between next
    → FollowWithin (bag_micros (link_plan_at plan.links k).bag + late) first.at (between ++ next ∷ [])
    → next.at ≤ first.at + longest_wait late plan.links

abbrev pub one_between : List Entry
one_between = turn_entry 1000 1 false ∷ []

-- Two fragments lie two gaps apart on a link of two sub-VLs, which is the bound. With polls up to 50 microseconds late,
-- the bound of the demonstration's one link is 1,050.
pub record LieTwoGapsApart : Type 0 where
  pub are : AreNeighbours in_turn (turn_entry 0 0 true) one_between (turn_entry 2000 0 false)
  pub round : length one_between + 1 ≡ 2
  pub within : FollowWithin 1000 0 (turn_entry 1000 1 false ∷ turn_entry 2000 0 false ∷ [])
  pub most : 0 + 2 * (1000 + 0) ≡ 2000
  pub number : longest_wait 50 demo_plan.links ≡ 1050
