-- The messages of the accepted lists, and whether all that was accepted was transmitted.
use Rattle.std.specs.Prelude.{ℕ, ◌≡◌, ◌≤◌, ◌<◌, nat_eq, if◌then◌else◌, List, [], ◌∷◌, length, All, Contains, ◌++◌}
use Rattle.afdx_plan.specs.Config.{Plan, link_plan_at, port_plan_at, link_place}
use Rattle.afdx_plan.specs.declared.port_plan.PortPlan.{PortPlan}
use Rattle.afdx_frame.specs.Fragments.{Sent, fragments}
use Rattle.afdx_frame.specs.Frame.{greatest_message}
use Rattle.afdx_legal.specs.Legal.{Accepted, IsLegal}
use Rattle.afdx_plan.specs.Plan.{room_of}
use Rattle.afdx_plan.specs.declared.link_plan.LinkPlan.{LinkPlan}
use Rattle.afdx_frame.specs.declared.net.Net.TheVariants.{A}
use Rattle.redundant_mux.specs.Lines.{Entry}
use Rattle.afdx_legal.specs.Streams.{unnumbered_fragments, AreOwnStreams}

-- A message of a port of the plan, on sub-VL `sub` of link `k`, of a length that any queue takes. A poll knows this of
-- the messages that it takes while the ports may still send.
pub record IsQueued (plan : Plan) (k sub : ℕ) (sent : Sent) : Type 0 where
  pub port : Contains plan.ports sent.port
  pub over : sent.port.vl.0 ≡ (link_plan_at plan.links k).id.0
  pub its : sent.port.sub ≡ sub
  pub some : 1 ≤ length sent.bytes
  pub most : length sent.bytes ≤ greatest_message

abbrev pub AreQueued : Plan → Accepted → Type 0
AreQueued plan accepted = (k s : ℕ) → k < length plan.links → s < (link_plan_at plan.links k).sub_vls
    → All (IsQueued plan k s) (accepted k s)

-- a queued message that is no longer than its port may send
pub record IsAllowed (plan : Plan) (k sub : ℕ) (sent : Sent) : Type 0 where
  pub queued : IsQueued plan k sub sent
  pub most : length sent.bytes ≤ sent.port.max

abbrev pub AreAllowed : Plan → Accepted → Type 0
AreAllowed plan accepted = (k s : ℕ) → k < length plan.links → s < (link_plan_at plan.links k).sub_vls
    → All (IsAllowed plan k s) (accepted k s)

-- the messages of a port in a list, in order
abbrev pub messages_of : PortPlan → List Sent → List (List ℕ)
messages_of port [] = []
messages_of port (sent ∷ more) =
    if nat_eq sent.port.id.0 port.id.0 then sent.bytes ∷ messages_of port more
    else messages_of port more

-- the accepted messages of the port at `place` in the plan
abbrev pub port_messages : Plan → Accepted → ℕ → List (List ℕ)
port_messages plan accepted place = messages_of (port_plan_at plan.ports place)
    (accepted (link_place plan (port_plan_at plan.ports place)) (port_plan_at plan.ports place).sub)

-- each port's accepted messages are its own list
abbrev pub AreOwn : Plan → Accepted → (ℕ → List (List ℕ)) → Type 0
AreOwn plan accepted own = (place : ℕ) → place < length plan.ports → port_messages plan accepted place ≡ own place

-- The accepted messages of a sub-VL are wholly released: their fragments are its stream, but for sequence numbers.
abbrev pub IsReleased : ℕ → LinkPlan → (ℕ → List Sent) → List Entry → ℕ → Type 0
IsReleased end_system link accepted log sub =
    fragments end_system (room_of link.lmax) A (accepted sub) ≡ unnumbered_fragments link.id.0 sub log

-- the stream of a sub-VL lacks fragments of its accepted messages
pub record Owes (end_system : ℕ) (link : LinkPlan) (accepted : ℕ → List Sent)
    (log : List Entry) (sub : ℕ) : Type 0 where
  pub left : List (List ℕ)
  pub some : left ≡ [] → ⊥
  pub ahead : fragments end_system (room_of link.lmax) A (accepted sub)
      ≡ unnumbered_fragments link.id.0 sub log ++ left

-- every accepted message of a link is wholly released
abbrev pub IsLinkDone : ℕ → LinkPlan → (ℕ → List Sent) → List Entry → Type 0
IsLinkDone end_system link accepted log = (s : ℕ) → s < link.sub_vls
    → IsReleased end_system link accepted log s

-- each fragment of each accepted message was accepted by at least one network
abbrev pub IsAllDone : Plan → Accepted → List Entry → Type 0
IsAllDone plan accepted log = (k : ℕ) → k < length plan.links
    → IsLinkDone plan.end_system (link_plan_at plan.links k) (accepted k) log

-- Exactly what the ports of a plan accepted, of each its own list, was transmitted legally and in full: by a log in
-- which each link's stream is the longer of its two.
pub record IsHandedWhole (plan : Plan) (own : ℕ → List (List ℕ)) (a b : List Entry) : Type 0 where
  pub accepted : Accepted
  pub legal : IsLegal plan accepted a b
  pub allowed : AreAllowed plan accepted
  pub are_own : AreOwn plan accepted own
  pub log : List Entry
  pub streams : AreOwnStreams plan log a b
  pub done : IsAllDone plan accepted log
