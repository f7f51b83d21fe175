-- The lists and texts of an end system, and the buffers to which they are written.
use Rattle.std.specs.Prelude.{ℕ, ◌++◌, List, map, length, drop, ◌≡◌, take}
use Rattle.std.specs.List.{concat, range_with_len}
use Rattle.afdx_plan.specs.declared.link_plan.LinkPlan.{LinkPlan}
use Rattle.afdx_plan.specs.declared.port_plan.PortPlan.{PortPlan}
use Rattle.afdx_frame.specs.declared.net.Net.{Net}
use Rattle.afdx_handle.specs.EndSystem.{EndView, made_for, made_at}
use Rattle.afdx_config.specs.Findings.{PlanFinding}
use Rattle.afdx_config.specs.Explained.{Explains}

-- a list with these elements written over its front
abbrev pub with_front : {X : Type 0} → List X → List X → List X
with_front front old = front ++ drop (length front) old

-- the identifier of a port, and of a link
abbrev pub port_id : PortPlan → ℕ
port_id port = port.id.0

abbrev pub link_id : LinkPlan → ℕ
link_id link = link.id.0

-- the identifiers of the ports, in the order of the plan
abbrev pub port_ids : EndView → List ℕ
port_ids it = map port_id it.tx.plan.ports

-- the identifiers of the links, in the order of the plan
abbrev pub link_ids : EndView → List ℕ
link_ids it = map link_id it.tx.plan.links

-- the first `many` frames that the last poll made for a network
abbrev pub first_made : Net → ℕ → EndView → List (List ℕ)
first_made net many it = map (λ k. made_at net k it) (range_with_len 0 many)

-- all frames that the last poll made for a network
abbrev pub all_made : Net → EndView → List (List ℕ)
all_made net it = first_made net (made_for net it) it

-- the length of each frame
abbrev pub lengths_of : List (List ℕ) → List ℕ
lengths_of frames = map (λ (frame : List ℕ). length frame) frames

-- the total length of frames
abbrev pub bytes_of : List (List ℕ) → ℕ
bytes_of frames = length (concat frames)

-- the explanation of the text has `size` bytes, and as many of them as fit were written over the buffer's front
pub record IsExplainedIn (text old new : List ℕ) (size : ℕ) : Type 0 where
  pub first : List PlanFinding
  pub count : ℕ
  pub told : List ℕ
  pub explains : Explains text first count told
  pub size_is : size ≡ length told
  pub front : new ≡ with_front (take (length old) told) old
