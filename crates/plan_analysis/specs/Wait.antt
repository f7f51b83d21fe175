-- The longest wait of a message, and the sustained rate of a port, from the plan alone.
use Rattle.std.specs.Prelude.{ℕ, Bool, ◌+◌, ◌-◌, ◌*◌, ◌/◌, ◌&&◌, nat_eq, max, List, [], ◌∷◌, if◌then◌else◌}
use Rattle.std.specs.List.{list_any}
use Rattle.std.specs.Int.{div_ceil}
use Rattle.afdx_plan.specs.Config.{Plan, link_plan_at, link_place}
use Rattle.afdx_plan.specs.Plan.{bag_ms, bag_micros, room_of, step_of}
use Rattle.afdx_plan.specs.declared.link_plan.LinkPlan.{LinkPlan}
use Rattle.afdx_plan.specs.declared.port_plan.PortPlan.{PortPlan}
use Rattle.vl_shaper.specs.Pace.{users_among}

-- The number of fragments of a message (RFC 791, 3.2). A UDP header adds 8 bytes. The last fragment fills up to the
-- room of a frame, each other one whole units of 8 bytes.
abbrev pub pieces_of : ℕ → ℕ → ℕ
pieces_of room size = 1 + div_ceil (8 + size - room) (step_of room)

-- the number of fragments of a port's greatest message on a link
abbrev pub port_pieces : LinkPlan → PortPlan → ℕ
port_pieces link port = pieces_of (room_of link.lmax) port.max

-- the port sends on this sub-VL of the link
abbrev pub is_on : LinkPlan → ℕ → PortPlan → Bool
is_on link sub port = nat_eq port.vl.0 link.id.0 && nat_eq port.sub sub

-- some port sends on this sub-VL of the link
abbrev pub has_port : LinkPlan → List PortPlan → ℕ → Bool
has_port link ports sub = list_any (is_on link sub) ports

-- The number of sub-VLs of a link that have a port. Only these have turns: one without a port never has a message.
abbrev pub used_sub_vls : LinkPlan → List PortPlan → ℕ
used_sub_vls link ports = users_among link.sub_vls (has_port link ports)

-- the number of fragments of a port's greatest message if it sends on this sub-VL of the link, else 0
abbrev pub pieces_on : LinkPlan → ℕ → PortPlan → ℕ
pieces_on link sub port = if is_on link sub port then port_pieces link port else 0

-- the greatest number of fragments of a message on a sub-VL of a link
abbrev pub most_pieces : LinkPlan → ℕ → List PortPlan → ℕ
most_pieces link sub [] = 0
most_pieces link sub (port ∷ ports) = max (pieces_on link sub port) (most_pieces link sub ports)

-- The most fragments that a sub-VL sends before a message that it accepts: all fragments of the other messages that its
-- queue can hold, and all but the first of the message in transmission.
abbrev pub queued_before : LinkPlan → ℕ → ℕ
queued_before link most = (link.capacity - 1) * most + (most - 1)

-- The longest wait of a message of `own` fragments, in microseconds. Each fragment of its sub-VL, queued before it or
-- its own, takes one round of `used` sub-VLs. Each turn of a round takes a BAG and the lateness of a poll.
abbrev pub message_wait : ℕ → LinkPlan → (used most own : ℕ) → ℕ
message_wait late link used most own =
    used * (queued_before link most + own) * (bag_micros link.bag + late)

-- the link of a port
abbrev pub link_of : Plan → PortPlan → LinkPlan
link_of plan port = link_plan_at plan.links (link_place plan port)

-- The longest time from the acceptance of a message of a port to the release of its last fragment, in microseconds.
abbrev pub worst_wait : ℕ → Plan → PortPlan → ℕ
worst_wait late plan port = message_wait late (link_of plan port) (used_sub_vls (link_of plan port) plan.ports)
    (most_pieces (link_of plan port) port.sub plan.ports) (port_pieces (link_of plan port) port)

-- The number of greatest messages of a port that the BAG allows in 1,000 seconds, at one fragment each BAG.
abbrev pub sustained : LinkPlan → PortPlan → ℕ
sustained link port = 1000000 / (bag_ms link.bag * port_pieces link port)
