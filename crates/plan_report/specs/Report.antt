-- The report of `check` on a plan.
use Rattle.std.specs.Prelude.{codes, ℕ, List, [], ◌∷◌, ◌++◌, Option, Some, None, nat_lt, if◌then◌else◌, flat_map, decimal}
use Rattle.std.specs.Net.Text.{ipv4_text}
use Rattle.afdx_plan.specs.Config.{Plan}
use Rattle.afdx_plan.specs.Plan.{bag_ms, jitter_of}
use Rattle.afdx_plan.specs.declared.port_plan.Kind.{Kind}
use Rattle.afdx_plan.specs.declared.port_plan.Kind.TheVariants.{Sampling, Queuing}
use Rattle.afdx_plan.specs.declared.port_plan.UdpSum.{UdpSum}
use Rattle.afdx_plan.specs.declared.port_plan.UdpSum.TheVariants.{Omitted, Generated}
use Rattle.afdx_plan.specs.declared.link_plan.LinkPlan.{LinkPlan}
use Rattle.afdx_plan.specs.declared.link_plan.Networks.{Networks}
use Rattle.afdx_plan.specs.declared.link_plan.Networks.TheVariants.{Both, OnlyA, OnlyB}
use Rattle.afdx_plan.specs.declared.port_plan.PortPlan.{PortPlan}
use Rattle.plan_analysis.specs.declared.analysis.TheConstants.{JITTER_LIMIT}

-- the line of the end system
unfoldable pub end_system_line : ℕ → List ℕ
end_system_line id = codes "end system " ++ decimal id ++ 10 ∷ []

-- a virtual link's gap and greatest frame
unfoldable pub pace_text : LinkPlan → List ℕ
pace_text link = codes "link " ++ decimal link.id.0 ++ codes ": bag " ++ decimal (bag_ms link.bag)
    ++ codes " ms, lmax " ++ decimal link.lmax

-- a virtual link's queues
unfoldable pub queues_text : LinkPlan → List ℕ
queues_text link = codes ", sub-VLs " ++ decimal link.sub_vls ++ codes ", capacity "
    ++ decimal link.capacity

-- the network of a virtual link; empty if it is on both
abbrev pub networks_text : Networks → List ℕ
networks_text Both = []
networks_text OnlyA = codes ", network A"
networks_text OnlyB = codes ", network B"

-- the line of a virtual link
unfoldable pub link_line : LinkPlan → List ℕ
link_line link = pace_text link ++ queues_text link ++ networks_text link.networks ++ 10 ∷ []

-- the kind of a port
abbrev pub kind_name : Kind → List ℕ
kind_name Sampling = codes "sampling"
kind_name Queuing = codes "queuing"

-- a port's destination: its unicast address, or the word `multicast`
unfoldable pub destination_text : Option (List ℕ) → List ℕ
destination_text None = codes "multicast"
destination_text (Some address) = ipv4_text address

-- a port's link, sub-VL and partition
unfoldable pub way_text : PortPlan → List ℕ
way_text port = codes "port " ++ decimal port.id.0 ++ codes ": link " ++ decimal port.vl.0
    ++ codes " sub " ++ decimal port.sub ++ codes ", partition " ++ decimal port.partition

-- a port's kind, UDP ports and greatest message
unfoldable pub flow_text : PortPlan → List ℕ
flow_text port = codes ", " ++ kind_name port.kind ++ codes ", " ++ decimal port.source
    ++ codes " to " ++ decimal port.destination ++ codes ", max " ++ decimal port.max

-- the checksum of a port's datagrams; empty if they carry none
abbrev pub checksum_text : UdpSum → List ℕ
checksum_text Omitted = []
checksum_text Generated = codes ", checksum udp"

-- the line of a port
unfoldable pub port_line : PortPlan → List ℕ
port_line port = way_text port ++ flow_text port ++ codes ", " ++ destination_text port.unicast
    ++ checksum_text port.checksum ++ 10 ∷ []

-- the jitter in nanoseconds, some words, its limit, and whether it is exceeded
unfoldable pub jitter_line : List ℕ → ℕ → List ℕ
jitter_line words jitter = codes "jitter " ++ decimal jitter ++ words ++ decimal JITTER_LIMIT
    ++ (if nat_lt JITTER_LIMIT jitter then codes ", exceeded" ++ 10 ∷ [] else 10 ∷ [])

-- the whole report
unfoldable pub report_of : Plan → List ℕ
report_of plan = end_system_line plan.end_system ++ flat_map link_line plan.links
    ++ flat_map port_line plan.ports ++ jitter_line (codes " ns, limit ") (jitter_of plan.links)
