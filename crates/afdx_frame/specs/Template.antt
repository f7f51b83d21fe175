-- The headers of a port's frames, made once for all of them, and the buffer of a frame.
use Rattle.std.specs.Prelude.{◌≡◌, ℕ, ◌≤◌, List, ◌++◌, replicate}
use Rattle.afdx_plan.specs.Plan.{IsPort}
use Rattle.afdx_plan.specs.declared.port_plan.PortPlan.{PortPlan}
use Rattle.afdx_plan.specs.Address.{two_bytes}
use Rattle.afdx_frame.specs.declared.net.Net.TheVariants.{A}
use Rattle.afdx_frame.specs.Checksum.{word_sum}
use Rattle.afdx_frame.specs.Frame.{addresses, link_header}

-- the UDP ports of a port (RFC 768)
abbrev pub udp_ports : PortPlan → List ℕ
udp_ports port = two_bytes port.source ++ two_bytes port.destination

-- the origin of a frame: a port of an end system
pub record Origin : Type 0 where
  pub end_system : ℕ
  pub port : PortPlan

-- The headers of a port's frames for network A, up to the UDP ports. Zero are the fields that a frame fills in: the
-- total length, the identification, flags and offset, and the header checksum.
unfoldable pub unfilled : Origin → List ℕ
unfilled of = link_header of.port.vl.0 of.end_system A
    ++ two_bytes 17664
    ++ replicate 6 0
    ++ two_bytes 273
    ++ replicate 2 0
    ++ addresses of.end_system of.port
    ++ udp_ports of.port

-- the invariant of a template
pub record IsTemplate (of : Origin) (headers : List ℕ) (sum : ℕ) : Type 0 where
  pub port_is : IsPort of.port
  pub headers_are : headers ≡ unfilled of
  pub sum_is : sum ≡ word_sum (addresses of.end_system of.port)
  pub most : sum ≤ 400000

-- the frame that was written last
pub record Buffered : Type 0 where
  pub items : List ℕ
