-- The analysis of a plan.
use Rattle.std.specs.Prelude.{ℕ, ◌≡◌, ◌+◌, ◌*◌, List, map, filter}
use Rattle.afdx_frame.specs.declared.net.Net.{Net}
use Rattle.afdx_frame.specs.declared.net.Net.TheVariants.{A, B}
use Rattle.afdx_plan.specs.Config.{Plan}
use Rattle.afdx_plan.specs.Plan.{jitter_of}
use Rattle.afdx_plan.specs.declared.link_plan.LinkPlan.{LinkPlan}
use Rattle.afdx_plan.specs.declared.port_plan.PortPlan.{PortPlan}
use Rattle.plan_analysis.specs.declared.analysis.Analysis.{Analysis}
use Rattle.plan_analysis.specs.declared.analysis.LinkAnalysis.{LinkAnalysis}
use Rattle.plan_analysis.specs.declared.analysis.NetworkRow.{NetworkRow}
use Rattle.plan_analysis.specs.declared.analysis.PortAnalysis.{PortAnalysis}
use Rattle.plan_analysis.specs.Memory.{IsMemoryOf}
use Rattle.plan_analysis.specs.Load.{window_bits, line_bits, bit_rate, share, is_over, carries}
use Rattle.plan_analysis.specs.Wait.{link_of, port_pieces, worst_wait, sustained}

-- the row of a link: its part of the jitter is 80 nanoseconds for each byte of its greatest frame on the wire
abbrev pub link_row : LinkPlan → LinkAnalysis
link_row link = record {
  plan = link;
  load = bit_rate (window_bits link);
  share = share (window_bits link);
  jitter = 80 * (20 + link.lmax);
}

-- the jitter of the links that a network carries
abbrev pub network_jitter : Net → List LinkPlan → ℕ
network_jitter net links = jitter_of (filter (λ (l : LinkPlan). carries net l.networks) links)

-- the row of a network
abbrev pub network_row : Net → List LinkPlan → NetworkRow
network_row net links = record {
  net = net;
  load = bit_rate (line_bits net links);
  share = share (line_bits net links);
  exceeded = is_over (line_bits net links);
  jitter = network_jitter net links;
}

-- the row of a port, if polls come at most `late` microseconds late
abbrev pub port_row : ℕ → Plan → PortPlan → PortAnalysis
port_row late plan port = record {
  id = port.id;
  vl = port.vl;
  sub = port.sub;
  fragments = port_pieces (link_of plan port) port;
  wait = worst_wait late plan port;
  sustained = sustained (link_of plan port) port;
}

-- the analysis of a plan
pub record IsAnalysisOf (plan : Plan) (late : ℕ) (analysis : Analysis) : Type 0 where
  pub end_system : analysis.end_system ≡ plan.end_system
  pub lateness : analysis.lateness ≡ late
  pub links : analysis.links.items ≡ map link_row plan.links
  pub network_a : analysis.network_a ≡ network_row A plan.links
  pub network_b : analysis.network_b ≡ network_row B plan.links
  pub jitter : analysis.jitter ≡ jitter_of plan.links
  pub ports : analysis.ports.items ≡ map (port_row late plan) plan.ports
  pub memory : IsMemoryOf plan analysis.memory
