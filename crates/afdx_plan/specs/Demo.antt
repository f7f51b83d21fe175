-- The demonstration plan: one end system with one link and one port.
use Rattle.std.specs.Prelude.{[], ◌∷◌, None}
use Rattle.afdx_plan.specs.declared.link_plan.Bag.TheVariants.{Ms1}
use Rattle.afdx_plan.specs.declared.port_plan.Kind.TheVariants.{Queuing}
use Rattle.afdx_plan.specs.declared.port_plan.UdpSum.TheVariants.{Omitted}
use Rattle.afdx_plan.specs.declared.link_plan.LinkPlan.{LinkPlan}
use Rattle.afdx_plan.specs.declared.link_plan.Networks.TheVariants.{Both}
use Rattle.afdx_plan.specs.declared.port_plan.PortPlan.{PortPlan}
use Rattle.afdx_plan.specs.Config.{Plan}

-- link 1 sends at most one frame per millisecond, on both networks; its one queue holds two messages
abbrev pub demo_link : LinkPlan
demo_link = record {
  id = record { 0 = 1 };
  bag = Ms1;
  lmax = 1518;
  sub_vls = 1;
  capacity = 2;
  networks = Both;
}

-- port 10 of partition 1 sends messages of up to 8,192 bytes on link 1, to its multicast address and
-- without a UDP checksum
abbrev pub demo_port : PortPlan
demo_port = record {
  id = record { 0 = 10 };
  vl = record { 0 = 1 };
  sub = 0;
  partition = 1;
  kind = Queuing;
  source = 1000;
  destination = 2000;
  max = 8192;
  unicast = None;
  checksum = Omitted;
}

-- end system 1 with the demonstration's link and port
abbrev pub demo_plan : Plan
demo_plan = record {
  end_system = 1;
  links = demo_link ∷ [];
  ports = demo_port ∷ [];
}
