use Rattle.std.proofs.Common.{arith, ap}
use Rattle.afdx_plan.specs.Plan.{carries_a, carries_b}
use Rattle.afdx_frame.specs.declared.net.Net.TheVariants.{B}
use Rattle.redundant_mux.specs.Lines.{Handing, entry, lines_of, side, IsMirrored}
use Rattle.redundant_mux.proofs.MirroredLines.{handed_on}
use Rattle.redundant_mux.proofs.mux.Mux.hand_with.Given
use Rattle.redundant_mux.proofs.mux.Mux.hand_with.Goals as goal

-- The lines after the hand are in step.
left : (g : Given.Over) (c : goal.After-result-1 g)
    → IsMirrored (lines_of (g.A.Network.handed c.hand_to.new.network) (g.B.Network.handed c.hand_with.new.network)
    (g.A.Network.failures c.hand_to.new.network) (g.B.Network.failures c.hand_with.new.network)
    c.hand_to.new.stands c.hand_with.new.stands (g.A.Network.failing c.hand_to.new.network)
    (g.B.Network.failing c.hand_with.new.network) c.note.new.trail.logged)
left g c =
    let handed = entry c.args.at c.args.frame.now.value.items in
    let a : Handing (carries_a c.args.networks) handed c.self.inside.standing.a c.hand_to.new.stands
    (g.A.Network.handed c.self.inside.a) (g.A.Network.handed c.hand_to.new.network)
    (g.A.Network.failures c.self.inside.a) (g.A.Network.failures c.hand_to.new.network) = grind arith in
    let b : Handing (carries_b c.args.networks) (side B handed) c.self.inside.standing.b c.hand_with.new.stands
    (g.B.Network.handed c.self.inside.b) (g.B.Network.handed c.hand_with.new.network)
    (g.B.Network.failures c.self.inside.b) (g.B.Network.failures c.hand_with.new.network) = grind arith in
    handed_on _ _ c.args.networks handed c.self.invariant.mirrored (ap (entry c.args.at) c.requires) a b
    (grind arith) (grind arith)

pub invariant_of-self : goal.invariant_of-self
invariant_of-self g c = record {
  a_unfailed = c.hand_to.ensures.unfailed;
  b_unfailed = c.hand_with.ensures.unfailed;
  mirrored = left g c;
}

pub returns-clause-mirrored : goal.returns-clause-mirrored
returns-clause-mirrored g c = left g c
