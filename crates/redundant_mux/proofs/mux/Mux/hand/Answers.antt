use Rattle.std.proofs.Common.{arith, ap}
use Rattle.redundant_mux.specs.Lines.{entry, lines_of, IsMirrored}
use Rattle.redundant_mux.proofs.MirroredLines.{handed_on}
use Rattle.redundant_mux.proofs.mux.Mux.hand.Given
use Rattle.redundant_mux.proofs.mux.Mux.hand.Goals as goal

-- The lines after the hand are in step.
left : (g : Given.Over) (c : goal.After-result-1 g)
    → IsMirrored (lines_of (g.A.Network.handed c.hand_to.new.network) (g.B.Network.handed c.hand_to-2.new.network)
    (g.A.Network.failures c.hand_to.new.network) (g.B.Network.failures c.hand_to-2.new.network)
    c.hand_to.new.stands c.hand_to-2.new.stands (g.A.Network.failing c.hand_to.new.network)
    (g.B.Network.failing c.hand_to-2.new.network) c.note.new.trail.logged)
left g c =
    let for_a = ap (entry c.args.at) c.requires in
    let a = rw (c.carries_a-named_a.ensures, c.deref-2.ensures.0) at c.hand_to.ensures.handing in
    let b = rw (c.carries_b-named_b.ensures, c.as_slice.ensures.value, c.turn.ensures, c.fill.ensures, c.deref-3.ensures.0) at c.hand_to-2.ensures.handing in
    handed_on _ _ c.args.networks (entry c.args.at c.args.frame.now.items) c.self.invariant.mirrored for_a a b
    (grind arith) (grind arith)

pub invariant_of-self : goal.invariant_of-self
invariant_of-self g c = record {
  a_unfailed = c.hand_to.ensures.unfailed;
  b_unfailed = c.hand_to-2.ensures.unfailed;
  mirrored = left g c;
}

pub returns-clause-mirrored : goal.returns-clause-mirrored
returns-clause-mirrored g c = left g c
