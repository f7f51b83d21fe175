use Rattle.plan_analysis.proofs.Names.{ℕ, ◌≤◌, IfSome}
use Rattle.plan_analysis.proofs.Mates.{AreOver, IsLeast}
use Rattle.plan_analysis.proofs.traffic.bound_by.Given as goal

abbrev pub invariant-loop-mates : goal.invariant-loop-mates
invariant-loop-mates l = record {
  over : AreOver l.lateness l.config l.link l.sub l.senders l.mates l.over;
  least : IsLeast l.lateness l.config l.link l.sub l.senders l.mates l.wait;
  short : IfSome l.wait (λ (w : ℕ). w ≤ 369623040000);
}
