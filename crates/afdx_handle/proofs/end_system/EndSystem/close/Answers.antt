use Rattle.afdx_handle.proofs.Names.{◌≡◌, subst, false, rules, vec_capacity, EndView, end_view, ◌↔◌, ClosesEnd}
use Rattle.afdx_tx.specs.Calls.{LacksSub}
use Rattle.afdx_handle.proofs.end_system.EndSystem.close.Goals.{in-Ok, in-Err, Joined-close}
use Rattle.afdx_handle.proofs.end_system.EndSystem.close.Goals as goal

-- The end system before the call, in its known stage.
sends : (c : Joined-close) → end_view false c.in-Sending.emitter c.self.inside.ports.items
    (vec_capacity c.self.inside.ports) c.self.inside.a_before c.self.inside.b_before c.self.inside.block ≡ c.args.self.now
sends c = cc

pub returns-clause-no_sub : goal.returns-clause-no_sub
returns-clause-no_sub c =
    subst (λ (it : EndView). (c.match-close.result ≡ 37) ↔ ((it.gathered ≡ false) × LacksSub it.tx.plan c.args.vl c.args.sub)) (sends c)
    (elim c.match-close.branch [
      | in-Ok w ↦ search rules
      | in-Err w ↦ search rules
    ])

pub returns-clause-closed : goal.returns-clause-closed
returns-clause-closed c =
    subst (λ (it : EndView). c.match-close.result ≡ 0 → ClosesEnd it c.args.vl c.args.sub c.match-close.total
    (end_view false c.close.new.self c.self.inside.ports.items
    (vec_capacity c.self.inside.ports) c.self.inside.a_before c.self.inside.b_before c.self.inside.block)) (sends c)
    (elim c.match-close.branch [
      | in-Ok w ↦ search rules
      | in-Err w ↦ search rules
    ])
