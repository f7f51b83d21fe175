use Rattle.afdx_handle.proofs.Names.{◌∙◌, Bool, length, sym, ap, subst, vec_capacity, tx_of, end_view, IsEndSystem, the_view}
use Rattle.afdx_handle.proofs.PollFrames.{poll_keeps}
use Rattle.afdx_handle.proofs.end_system.EndSystem.poll.Goals as goal

pub invariant_of-self-2 : goal.invariant_of-self-2
invariant_of-self-2 c =
    let own = c.self.inside in
    let a = c.count-a_before.result in
    let b = c.count-b_before.result in
    subst (λ (gathered : Bool). IsEndSystem (end_view gathered (tx_of c.poll.new.self) own.ports.items (vec_capacity own.ports) a b own.block))
    (sym c.in-Ok.ensures.stage)
    (poll_keeps (the_view own) (tx_of c.poll.new.self) a b c.args.now c.in-Ok.ensures.told.report c.self.invariant
    (record { told = c.in-Ok.ensures.told.polls; run = c.in-Ok.ensures.run; lawful = c.poll.ensures.lawful })
    c.in-Ok.ensures.told.few
    (c.count-a_before.ensures ∙ ap length c.network.ensures) (c.count-b_before.ensures ∙ ap length c.network-2.ensures))
