use Rattle.afdx_handle.proofs.Names.{◌≡◌, sym, subst, false, vec_capacity, IsPortOfTx, EndView, the_view}
use Rattle.afdx_handle.proofs.EndPorts.{gives_kept}
use Rattle.afdx_handle.proofs.ports.give_back.Goals as goal

pub invariant_of-it : goal.invariant_of-it
invariant_of-it c =
    let ports = c.push_reserved.new.self in
    gives_kept (the_view c.it.inside) ports.items (vec_capacity ports) c.args.port c.it.invariant
    (subst (λ (it : EndView). it.gathered ≡ false → IsPortOfTx it.tx c.args.port) (sym c.it.view_is) c.requires.own)
    c.push_reserved.ensures.items
