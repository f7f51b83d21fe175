use Rattle.afdx_handle.proofs.Names.{ℕ, ◌≡◌, sym, subst, Some, position, vec_capacity, rules, EndView, has_id, TakesPort, the_view}
use Rattle.afdx_handle.proofs.EndPorts.{taken}
use Rattle.afdx_handle.proofs.ports.take_at.Goals as goal

pub returns : goal.returns
returns c =
    let it : EndView = the_view c.it.inside in
    let left = c.swap_remove.new.self in
    let port = c.swap_remove.result in
    let here = subst (λ (it : EndView). position (has_id c.args.id) it.ports ≡ Some c.args.at) (sym c.it.view_is) c.requires in
    subst (λ (old : EndView). TakesPort old c.args.id port (record it { ports = left.items; room = vec_capacity left })) c.it.view_is
    (subst (λ (room : ℕ). TakesPort it c.args.id port (record it { ports = left.items; room = room })) (sym c.swap_remove.ensures.capacity)
    (taken it left.items c.args.id c.args.at port c.it.invariant here c.swap_remove.ensures.value c.swap_remove.ensures.items))

-- at half of its limits the search finds this only if it is stated here
pub invariant_of-it : goal.invariant_of-it
invariant_of-it c = search rules
