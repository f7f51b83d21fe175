use Rattle.afdx_tx.proofs.Names.{arith, ◌≡◌, ◌+◌, sym, subst, get_or_default, link_at, ℕ, Option, IsFirstDue}
use Rattle.afdx_tx.proofs.NextDue.{first_of_more}
use Rattle.afdx_tx.proofs.turns.first_due.Goals as goal

pub loop-link-preserved : goal.loop-link-preserved
loop-link-preserved g c =
    let now = c.args.now in let links = c.args.links.now in let lines = c.args.mux.now in let k = c.loop-link.link-index in
    let own = c.next_due.result in
    let is : c.link-item.result ≡ link_at links k = grind (arith, get_or_default) in
    subst (λ (first : Option ℕ). IsFirstDue now links lines (k + 1) first) (sym c.earlier-first.ensures)
    (first_of_more now links lines k c.loop-link.first own c.loop-link.invariant
    (grind arith))
