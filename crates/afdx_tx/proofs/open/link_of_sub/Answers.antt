use Rattle.afdx_tx.proofs.Names.{arith, ℕ, ◌≡◌, ◌<◌, List, length, get_or, get_or_default, LinkPlan, link_plan_at}
use Rattle.afdx_tx.proofs.PortLink.{none_has, found_at}
use Rattle.afdx_tx.proofs.ClosedEmitter.{lacks_at}
use Rattle.afdx_tx.proofs.open.link_of_sub.Goals as goal

-- the plan of the link that was read
read_at : (links shown : List LinkPlan) (place : ℕ) (past : LinkPlan) → shown ≡ links → place < length links
    → get_or shown place past ≡ link_plan_at links place
read_at links shown place past same within = grind (arith, get_or_default)

pub returns-in_err-place-clause-none : goal.returns-in_err-place-clause-none
returns-in_err-place-clause-none c = rw c.from_residual.ensures (λ place at.
    none_has c.args.config.now.links c.args.vl.0 place (grind arith) at.within at.id)

pub returns-then-sub-links-clause-some : goal.returns-then-sub-links-clause-some
returns-then-sub-links-clause-some c =
    let links = c.args.config.now.links in
    let there = found_at links c.args.vl.0 c.in_ok-place.place (grind arith) in
    grind (arith, read_at)

pub returns-else-sub-links-clause-none : goal.returns-else-sub-links-clause-none
returns-else-sub-links-clause-none c =
    let links = c.args.config.now.links in
    let there = found_at links c.args.vl.0 c.in_ok-place.place (grind arith) in
    grind (arith, read_at, lacks_at)
