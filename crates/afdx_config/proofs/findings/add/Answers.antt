use Rattle.afdx_config.proofs.Names.{refl}
use Rattle.afdx_config.proofs.OnceLemmas.{adds_none, adds_told}
use Rattle.afdx_config.proofs.findings.add.Goals as goal

pub returns-then-found-is_newer : goal.returns-then-found-is_newer
returns-then-found-is_newer c = adds_none _ _ _ (rw c.is_newer-is_newer.ensures at c.if-found-is_newer.true) refl

pub returns : goal.returns
returns c = adds_told c.args.found.now c.add_one.new.found _ _
    (rw c.is_newer-is_newer.ensures at c.if-found-is_newer.false)
    c.in_ok-add_one.ensures.kept refl refl (rw (c.add_one.ensures.newer, c.is_newer-is_newer.ensures) refl)
