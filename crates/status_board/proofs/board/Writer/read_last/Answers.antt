use Rattle.status_board.proofs.Names.{arith, sym, subst, cell_view, View, StartsWith, Watched, IsReading, FindsEntry}
use Rattle.status_board.proofs.Histories.{starts_both, counts_start}
use Rattle.status_board.proofs.Steps.{reading}
use Rattle.status_board.proofs.board.Writer.read_last.Goals as goal

pub returns-clause-reading : goal.returns-clause-reading
returns-clause-reading g c =
    let after = c.load_as-found in
    let found = subst (λ (v : View). FindsEntry v after.result after.result (cell_view after.new.pass)) c.tell.ensures.hearer.1 after.ensures.rule in
    subst (λ (w : Watched). IsReading c.args.reader.now after.result w) (sym c.compare.ensures.reader)
    (reading _ _ _ _ _ _ _ c.reader.view_is (grind arith) found)

pub returns-clause-whole : goal.returns-clause-whole
returns-clause-whole g c =
    let now = (cell_view c.load_as-found.new.pass).history in
    let heard = counts_start _ _ (subst (λ (v : View). StartsWith now v.heard) c.tell.ensures.hearer.1 c.load_as-found.ensures.rule.told) in
    grind (arith, starts_both)
