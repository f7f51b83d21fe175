use Rattle.status_board.proofs.Names.{arith, ap, ◌∙◌, cell_view, value_of, zeros, counts_of}
use Rattle.status_board.proofs.Histories.{last_or-push}
use Rattle.status_board.proofs.Steps.{adds_entry}
use Rattle.status_board.proofs.board.Writer.publish.Goals as goal

pub returns-clause-adds : goal.returns-clause-adds
returns-clause-adds g c =
    let adds = adds_entry _ _ _ _ c.swap_as.ensures.rule in
    grind arith

pub returns-clause-value : goal.returns-clause-value
returns-clause-value g c =
    ap value_of (adds_entry _ _ _ _ c.swap_as.ensures.rule) ∙ last_or-push zeros (counts_of (cell_view c.self.inside.pass).history) c.args.counts
