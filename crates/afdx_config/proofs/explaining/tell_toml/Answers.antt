use Rattle.afdx_config.proofs.Names.{[], ◌∷◌}
use Rattle.afdx_config.specs.Explained.{stop_finding}
use Rattle.afdx_config.proofs.explaining.tell_toml.Goals as goal

pub returns-clause-findings : goal.returns-clause-findings
unfolding stop_finding
returns-clause-findings c =
    let kept = (c.in_ok-add.ensures [] c.new-found.ensures).keeps in
    c.explanation_of.ensures.findings (stop_finding c.args.before.now c.args.message.now ∷ [])
    (record { first_are = rw (c.line_of.ensures, c.column_of.ensures) at kept.first_are; count_is = kept.count_is })
