use Rattle.afdx_config.proofs.Names.{[]}
use Rattle.afdx_config.proofs.explaining.explain_document.Goals as goal

pub returns-clause-findings : goal.returns-clause-findings
returns-clause-findings c =
    let kept = (c.in_ok-add_all.ensures.findings [] c.new-found.ensures).keeps in
    rw c.in_ok-document.ensures.same at
    (c.explanation_of.ensures.findings _ (record { first_are = kept.first_are; count_is = kept.count_is }))
