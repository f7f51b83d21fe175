use Rattle.afdx_config.proofs.Names.{◌≡◌, rules, data_of, table_view}
use Rattle.afdx_config.proofs.FirstLemmas.{answer_ok, answer_err}
use Rattle.afdx_config.proofs.read.read_config.Goals as goal

pub returns-in-Ok-of-clause-plan : goal.returns-in-Ok-of-clause-plan
returns-in-Ok-of-clause-plan c =
    let same : data_of c.in-Ok-of.document ≡ table_view c.in-Ok.table = search rules in
    answer_ok _ _ _ (rw (← same) at c.in-Ok.ensures.ok) c.read_document.ensures.no_fault c.read_document.ensures.plan

pub returns-in-Ok-of-clause-fault : goal.returns-in-Ok-of-clause-fault
returns-in-Ok-of-clause-fault c =
    let same : data_of c.in-Ok-of.document ≡ table_view c.in-Ok.table = search rules in
    answer_err _ _ _ (rw (← same) at c.in-Ok.ensures.ok) c.read_document.ensures.fault
