use Rattle.afdx_config.proofs.Names.{[], arith, sym, ◌∙◌, common_steps}
use Rattle.afdx_config.proofs.FirstLemmas.{no_first}
use Rattle.afdx_config.proofs.RuleLemmas.{fine}
use Rattle.afdx_config.proofs.read.read_document.Goals as goal

pub plan_of-requires-clause-valid : goal.plan_of-requires-clause-valid
plan_of-requires-clause-valid c = fine _ _ c.in-Ok.ensures.plan (omega arith) c.in-Ok.ensures.fits
    (no_first _ (sym (c.least_fault.ensures _ (c.in-Ok.ensures.findings [] c.new-found.ensures)) ∙ c.in_default-least_fault.is))

pub returns-in-Some-clause-fault : goal.returns-in-Some-clause-fault
returns-in-Some-clause-fault c = λ other. sym (c.least_fault.ensures _ (c.in-Ok.ensures.findings [] c.new-found.ensures)) ∙ c.in-Some.is

pub returns-clause-no_fault : goal.returns-clause-no_fault
returns-clause-no_fault c =
    let none = no_first _ (sym (c.least_fault.ensures _ (c.in-Ok.ensures.findings [] c.new-found.ensures)) ∙ c.in_default-least_fault.is) in
    grind (arith, common_steps)
