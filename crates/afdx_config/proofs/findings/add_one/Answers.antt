use Rattle.afdx_config.proofs.Names.{refl, rules, ap, map, take, finding_of, ◌∙◌, insert, lines_limit}
use Rattle.afdx_config.proofs.OrderLemmas.{adds_put, adds_past, map_insert}
use Rattle.afdx_config.proofs.findings.add_one.Goals as goal

pub returns-then-index-ge-LINES_LIMIT-clause-kept : goal.returns-then-index-ge-LINES_LIMIT-clause-kept
returns-then-index-ge-LINES_LIMIT-clause-kept c = adds_past _ _ _ _ c.in-Some.ensures.1
    (rw c.as_slice.ensures.value at c.index_of-index.ensures.index) c.if-index-ge-LINES_LIMIT.true refl

pub returns-clause-kept : goal.returns-clause-kept
returns-clause-kept c = adds_put _ _ _ _ c.in-Some.ensures.1
    (rw c.as_slice.ensures.value at c.index_of-index.ensures.index)
    (ap (map finding_of) (c.truncate.ensures.items ∙ ap (take lines_limit) c.in_ok-insert.ensures.items) ∙ map_insert c.args.found.now.first.items _ _
    ∙ ap (λ k. take lines_limit (insert (map finding_of c.args.found.now.first.items) c.index_of-index.result
    record { fault = c.args.fault; place = c.args.place; key = k; other = c.args.other })) (search rules))
