use Rattle.std.proofs.Common.{sym, ◌∙◌}
use Rattle.plan_table.proofs.RuleLemmas.{past_here}
use Rattle.plan_table.proofs.rules.is_packed.Goals as goal

pub returns-then-count_on_sub-ge-SUB_PORTS_LIMIT : goal.returns-then-count_on_sub-ge-SUB_PORTS_LIMIT
returns-then-count_on_sub-ge-SUB_PORTS_LIMIT c = sym (c.loop-k.invariant
    ∙ past_here _ _ _ _ c.loop-k-test.true c.count_on_sub.ensures c.if-count_on_sub-ge-SUB_PORTS_LIMIT.true)
