use Rattle.judge.proofs.Names.{rules, filter_same, stays}
use Rattle.judge.proofs.twins.keep.Goals as goal

pub returns : goal.returns
returns c =
    filter_same _ (stays c.args.nearness.now c.args.tag.now c.args.number) _
    (λ x b q k. search rules) _ _ c.retain.ensures.filtered
