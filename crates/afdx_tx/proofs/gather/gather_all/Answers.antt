use Rattle.afdx_tx.proofs.Names.{◌+◌, ◌<◌, length, arith, ◌∙◌, get_or_default, get_or-set_other, length-set, link_at, no_link, GathersLink, each_set}
use Rattle.afdx_tx.proofs.gather.gather_all.Goals as goal

pub gather-requires : goal.gather-requires
gather-requires c =
    let old = c.loop-link.invariant in
    let i = c.loop-link.link-index in
    record {
      full = rw (get_or_default c.loop-link.links i c.link-item.result no_link (omega arith), old.todo i (omega arith))
          (grind arith);
    }

pub loop-link-preserved : goal.loop-link-preserved
loop-link-preserved c =
    let old = c.loop-link.invariant in
    let i = c.loop-link.link-index in
    let lt : i < length c.loop-link.links = omega arith in
    let here = get_or_default c.loop-link.links i c.link-item.result no_link lt ∙ old.todo i (omega arith) in
    record {
      count = grind (arith, length-set);
      done = each_set (λ k link. k < i + 1 → GathersLink (link_at c.args.links.now k) link) c.loop-link.links i
          c.gather.new.self
          no_link lt (grind arith) (grind arith);
      todo = grind (arith, get_or-set_other);
    }
