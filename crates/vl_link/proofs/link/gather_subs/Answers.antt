use Rattle.vl_link.proofs.Names.{◌+◌, ◌<◌, length, arith, ◌∙◌, get_or_default, get_or-set_other, length-set, held_at, nothing_held, GathersSub}
use Rattle.vl_link.proofs.Choosing.{each_set}
use Rattle.vl_link.proofs.link.gather_subs.Goals as goal

pub gather-requires : goal.gather-requires
gather-requires c =
    let old = c.loop-sub.invariant in
    let i = c.loop-sub.sub-index in
    record {
      full = rw (
        get_or_default c.loop-sub.subs i c.sub-item.result nothing_held (omega arith),
        old.todo i (omega arith),
      )
          (grind arith);
    }

pub loop-sub-preserved : goal.loop-sub-preserved
loop-sub-preserved c =
    let old = c.loop-sub.invariant in
    let i = c.loop-sub.sub-index in
    let lt : i < length c.loop-sub.subs = omega arith in
    let here = get_or_default c.loop-sub.subs i c.sub-item.result nothing_held lt ∙ old.todo i (omega arith) in
    record {
      count = grind (arith, length-set);
      done = each_set (λ s held. s < i + 1 → GathersSub (held_at c.args.subs.now s) held) c.loop-sub.subs i
          c.gather.new.self
          nothing_held lt (grind arith) (grind arith);
      todo = grind (arith, get_or-set_other);
    }
