use Rattle.afdx_tx.proofs.Names.{arith, length_push, nothing_held, ports_of_sub, IsOpenedSub}
use Rattle.afdx_tx.proofs.OpenedPorts.{each_push}
use Rattle.afdx_tx.proofs.open.open_link.Goals as goal

pub loop-sub-preserved : goal.loop-sub-preserved
loop-sub-preserved c =
    let old = c.loop-sub.invariant in
    let config = c.args.config.now in
    let plan = c.args.plan.now in
    rw c.in_ok-push.ensures.items record {
      count = grind (arith, length_push);
      each = each_push (λ s sub. IsOpenedSub (record { end_system = config.end_system; link = plan; sub = s })
          (ports_of_sub config.ports plan.id.0 s) 0 sub) c.loop-sub.subs.items c.in_ok-open_sub.field-0 nothing_held
          c.loop-sub.sub old.count old.each (grind arith);
    }
