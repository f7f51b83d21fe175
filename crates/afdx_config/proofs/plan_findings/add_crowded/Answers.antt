use Rattle.afdx_config.proofs.Names.{Limit, codes, arith, crowd_finding, get_or, unwrap_or, refl, get, sub_cmp}
use Rattle.afdx_config.proofs.AddLemmas.{row_more}
use Rattle.afdx_config.proofs.SharingLemmas.{count_more, count_small, crowd_is}
use Rattle.afdx_config.proofs.plan_findings.add_crowded.Goals as goal

pub count_port-requires : goal.count_port-requires
count_port-requires c = count_small c.args.ports.now c.loop-i.i (λ q. unwrap_or (get sub_cmp c.loop-i.counts q) 0) (omega arith) c.loop-i.invariant.counts

pub loop-i-preserved : goal.loop-i-preserved
loop-i-preserved c = record {
  findings = row_more (crowd_finding Limit (codes "sub") c.args.ports.now) c.loop-i.i c.args.ports.now _ _ _ _ _ c.loop-i-test.true refl
      c.loop-i.invariant.findings
      (rw (crowd_is c.args.ports.now c.loop-i.i _ (get_or c.args.ports.now c.loop-i.i _) (λ q. unwrap_or (get sub_cmp c.loop-i.counts q) 0)
      c.loop-i.invariant.counts c.in_ok-before.ensures.before) at c.in_ok-add_if.ensures);
  counts = count_more c.args.ports.now c.loop-i.i _ _ (λ q. unwrap_or (get sub_cmp c.loop-i.counts q) 0)
      (λ q. unwrap_or (get sub_cmp c.count_port.new.counts q) 0) c.loop-i-test.true refl c.loop-i.invariant.counts
      c.in_ok-before.ensures.after;
}
