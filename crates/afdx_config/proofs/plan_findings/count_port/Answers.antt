use Rattle.afdx_config.proofs.Names.{◌≡◌, arith, rules, unwrap_or, get, sub_cmp}
use Rattle.afdx_config.proofs.plan_findings.count_port.Goals as goal

pub overflow_add-before : goal.overflow_add-before
overflow_add-before c =
    let small = c.requires (c.in-Some-Some.vl, c.in-Some-Some.sub) in
    let before : c.unwrap_or-before.result
    ≡ unwrap_or (get sub_cmp c.args.counts.now (c.in-Some-Some.vl, c.in-Some-Some.sub)) 0 = search rules in
    omega arith
