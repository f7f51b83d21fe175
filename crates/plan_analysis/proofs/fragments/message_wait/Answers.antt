use Rattle.plan_analysis.proofs.Names.{ℕ, ◌+◌, ◌-◌, ◌*◌, ◌≤◌, arith, mul-le, bag_micros}
use Rattle.plan_analysis.proofs.fragments.message_wait.Goals as goal

pub overflow_mul-result-2 : goal.overflow_mul-result-2
overflow_mul-result-2 c =
    let link = c.args.link.now in
    let queued = mul-le (link.capacity - 1) c.args.most 255 342 (omega arith) (omega arith) in
    let before : ℕ = (link.capacity - 1) * c.args.most + c.saturating_sub.result + c.args.own in
    let rounds = mul-le c.args.used before 4 (255 * 342 + 684) (omega arith) (omega arith) in
    let gap : bag_micros link.bag ≤ 128000 = grind arith in
    let wait = mul-le (c.args.used * before) (c.micros.result + c.args.late) (4 * (255 * 342 + 684)) 1128000 (omega arith) (omega arith) in
    omega arith
