use Rattle.plan_analysis.proofs.Names.{sender_at}
use Rattle.plan_analysis.proofs.Busy.{same_sub}
use Rattle.plan_analysis.proofs.traffic.bound_of.Goals as goal

pub returns-in-Some : goal.returns-in-Some
returns-in-Some c =
    let of = c.in-Some.ensures in
    same_sub c.args.lateness c.args.config.now c.args.senders.now (sender_at c.args.senders.now of.0) c.args.sender.now c.in-Some.bound _
    of.3 of.4 of.2 (c.requires.known of.0 of.1)
