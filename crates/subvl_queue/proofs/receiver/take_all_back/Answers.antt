use Rattle.subvl_queue.proofs.Names.{arith, rules, append_assoc, append-nil, map-append, map-id, YieldsList-from_vec, YieldsList-turn, YieldsList-end}
use Rattle.subvl_queue.proofs.receiver.take_all_back.Goals as goal

pub loop-sender-init : goal.loop-sender-init
loop-sender-init c = grind (arith, append-nil)

pub take_back-requires : goal.take_back-requires
take_back-requires c =
    let all = YieldsList-from_vec {s = c.into_iter-sender-iterator.result} c.args.senders.items (search rules) (search rules) in
    let t = YieldsList-turn all c.loop-sender.yielded c.loop-sender.sender-iterator c.loop-sender.yielded_by _ c.next.new.self c.in-Some.sender
    c.in-Some.is c.next.ensures.steps in
    grind arith

pub loop-sender-preserved : goal.loop-sender-preserved
loop-sender-preserved c = grind (arith, append_assoc, map-append)

pub returns : goal.returns
returns c =
    let all = YieldsList-from_vec {s = c.into_iter-sender-iterator.result} c.args.senders.items (search rules) (search rules) in
    let t = YieldsList-end all c.loop-sender.yielded c.loop-sender.sender-iterator c.loop-sender.yielded_by _ c.next.new.self c.in-None.is
    c.next.ensures.steps in
    grind (arith, map-id)
