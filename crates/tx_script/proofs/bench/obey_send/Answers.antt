use Rattle.tx_script.proofs.Names.{arith}
use Rattle.tx_script.proofs.Sending.{sent_at, at_bench, obeys_nowhere}
use Rattle.tx_script.proofs.bench.obey_send.Goals as goal

pub invariant_of-bench : goal.invariant_of-bench
invariant_of-bench c = (sent_at _ _ c.args.port _ _ _ _ _ _ _ c.bench.invariant c.config.ensures
    c.port_index.ensures c.in-Some.is c.index_mut.ensures.value c.send_message.ensures).0

pub returns-in-Some : goal.returns-in-Some
returns-in-Some c = at_bench c.bench.view_is (sent_at _ _ c.args.port _ _ _ _ _ _ _ c.bench.invariant c.config.ensures
    c.port_index.ensures c.in-Some.is c.index_mut.ensures.value c.send_message.ensures).1

pub returns-in-None : goal.returns-in-None
returns-in-None c = grind (arith, obeys_nowhere)
