use Rattle.afdx_laws.proofs.RunNames.{subst, sym, Plan, PortView, AreQueued, FindsSent, taken_in}
use Rattle.afdx_laws.proofs.HeardRun.{sent_and_polled}
use Rattle.afdx_laws.proofs.polling.finds_sent.Goals as goal

pub returns-clause-found : goal.returns-clause-found
returns-clause-found g c =
    let poll = c.poll.ensures in
    let sent = c.send_slice.new.self in
    let allowed = subst (λ (p : Plan). AreQueued p (taken_in c.poll.new.self.links)) poll.lawful.plan poll.lawful.allowed in
    subst (λ (port : PortView). FindsSent c.args.now c.args.emitter.now c.args.port.now c.args.bytes.now port c.poll.new.self) (sym c.hear.ensures.port)
    (sent_and_polled c.poll.result c.args.now c.args.emitter.now c.hear.new.self c.poll.new.self c.args.port.now sent c.args.bytes.now c.requires.valid
    c.requires.ready c.requires.opened c.in_ok-send_slice.ensures.accepted c.hear.ensures.emitter c.hear.ensures.counts poll.both_down.0 poll.unchanged poll.run allowed)
