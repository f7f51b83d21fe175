use Rattle.afdx_laws.proofs.RunNames.{refl, subst, on_ok_weaker, Plan, AreQueued, taken_in}
use Rattle.afdx_laws.proofs.KeepReady.{kept_ready}
use Rattle.afdx_laws.proofs.polling.poll_emitter.Goals as goal

pub returns-clause-step : goal.returns-clause-step
returns-clause-step g c = on_ok_weaker c.poll.result
    (λ run. record {
      old = c.args.emitter.now;
      new = c.poll.new.self;
      ready = c.requires.ready;
      of = refl;
      before = refl;
      afterwards = refl;
      run = run;
      allowed = subst (λ (p : Plan). AreQueued p (taken_in c.poll.new.self.links)) c.poll.ensures.lawful.plan c.poll.ensures.lawful.allowed;
    })
    c.poll.ensures.run

pub returns-clause-ready : goal.returns-clause-ready
returns-clause-ready g c = on_ok_weaker c.poll.result
    (λ run. kept_ready.polled c.args.now c.args.emitter.now c.poll.new.self c.requires.ready
    c.poll.ensures.lawful.plan run c.poll.ensures.lawful.allowed)
    c.poll.ensures.run
