use Rattle.afdx_laws.proofs.RunNames.{subst, on_ok_weaker, All-weaker, Plan, Accepted, AreAllowed, IsAllowed, IsQueued, accepted_in}
use Rattle.afdx_laws.proofs.polling.poll_drain.Goals as goal

pub returns-clause-step : goal.returns-clause-step
returns-clause-step g c = on_ok_weaker c.poll.result
    (λ run. record {
      accepted = accepted_in c.args.draining.now.links;
      allowed = λ k s lt slt. All-weaker (IsAllowed c.args.draining.now.plan k s) (IsQueued c.args.draining.now.plan k s) (λ m is. is.queued)
          (accepted_in c.args.draining.now.links k s)
          (subst (λ (p : Plan). AreAllowed p (accepted_in c.args.draining.now.links)) c.poll.ensures.lawful.plan
          (subst (λ (a : Accepted). AreAllowed c.poll.new.self.plan a) c.poll.ensures.lawful.messages c.poll.ensures.lawful.allowed) k s lt slt);
      run = run;
    })
    c.poll.ensures.run
