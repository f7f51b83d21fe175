use Rattle.storm.proofs.Names.{rules, ◌≡◌, ◌∙◌, map, subst, named, sent_all, asked_by, asked_after, AreAtMost}
use Rattle.storm.proofs.Spent.{at_ok, spent}
use Rattle.storm.proofs.run.run_in_scope.Goals as goal

pub returns-in-Ok : goal.returns-in-Ok
returns-in-Ok g c =
    let opened = c.args.opened in
    let n = c.args.load.messages in
    let ports = c.in-Ok.ports.items in
    let started = c.start_workers-started in
    let joined = c.in-Ok.ensures in
    let same = at_ok started.result _ _ (map named ports ≡ map (sent_all n) opened.ports.items)
    (λ workers before after. after ∙ before) started.ensures.sent joined.sent in
    let most = at_ok started.result _ _ (AreAtMost (map asked_by ports) (map (asked_after c.args.load.turns) opened.ports.items))
    (λ workers before after. subst (AreAtMost (map asked_by ports)) before after) started.ensures.asks joined.asks in
    record {
      plan = search rules;
      ended = record {
        spent = spent opened.tx c.poll_while-polls.new.tx n c.args.load.turns opened.ports.items ports
            c.poll_while-polls.ensures.plan c.poll_while-polls.ensures.queues c.requires.ready.fresh c.requires.ready.opened same most;
        within = search rules;
        moment = search rules;
        shown = search rules;
        cells = search rules;
        never_back = search rules;
      };
      watched = search rules;
    }
