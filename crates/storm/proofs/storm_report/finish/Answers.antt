use Rattle.storm.proofs.Names.{◌≡◌, ◌∙◌, List, length, map, ap, subst, arith, sum_by, IsPlan, Plan, LinkPlan, on_both, IsLegal, AreAllowed, accepted_in, Tx, PortView, ◌↔◌, IsTrue, B, side}
use Rattle.storm.proofs.SameCells.{counts_kept}
use Rattle.storm.proofs.Spent.{every_place, sum_spent}
use Rattle.storm.proofs.Whole.{handed_whole}
use Rattle.storm.proofs.storm_report.finish.Goals as goal

pub count_accepted-accepted-requires : goal.count_accepted-accepted-requires
count_accepted-accepted-requires g c =
    let joined = c.args.joined in
    let valid : IsPlan joined.tx.plan = subst IsPlan c.config.ensures c.links.ensures.valid in
    let all = sum_spent joined.tx c.args.load.messages c.args.load.turns joined.ports.items c.requires.joined.spent in
    grind arith

pub gather_all-draining-requires-clause-every : goal.gather_all-draining-requires-clause-every
gather_all-draining-requires-clause-every g c = every_place c.args.joined.tx c.args.load.messages c.args.load.turns c.args.joined.ports.items c.requires.joined.spent

pub returns : goal.returns
returns g c =
    let joined = c.args.joined in
    let drained = c.drain.new.draining in
    let same : c.read_links.new.draining ≡ drained = c.read_links.ensures.draining in
    let end = c.into_networks-a.ensures in
    let a = end.a ∙ ap (λ (t : Tx). t.lines.a) same in
    let b = end.b ∙ ap (λ (t : Tx). t.lines.b) same in
    record {
      whole = handed_whole joined.tx c.gather_all-draining.result drained c.args.load.messages c.args.load.turns joined.ports.items _ _
          c.requires.joined.spent c.gather_all-draining.ensures c.in_ok-drain.ensures.plan c.in_ok-drain.ensures.accepted
          c.in_ok-drain.ensures.done c.in_ok-drain.ensures.streams
          (subst (λ (t : Tx). IsLegal t.plan (accepted_in t.links) t.lines.a t.lines.b) same end.conforms.legal_accepted)
          (subst (λ (t : Tx). AreAllowed t.plan (accepted_in t.links)) same end.allowed) a b;
      accepted = c.count_accepted-accepted.ensures
          ∙ ap (λ (ports : List PortView). sum_by (λ (port : PortView). length port.sender.own) ports) c.as_slice.ensures.value
          ∙ sum_spent joined.tx c.args.load.messages c.args.load.turns joined.ports.items c.requires.joined.spent;
      links = counts_kept joined.tx.plan drained.plan drained.lines.a drained.lines.b _ _ _ c.in_ok-links.ensures.counts
          (c.in_ok-drain.ensures.plan ∙ c.gather_all-draining.ensures.plan) a b;
      never_back = c.requires.joined.never_back;
      equal = subst (λ (links : List LinkPlan). IsTrue c.are_equal-equal.result
          ↔ (on_both links c.into_networks-a.result.1.handed ≡ map (side B) (on_both links c.into_networks-a.result.0.handed)))
          (c.as_slice-2.ensures ∙ c.of-kept.ensures ∙ c.links.ensures.plan ∙ ap (λ (p : Plan). p.links) c.config.ensures)
          c.are_equal-equal.ensures;
    }
