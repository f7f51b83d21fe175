use Rattle.storm.proofs.Names.{length, ap, sym, ◌∙◌, Plan}
use Rattle.storm.proofs.SameCells.{cells_new, shown_fresh}
use Rattle.storm.proofs.storm_report.open.Goals as goal

pub returns-in-Ok-clause-ready : goal.returns-in-Ok-clause-ready
returns-in-Ok-clause-ready c =
    let opened = c.in-Ok.ensures in
    record {
      first = opened.fresh.moment;
      fresh = opened.ports;
      opened = opened.opened;
      links = opened.monitor ∙ sym (ap (λ (p : Plan). length p.links) opened.fresh.plan);
      shown = shown_fresh _ _ _ opened.fresh opened.new opened.board;
      cells = cells_new _ _ (opened.board ∙ sym opened.monitor) opened.new;
    }
