use Rattle.storm.proofs.Names.{List, ◌∙◌, subst, Appends, LinkPlan, totals_of}
use Rattle.storm.proofs.totals.throw_storm.Goals as goal

pub returns-in-Ok-write_totals-clause-ok : goal.returns-in-Ok-write_totals-clause-ok
returns-in-Ok-write_totals-clause-ok g c = record {
  long = c.in-Ok.ensures.short.1;
  report = c.in-Ok.report;
  of = c.in-Ok.ensures.report;
  wrote = subst (λ (links : List LinkPlan). Appends (g.W.Write.contents c.args.writer.now) (g.W.Write.contents c.write_totals.new.writer)
      (totals_of links c.in-Ok.report))
      (c.as_slice.ensures ∙ c.of-links.ensures ∙ c.links.ensures.plan) c.in-Ok-write_totals.ensures;
}
