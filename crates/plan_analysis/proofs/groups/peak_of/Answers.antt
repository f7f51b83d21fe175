use Rattle.plan_analysis.proofs.Names.{sym}
use Rattle.plan_analysis.proofs.groups.peak_of.Goals as goal

pub returns-clause-none : goal.returns-clause-none
returns-clause-none c = rw (sym c.split_at.ensures.front, sym c.split_at.ensures.back) c.worst_of.ensures.none
