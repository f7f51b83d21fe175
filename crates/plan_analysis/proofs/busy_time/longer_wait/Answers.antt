use Rattle.plan_analysis.proofs.Names.{◌+◌, ◌-◌, ◌*◌, ◌/◌, arith, inl, inr, cases_lt}
use Rattle.plan_analysis.proofs.Ends.{last_end, part_least}
use Rattle.plan_analysis.proofs.busy_time.longer_wait.Goals as goal

pub returns-then-own-handed_by-clause-sent : goal.returns-then-own-handed_by-clause-sent
returns-then-own-handed_by-clause-sent c =
    let rounds = (c.args.time + c.args.wait) / c.args.round in
    let part = part_least c.args.round (c.args.time + c.args.wait) in (
      c.args.round * rounds,
      last_end c.args.round c.args.own c.args.rest.now rounds
          (omega (arith, c.if-own-handed_by.true, c.handed_by.ensures.fragments)),
      omega arith,
    )

pub returns-clause-met : goal.returns-clause-met
returns-clause-met c = elim (cases_lt c.args.wait (c.in_ok-end.end - c.args.time)) [
  | inl more ↦ inr record {
    some = c.requires.own.0;
    end = c.in_ok-end.end;
    enough = c.in_ok-end.ensures.enough;
    least = c.in_ok-end.ensures.least;
    is = omega (arith, c.max.ensures, c.saturating_sub.ensures);
  }
  | inr less ↦ inl (omega (arith, c.max.ensures, c.saturating_sub.ensures))
]
