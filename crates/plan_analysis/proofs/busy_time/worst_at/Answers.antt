use Rattle.plan_analysis.proofs.Names.{ℕ, ◌≤◌, arith, arrived, below_more, later_at, places_at, refl, IsSentIn}
use Rattle.plan_analysis.proofs.Busy.{arrived_within, max_within}
use Rattle.plan_analysis.proofs.Waits.{met_more, sent_more}
use Rattle.plan_analysis.proofs.busy_time.worst_at.Goals as goal

pub at_time-requires-clause-arrived : goal.at_time-requires-clause-arrived
at_time-requires-clause-arrived c = arrived_within c.args.own.now (later_at c.args.flow c.loop-turn.turn) c.args.busy _
    (c.later_by-turn-end.ensures.within c.loop-turn.turn (omega (arith, c.loop-turn-test.true, c.loop-turn.auto.turn-end)))
    c.requires.arrived

pub returns-in_err-worst-clause-none : goal.returns-in_err-worst-clause-none
returns-in_err-worst-clause-none c =
    let time = later_at c.args.flow c.loop-turn.turn in
    let here = c.later_by-turn-end.ensures.within c.loop-turn.turn (omega (arith, c.loop-turn-test.true, c.loop-turn.auto.turn-end)) in
    rw c.from_residual.ensures (time, here, c.in_err-worst.ensures.none)

pub loop-turn-preserved : goal.loop-turn-preserved
loop-turn-preserved c =
    let own = c.args.own.now in
    let rest = c.args.rest.now in
    let round = c.args.round in
    let places : ℕ → ℕ = places_at round own in
    let time = later_at c.args.flow c.loop-turn.turn in
    let here = c.later_by-turn-end.ensures.within c.loop-turn.turn (omega (arith, c.loop-turn-test.true, c.loop-turn.auto.turn-end)) in
    let new = c.in_ok-worst.worst in
    let told = c.in_ok-worst.ensures in
    record {
      short = told.short;
      met = met_more round own rest c.args.busy c.loop-turn.worst.wait time new.wait here told.met c.loop-turn.invariant.met;
      within = max_within places c.args.busy c.loop-turn.worst.places (places time) new.places told.places
          c.loop-turn.invariant.within (time, here, refl);
      longer = omega (arith, told.longer, c.loop-turn.invariant.longer);
      more = omega (arith, told.places, c.loop-turn.invariant.more);
      waits = below_more (λ (k : ℕ). IsSentIn round (arrived own (later_at c.args.flow k)) rest (later_at c.args.flow k) new.wait)
          c.loop-turn.turn (λ k lt. sent_more round (arrived own (later_at c.args.flow k)) rest (later_at c.args.flow k)
          c.loop-turn.worst.wait new.wait told.longer (c.loop-turn.invariant.waits k lt)) told.sent;
      places = below_more (λ (k : ℕ). places (later_at c.args.flow k) ≤ new.places) c.loop-turn.turn
          (λ k lt. let old = c.loop-turn.invariant.places k lt in omega (arith, told.places)) (omega (arith, told.places));
    }

pub returns-clause-waits : goal.returns-clause-waits
returns-clause-waits c = λ turn le. c.loop-turn.invariant.waits turn
    (let below = c.later_by-turn-end.ensures.all turn le in omega (arith, c.loop-turn-test.false, c.loop-turn.auto.turn-end))

pub returns-clause-places : goal.returns-clause-places
returns-clause-places c = λ turn le. c.loop-turn.invariant.places turn
    (let below = c.later_by-turn-end.ensures.all turn le in omega (arith, c.loop-turn-test.false, c.loop-turn.auto.turn-end))
