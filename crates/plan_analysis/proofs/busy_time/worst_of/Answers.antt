use Rattle.plan_analysis.proofs.Names.{ℕ, ◌*◌, ◌<◌, ◌≤◌, arith, arrived, busy_limit, length, mul-le, places_at, IsSentIn}
use Rattle.plan_analysis.proofs.Busy.{arrived_within, cover_more, places_by_messages, sent_by_messages}
use Rattle.plan_analysis.proofs.Waits.{first_met, no_wait, sent_more}
use Rattle.plan_analysis.proofs.busy_time.worst_of.Goals as goal

pub at_time-requires-clause-arrived : goal.at_time-requires-clause-arrived
at_time-requires-clause-arrived c = arrived_within c.args.own.now 0 (c.args.round * c.args.rounds) _ (omega arith) c.requires.arrived

pub returns-in_err-peak-clause-none : goal.returns-in_err-peak-clause-none
returns-in_err-peak-clause-none c = rw c.from_residual.ensures
    (no_wait c.args.round c.args.own.now c.args.rest.now (c.args.round * c.args.rounds) c.requires.busy
    (0, omega arith, c.in_err-peak.ensures.none))

pub returns-in_err-peak-2-clause-none : goal.returns-in_err-peak-2-clause-none
returns-in_err-peak-2-clause-none c = rw c.from_residual-in_err-peak-2.ensures
    (no_wait c.args.round c.args.own.now c.args.rest.now (c.args.round * c.args.rounds) c.requires.busy
    c.in_err-peak-2.ensures.none)

pub loop-flow-init : goal.loop-flow-init
loop-flow-init c =
    let told = c.in_ok-peak.ensures in
    record {
      short = told.short;
      met = first_met c.args.round c.args.own.now c.args.rest.now (c.args.round * c.args.rounds) c.in_ok-peak.peak.wait
          c.requires.some.0 c.requires.own c.requires.some.1 told.met told.sent;
      within = (0, omega arith, omega (arith, told.places));
      start = told.sent;
      first = omega (arith, told.places);
      waits = λ i d lt. absurd (omega arith);
      places = λ i d lt. absurd (omega arith);
    }

pub loop-flow-preserved : goal.loop-flow-preserved
loop-flow-preserved c =
    let own = c.args.own.now in
    let rest = c.args.rest.now in
    let round = c.args.round in
    let old = c.loop-flow.peak in
    let new = c.in_ok-peak-2.peak in
    let told = c.in_ok-peak-2.ensures in
    let here : c.loop-flow.flow-index < length own = omega (arith, c.loop-flow-test.true, c.loop-flow.auto.flow-index-end) in
    record {
      short = told.short;
      met = told.met;
      within = told.within;
      start = sent_more round (arrived own 0) rest 0 old.wait new.wait told.longer c.loop-flow.invariant.start;
      first = omega (arith, told.more, c.loop-flow.invariant.first);
      waits = cover_more (λ (t : ℕ). IsSentIn round (arrived own t) rest t old.wait) (λ (t : ℕ). IsSentIn round (arrived own t) rest t new.wait)
          own (round * c.args.rounds) c.loop-flow.flow-index _ here
          (λ t. sent_more round (arrived own t) rest t old.wait new.wait told.longer) c.loop-flow.invariant.waits told.waits;
      places = cover_more (λ (t : ℕ). places_at round own t ≤ old.places) (λ (t : ℕ). places_at round own t ≤ new.places)
          own (round * c.args.rounds) c.loop-flow.flow-index _ here (λ t le. omega (arith, told.more)) c.loop-flow.invariant.places told.places;
    }

pub returns-clause-wait : goal.returns-clause-wait
returns-clause-wait c = record {
  busy = c.args.round * c.args.rounds;
  is_busy = c.requires.busy;
  soon = mul-le c.args.round c.args.rounds c.args.round busy_limit (omega arith) c.requires.rounds;
  met = c.loop-flow.invariant.met;
  most = sent_by_messages c.args.round c.args.own.now c.args.rest.now (c.args.round * c.args.rounds) c.loop-flow.peak.wait c.requires.own
      c.loop-flow.invariant.start
      (λ i d lt turn le. c.loop-flow.invariant.waits i d (omega (arith, c.loop-flow-test.false, c.loop-flow.auto.flow-index-end)) turn le);
  short = c.loop-flow.invariant.short;
}

pub returns-clause-places : goal.returns-clause-places
returns-clause-places c = record {
  met = c.loop-flow.invariant.within;
  most = places_by_messages c.args.round c.args.own.now (c.args.round * c.args.rounds) c.loop-flow.peak.places c.requires.own
      c.requires.some.1 c.loop-flow.invariant.first
      (λ i d lt turn le. c.loop-flow.invariant.places i d (omega (arith, c.loop-flow-test.false, c.loop-flow.auto.flow-index-end)) turn le);
}
