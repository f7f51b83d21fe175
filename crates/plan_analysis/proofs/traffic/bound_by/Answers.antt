use Rattle.plan_analysis.proofs.Names.{◌≡◌, ◌++◌, List, arith, ap, refl, sym, true, ◌∙◌, None, Flow, length, drop, drop_all, drop-append_seam, flows_in, flows_with, take, take-append_seam, take-length}
use Rattle.plan_analysis.proofs.Mates.{alone, alone_flows, first_least, first_over, least_short, next_over, no_mates, nothing_waits, nothing_within, skip_over, same_least, step, sub_need, sub_wait, no_flows, no_sub_wait}
use Rattle.plan_analysis.proofs.traffic.bound_by.Goals as goal
use Rattle.plan_analysis.proofs.traffic.bound_by.Goals.{in-Some, in_default}

pub loop-mates-init : goal.loop-mates-init
loop-mates-init c =
    let plan = c.args.config.now in
    let link = c.args.link.now in
    let senders = c.args.senders.now in
    let own = c.args.own.now in
    let told = c.group_of-alone.ensures in
    let are = alone plan link c.args.sub senders in
    let back = drop_all (length own) own (omega arith) in
    record {
      over = next_over c.args.lateness plan link c.args.sub senders 0 true c.group_of-alone.result.over _ c.round_of.result own are
          c.round_of.ensures.value (c.requires.own ∙ sym (alone_flows link c.args.sub senders)) refl told.over told.within
          (first_over c.args.lateness plan link c.args.sub senders);
      least = rw c.wait-wait.ensures (step c.args.lateness plan link c.args.sub senders 0 None c.group_of-alone.result.peak own own c.round_of.result are
          c.requires.own (take-length own) (back ∙ sym (no_mates link senders)) c.round_of.ensures.value told.wait told.none
          (first_least c.args.lateness plan link c.args.sub senders));
      short = rw c.wait-wait.ensures (least_short None c.group_of-alone.result.peak tt told.short);
    }

pub loop-mates-preserved : goal.loop-mates-preserved
loop-mates-preserved c =
    let late = c.args.lateness in
    let plan = c.args.config.now in
    let link = c.args.link.now in
    let sub = c.args.sub in
    let senders = c.args.senders.now in
    let own = c.args.own.now in
    let mates = c.loop-mates.mates in
    let old = c.loop-mates.invariant in
    elim c.match-flows.branch [
      | in-Some w ↦ (
          let told = w.group_of-group.ensures in
          let of = rw w.in-Some.is at c.in_ok-flows.ensures.are in
          let rest = flows_with link mates senders in
          let flows = w.as_slice.result.now in
          let is : flows ≡ own ++ rest = w.as_slice.ensures.value ∙ of.1 in
          let front : take (length own) flows ≡ own = ap (take (length own)) is ∙ take-append_seam own rest in
          let back : drop (length own) flows ≡ rest = ap (drop (length own)) is ∙ drop-append_seam own rest in
          let held : flows ≡ flows_in link sub senders mates = is ∙ ap (λ (z : List Flow). z ++ rest) c.requires.own in
          record {
            over = rw w.over-is (next_over late plan link sub senders mates c.loop-mates.over w.group_of-group.result.over w.both-over.result
                w.round_of-in-Some.result flows of.0 w.round_of-in-Some.ensures.value held w.both-over.ensures told.over told.within old.over);
            least = rw (w.wait-is, w.least-wait.ensures, w.wait.ensures) (step late plan link sub senders mates c.loop-mates.wait
                w.group_of-group.result.peak own flows w.round_of-in-Some.result of.0 c.requires.own front back w.round_of-in-Some.ensures.value
                told.wait told.none old.least);
            short = rw (w.wait-is, w.least-wait.ensures, w.wait.ensures) (least_short c.loop-mates.wait w.group_of-group.result.peak old.short told.short);
          }
          )
      | in_default w ↦ (
          let never = rw w.in_default.is at c.in_ok-flows.ensures.are in
          record {
            over = rw w.over-is (skip_over late plan link sub senders mates c.loop-mates.over never old.over);
            least = rw w.wait-is (same_least late plan link sub senders mates c.loop-mates.wait never old.least);
            short = rw w.wait-is old.short;
          }
          )
    ]

pub returns-then-is_empty : goal.returns-then-is_empty
returns-then-is_empty c =
    let none = sym c.requires.own ∙ no_flows c.args.own.now (grind (arith, c.if-is_empty.true, c.is_empty.ensures)) in (
      c.requires.periods,
      nothing_within c.args.lateness c.args.config.now c.args.link.now c.args.sub c.args.senders.now none,
      nothing_waits c.args.lateness c.args.config.now c.args.link.now c.args.sub c.args.senders.now none,
    )

pub returns-in-Some-wait : goal.returns-in-Some-wait
returns-in-Some-wait c =
    let told = c.group_of-alone.ensures in
    let wait = sub_wait c.args.lateness c.args.config.now c.args.link.now c.args.sub c.args.senders.now c.loop-mates.mates c.loop-mates.wait
    c.in-Some-wait.wait c.requires.periods c.loop-mates-test.false c.in-Some-wait.is c.loop-mates.invariant.least in (
      wait,
      sub_need c.args.lateness c.args.config.now c.args.link.now c.args.sub c.args.senders.now c.args.own.now c.round_of.result
          c.group_of-alone.result.peak c.places.result c.in-Some-wait.wait c.need_of.result c.requires.own c.round_of.ensures.value told.places told.none
          c.places.ensures c.need_of.ensures wait,
    )

pub returns-in-None-2 : goal.returns-in-None-2
returns-in-None-2 c = (
  c.requires.periods,
  c.loop-mates.invariant.over.some c.if-over.false,
  no_sub_wait c.args.lateness c.args.config.now c.args.link.now c.args.sub c.args.senders.now c.loop-mates.mates c.loop-mates.wait
      c.loop-mates-test.false c.in-None.is c.loop-mates.invariant.least,
)
