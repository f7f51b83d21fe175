use Rattle.tx_script.proofs.Names.{arith}
use Rattle.tx_script.proofs.Polling.{released_many, poll_takes, obeys_poll}
use Rattle.tx_script.proofs.Sending.{at_bench}
use Rattle.tx_script.proofs.bench.obey_at.Goals as goal
use Rattle.tx_script.proofs.bench.obey_at.Goals.{in-Ok+then-report+then-report-2, in-Ok+else-report, in-Err}

pub returns-clause-ok : goal.returns-clause-ok
returns-clause-ok c = elim c.match-poll.branch [
  | in-Ok+then-report+then-report-2 w ↦
      let told = w.in-Ok.ensures.told in
      rw w.result-is (at_bench c.bench.view_is (obeys_poll c.bench.inside.emitter c.poll.new.self c.bench.inside.ports.items
      c.args.moment w.len.result (grind arith) w.in-Ok.ensures.run
      w.in-Ok.ensures.lawful.conforms.mirrored (grind arith) (grind arith)
      w.in-Ok.ensures.lawful.plan told.moment c.poll.ensures.lawful.messages.totals
      (grind (arith, released_many)) w.len.ensures.fits))
  | in-Ok+else-report w ↦ rw w.result-is tt
  | in-Err w ↦ rw w.result-is tt
]

pub returns-clause-takes : goal.returns-clause-takes
returns-clause-takes c = poll_takes c.poll.result c.bench.inside.emitter c.poll.new.self c.bench.inside.ports.items
    c.args.moment _ c.bench.view_is c.poll.ensures.unchanged c.poll.ensures.run c.poll.ensures.lawful.plan c.poll.ensures.lawful.messages.totals
