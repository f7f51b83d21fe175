use Rattle.tx_script.proofs.Names.{arith}
use Rattle.tx_script.proofs.Closing.{obeys_close, obeys_lack}
use Rattle.tx_script.proofs.Sending.{at_bench}
use Rattle.tx_script.proofs.bench.obey_close.Goals as goal
use Rattle.tx_script.proofs.bench.obey_close.Goals.{in-Ok, in-Err}

pub returns : goal.returns
returns c = elim c.match-close.branch [
  | in-Ok w ↦ grind (arith, at_bench, obeys_close)
  | in-Err w ↦ rw (w.result-is, w.in-Err.ensures.unchanged)
      (at_bench c.bench.view_is (obeys_lack _ c.args.vl c.args.sub (grind arith)))
]
