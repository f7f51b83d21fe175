use Rattle.tx_script.proofs.Names.{arith, err_from_is_err_and}
use Rattle.tx_script.proofs.RunLemmas.{running_turn, within_more, stop_memory, stop_fault}
use Rattle.tx_script.proofs.obey_lines.obey_lines.Goals as goal

pub returns-in_err-said : goal.returns-in_err-said
returns-in_err-said g c =
    let told = err_from_is_err_and c.from_residual.result c.from_residual.ensures.1 in
    rw (told.1, told.2) (stop_fault _ _ c.loop-count.bytes _ _ c.loop-count.bench c.loop-count.count c.loop-count.sums
    c.loop-count.invariant.running c.next_said.new.bytes _ (omega arith) c.in_err-said.ensures)

pub returns-in_err-outcome : goal.returns-in_err-outcome
returns-in_err-outcome g c =
    grind (
      arith,
      err_from_is_err_and c.from_residual-in_err-outcome.result c.from_residual-in_err-outcome.ensures.1,
      stop_memory _ _ c.loop-count.bytes _ _ c.loop-count.bench c.loop-count.count c.loop-count.sums c.loop-count.invariant.running c.obey.new.bench c.in_err-outcome.ensures.halted,
    )

pub loop-count-preserved : goal.loop-count-preserved
loop-count-preserved g c =
    let reads = rw c.in-Some.is at c.in_ok-said.ensures in
    rw c.count-sums.ensures (record {
      asked = c.in_ok-outcome.ensures.ok.asked c.loop-count.count c.loop-count.invariant.asked;
      running =
          running_turn _ _ c.loop-count.bytes _ _ _ c.loop-count.count c.loop-count.sums c.loop-count.invariant.running
          c.next_said.new.bytes _ c.obey.new.bench c.in-Some.said c.in_ok-outcome.outcome
          reads c.in_ok-outcome.ensures.ok c.in_ok-write_note.ensures.ok;
      within = within_more _ _ _ c.in_ok-outcome.ensures.ok.few c.loop-count.invariant.within;
    })
