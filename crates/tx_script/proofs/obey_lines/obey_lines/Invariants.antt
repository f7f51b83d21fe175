use Rattle.tx_script.proofs.Names.{HaveAsked}
use Rattle.tx_script.proofs.RunLemmas.{IsRunning, IsWithin}
use Rattle.tx_script.proofs.obey_lines.obey_lines.Given as goal

abbrev pub invariant-loop-count : goal.invariant-loop-count
invariant-loop-count g l = record {
  asked : HaveAsked l.count l.bench.ports;
  running : IsRunning l.fn.bench.tx.plan l.initial.bytes l.bytes (g.W.Write.contents l.initial.writer)
      (g.W.Write.contents l.writer) l.bench l.count l.sums;
  within : IsWithin l.sums l.count;
}
