use Rattle.afdx_tx.proofs.Names.{List, AllWaitUntil, IsPolling, Release}
use Rattle.afdx_tx.proofs.turns.serve_all.Given as goal

abbrev pub invariant-loop-link : goal.invariant-loop-link
invariant-loop-link g l = record {
  released : List Release;
  noted : g.N.Notes.noted l.notes released;
  polls : IsPolling l.fn.now l.link-index l.fn.links l.links l.fn.mux l.mux released;
  wait : AllWaitUntil l.first l.links l.link-index;
}
