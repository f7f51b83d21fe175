use Rattle.afdx_tx.proofs.Names.{All, OnlyTakeBack, IsTakenBack}
use Rattle.afdx_tx.proofs.gather.take_back_all.Given as goal

abbrev pub invariant-loop-port : goal.invariant-loop-port
invariant-loop-port l = record {
  same : OnlyTakeBack l.fn.links l.links;
  back : All (IsTakenBack l.config l.links) l.yielded;
}
