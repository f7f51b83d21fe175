use Rattle.afdx_laws.proofs.Names.{refl, arith, ◌≤◌, [], entry, NeedsTheGreatest}
use Rattle.afdx_laws.proofs.Credit.{stream_passes_holds}
use Rattle.afdx_laws.proofs.ListLemmas.{other_length}
use Rattle.afdx_laws.proofs.switching.stream_passes.Goals as goal

needs_the_greatest : NeedsTheGreatest
needs_the_greatest = record {
  spaced = omega arith;
  way = omega arith;
  small = record {
    premise = λ small. let fits : 64 ≤ 63 = small 0 (entry 0 []) (omega arith) in omega arith;
    conclusion = other_length refl;
  };
}

pub returns-clause-passes : goal.returns-clause-passes
returns-clause-passes c = stream_passes_holds

pub returns-clause-greatest : goal.returns-clause-greatest
returns-clause-greatest c = needs_the_greatest
