use Rattle.std.proofs.Common.{◌≡◌, Option, Some, sym, ap, arith, ◌∙◌}
use Rattle.std.proofs.lemmas.Bool.{eqb-true}
use Rattle.afdx_handle.specs.declared.handle.Home.{Home}
use Rattle.afdx_handle.specs.Held.{end_of, port_of}
use Rattle.afdx.proofs.opening.afdx_give_back.Goals as goal

pub give_to-requires : goal.give_to-requires
give_to-requires c =
    let some : Home → Option Home = λ home. Some home in
    let here : c.in-EndSystem.inside.value ≡ Some c.in-Some.end_system = grind arith in
    record {
      own = λ own is_own marked sending.
          c.requires.own c.in-Some.end_system own
          (ap end_of (sym c.get_mut.ensures.value ∙ ap some c.in-EndSystem.is) ∙ here)
          (ap port_of (sym c.get_mut-theirs.ensures.value) ∙ is_own)
          (eqb-true c.args.it.now.mark c.args.port.now.mark marked) sending;
    }
