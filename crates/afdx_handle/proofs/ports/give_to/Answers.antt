use Rattle.afdx_handle.proofs.Names.{◌≡◌, Some, sym, ap, true, rules, ◌∙◌, Home, port_of}
use Rattle.afdx_handle.proofs.ports.give_to.Goals as goal

pub give_back-requires-clause-own : goal.give_back-requires-clause-own
give_back-requires-clause-own c = λ sending.
    let own : c.args.own ≡ true = search rules in
    c.requires.own c.in-Port-replace.taken.port
    (ap (λ (home : Home). port_of (Some home)) (sym c.replace.ensures.value ∙ c.in-Port-replace.is)) own sending
