use Rattle.afdx_handle.proofs.Names.{◌≡◌, sym, subst, ◌∙◌, true, false, arith, log, accepted_in, Stage, tx_of, IsAllSent}
use Rattle.afdx_legal.specs.Accepted.{IsAllDone}
use Rattle.afdx_handle.proofs.end_system.EndSystem.is_done.Goals as goal

pub returns-else-is_done-clause-done : goal.returns-else-is_done-clause-done
returns-else-is_done-clause-done c = λ fine. (
  (λ one. absurd (omega (arith, one))),
  (λ all.
      let sent : IsAllDone c.in-Draining.draining.plan (accepted_in c.in-Draining.draining.links) (log c.in-Draining.draining.lines) =
      subst (λ (stage : Stage). IsAllDone (tx_of stage).plan (accepted_in (tx_of stage).links) (log (tx_of stage).lines)) c.in-Draining.is
      (subst IsAllSent (sym c.self.view_is) all) in
      absurd (let no : false ≡ true = sym c.if-is_done.false ∙ c.is_done.ensures.done.1 sent in cc)),
)
