-- `of_parts` moves two fields, with what they own.
use Rattle.afdx_handle.proofs.Names.{List, [], ◌∷◌, ◌++◌, refl, Val, WpFn, emp, id⊢, ftrue, fsep, tables, prop, regoal, ‵, raw, ◌⊛◌, ◌$◌, ◌∵◌, !, qed, move, drop, use1, join, split, fsplit, fjoin, suffices, done, whole, sub, agg, stop, fld, no_more, and_then, of_opd, returns, enter, alloc_all, pass_all, free_all, look_at, get, get_in, sets, yes, nothing, proved_at, says, Stays, stay_dropped, walk_of, ends_at, Goes-dropped, D, B, word, box_typed, box_out, box_in, Some}
use Rattle.afdx_handle.proofs.AsBox.{E, FromParts as From}
use Rattle.afdx_handle.specs.contracts.seal.Sealed.{the_row as S}
use Rattle.afdx_handle.specs.contracts.seal.Sealed.of_parts as f
use Rattle.afdx_handle.proofs.seal.Sealed.of_parts.Statement.{statement}
use Rattle.afdx_handle.proofs.seal.Sealed.of_parts.Code as code

abbrev stayed : Stays f.ended.signature.params f.ended.kept
stayed = (stay_dropped From yes, tt)

pub of_parts_spec : {M : Type 1} → statement M
of_parts_spec 𝓤 𝓛 𝓜 𝓡 wired =
    let c = f.clauses 𝓛 𝓜.mem 𝓡.returns in let W = walk_of 𝓛 f.ended stayed c in let 𝓣 = tables 𝓤 𝓛.H 𝓜 𝓡 𝓡.env in
    proved_at 𝓛 f.ended stayed c 𝓜 𝓡 (Goes-dropped 𝓛 0 From yes (λ κs x f. refl), tt)
    f.Key.name code.function (code.unfolded 𝓤 𝓛.H 𝓜 𝓡 wired) (λ y are.
    let parts = y.0.3.0 in let vs = y.0.4.0 in
    let v : D E = record { ptr = parts.ptr; alloc = parts.alloc; value = parts.value } in
    let made : S.Denot = record { ptr = v.ptr; alloc = v.alloc; home = Some v.value } in
    qed 𝓛 ((‵ ftrue ⊛ ‵ (fsep ((B E).own_val v vs) ftrue)) ∷ raw (emp 𝓤) ∷ []) ∵ split ! $ drop ! $ fsplit ! $
    box_out E ! v vs (λ b o hv e ws fa. box_in E ! v b o v.value e refl $ let w = word E hv b o in
    use1 𝓛 (‵ (S.own_val made (w ∷ []))) (id⊢ 𝓤 _) $ move ! (1 ∷ 2 ∷ []) $ drop ! $ drop ! $
    regoal ! (λ (us : List Val). prop (WpFn 𝓤 𝓛.H 𝓣.C 𝓣.Λ code.function (us ++ []) (W.post y))) ws refl $
    enter ! _ _ _ _ _ $ alloc_all ! (λ l. pass_all ! refl (box_typed E hv b o fa, tt) $
    sets ! (of_opd ! (get_in ! (fld ! refl (stop !)) (sub ! 0 refl (whole !)))) refl (tt, tt) $
    sets ! (of_opd ! (get_in ! (fld ! refl (stop !)) (sub ! 1 refl (whole !)))) refl fa $
    sets ! (of_opd ! (get ! refl)) refl (tt, tt) $
    sets ! (agg ! (and_then ! (get ! refl) (and_then ! (get ! refl) (no_more !)))) refl (box_typed E hv b o fa) $
    returns ! (look_at ! 0 refl) $ free_all ! refl $
    suffices ! _ (ends_at 𝓛 f.ended stayed c y w made (tt, tt) (tt, tt)) $ says ! refl $
    nothing ! $ nothing ! $ fjoin ! $ join ! $ nothing ! $ join ! $ done !)))
