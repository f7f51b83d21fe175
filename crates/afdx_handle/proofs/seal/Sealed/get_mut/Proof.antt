-- `get_mut` lends the content, and the seal follows it.
use Rattle.afdx_handle.proofs.Names.{MutBor, List, [], ◌∷◌, refl, sym, ap, ◌∙◌, Option, IsSome, proved, after, box_owns, full_share, ent, sep, fst∗, never, id⊢, GName, ftrue, fsep, flft, fact, tables, named, Val, vptr, ‵, raw, ◌⊛◌, some, later, at_ret, ◌$◌, ◌∵◌, !, qed, done, move, keep, use1, split, join, fsplit, fsplit3, fjoin, fjoin3, fpack, split3, pick, await, rewrite, suffices, frame, group, sem, whole, sub, look_in, enter, of_opd, addr, load, stop, fld, first, blocks, exec, returns, alloc_all, pass_all, free_all, look_at, get, through, sets, sets_last, env, no, follows, Part, lends_Part, shows, cell_at, part_at, part_of, mem, lone, Ptr, block_ptr, null_ptr, in_a_block, MutRef, mut_vals, mut_Tells, plain, mut_ref_to, nothing, opens, heard, peeks, Stays, walk_of, says, stay_dropped, Goes-spent_ref, ends_at, ghosts, shape, to, Struct}
use mir.Raw.{raw as bare}
use Rattle.afdx_handle.proofs.AsBox.{held_of}
use Rattle.afdx_handle.specs.Sealed.{sealed_owns}
use Rattle.afdx_handle.specs.Held.{with_home}
use Rattle.afdx_handle.specs.declared.handle.Home.{Home}
use Rattle.afdx_handle.specs.contracts.handle.Home.{the_row as R}
use Rattle.afdx_handle.specs.contracts.seal.Sealed.{the_row as S, the_type}
use Rattle.afdx_handle.specs.contracts.seal.Sealed.get_mut as f
use Rattle.afdx_handle.proofs.seal.Sealed.TheLaws.{lowers}
use Rattle.afdx_handle.proofs.seal.Sealed.get_mut.Statement.{statement}
use Rattle.afdx_handle.proofs.seal.Sealed.get_mut.Code as code

abbrev stayed : Stays f.ended.signature.params f.ended.kept
stayed = (stay_dropped (mut_ref_to (0 ∷ []) tt (plain (λ _. S))) no, tt)

pub get_mut_spec : {M : Type 1} → statement M
unfolding part_of
get_mut_spec 𝓤 𝓛 𝓜 𝓡 wired =
    let c = f.clauses 𝓛 𝓜.mem 𝓡.returns in let W = walk_of 𝓛 f.ended stayed c in let 𝓣 = tables 𝓤 𝓛.H 𝓜 𝓡 𝓡.env in
    proved 𝓛 f.ended stayed c 𝓜 𝓡 (Goes-spent_ref 𝓛 1 (0 ∷ []) tt (plain (λ _. S)), tt)
    f.Key.name code.function (code.unfolded 𝓤 𝓛.H 𝓜 𝓡 wired)
    (λ κs. (mut_vals, tt)) (λ κs. (mut_Tells (named 0) κs.0 S, tt)) (λ κs qs bounds a _ are.
    let κ = κs.0 in let q = qs.0 in let rb = a.0.ref_ptr.0 in let ro = a.0.ref_ptr.1 in let γ = a.0.ghost_name in let h = a.0.now in let vs = mut_vals a.0 in
    let tok = ghosts.dealloc_token h.alloc in
    let y : W.Ghost = ((κs, qs, bounds, a, (vs, tt)), tt) in
    qed 𝓛 (((‵ (flft κ q) ⊛ ‵ ftrue) ⊛ ‵ ((MutRef (named 0) κ S).own_val a.0 vs) ⊛ ‵ ftrue) ∷ raw (fact 𝓤 (IsSome h.home)) ∷ []) ∵
    move ! (1 ∷ []) $ heard ! (IsSome h.home) (λ filled. let held = held_of h.home filled in let x = held.0 in
    split ! $ split ! $ move ! (2 ∷ []) $ split ! $ keep ! (0 ∷ 2 ∷ []) $
    enter ! _ _ _ _ _ $ alloc_all ! (λ l. pass_all ! refl ((tt, tt), tt) $
    fsplit3 ! $ move ! (1 ∷ 2 ∷ 3 ∷ []) $ opens ! tt S rb ro (λ us.
    move ! (1 ∷ []) $ peeks ! S _ (shows 𝓛 S) h us (λ is. fsplit ! $ move ! (1 ∷ []) $
    rewrite ! 0 (λ (o : Option Home). ‵ (sealed_owns h.alloc h.ptr o)) held.1 refl $
    in_a_block ! h.ptr (λ p. box_owns tok R p x) (fst∗ 𝓤 (never 𝓤) (sem 𝓛 (tok (bare (lone R.mir)) null_ptr))) (λ b o e.
    let Cell = λ (ws : List Val). cell_at full_share S.mir ws rb ro in
    let Free = tok (bare (lone R.mir)) (block_ptr b o) in let Fields = (Struct (shape the_type)).own_val (to the_type h) us in
    let Rest = fsep Free (fsep Fields (Cell us)) in
    let back : (w : Home) → ent 𝓤 (sep 𝓤 (sem 𝓛 ((mem R).own_at w b o)) (sem 𝓛 Rest)) (sem 𝓛 ((mem S).own_at (with_home h w) rb ro)) =
    λ w. qed 𝓛 (‵ (part_at R full_share w b o) ∷ ‵ Rest ∷ []) ∵ move ! (1 ∷ []) $ fsplit3 ! $ move ! (3 ∷ 0 ∷ []) $ fjoin ! $
    rewrite ! 0 (λ (p : Ptr). ‵ (box_owns tok R p w)) (sym e) refl $ move ! (1 ∷ 0 ∷ []) $ fjoin ! $ move ! (1 ∷ []) $ fjoin ! $
    fpack ! (List Val) (λ ws. fsep (Cell ws) (S.own_val (with_home h w) ws)) us $ done ! in
    let word = lowers.val_is h us is ∙ ap (λ (p : Ptr). lowers.lowered (record h { ptr = p }) ∷ []) e in
    fsplit ! $ rewrite ! 3 (λ (ws : List Val). ‵ (Cell ws)) word refl $
    first ! $ blocks ! $
    sets ! (of_opd ! (load ! (through ! refl (fld ! refl (stop !))) (look_in ! 3 (sub ! 0 refl (whole !))))) refl (tt, tt) $
    sets ! (of_opd ! (get ! refl)) refl (tt, tt) $
    sets_last ! (addr ! (through ! refl (stop !))) refl (tt, tt) $
    exec ! 𝓣.C 𝓣.Λ (env code.Mir.locals l) (after 1 (code.function).body) (at_ret _ (W.post y)) $
    sets ! (of_opd ! (get ! refl)) refl (tt, tt) $
    rewrite ! 3 (λ (ws : List Val). ‵ (Cell ws)) (sym word) refl $
    move ! (1 ∷ 2 ∷ 3 ∷ []) $ fjoin3 ! $ move ! (2 ∷ 3 ∷ 4 ∷ 1 ∷ 0 ∷ []) $ group ! 5 $
    let code' = S.coded.code h in
    use1 𝓛 (later (some (λ (δ : GName). raw (Part 𝓛 S R (with_home h) (named 0) κ q rb ro b o γ (sem 𝓛 Rest) back x δ))))
    (lends_Part 𝓛 S R (with_home h) (named 0) κ q rb ro b o γ (sem 𝓛 Rest) back code' code' x) $ await ! tt $ pick ! (λ δ.
    let lent : MutBor Home = record { ref_ptr = (b, o); ghost_name = δ; now = x } in
    use1 𝓛 (‵ ((MutRef (named 0) κ R).own_val lent (vptr b o ∷ [])) ⊛ ‵ (flft κ q) ⊛ ‵ (follows S R γ δ (with_home h))) (id⊢ 𝓤 _) $ split3 ! $
    returns ! (look_at ! 0 refl) $ free_all ! refl $ keep ! (0 ∷ 1 ∷ 2 ∷ []) $
    suffices ! _ (ends_at 𝓛 f.ended stayed c y (vptr b o) lent (tt, tt) (tt, tt)) $
    nothing ! $ nothing ! $ fjoin ! $ join ! $ nothing ! $ move ! (2 ∷ 0 ∷ []) $ join ! $ join ! $ frame ! $ says ! (sym held.1) $ done !)))))))
