-- `take` hands out the content, and what is left owns nothing.
use Rattle.afdx_handle.proofs.Names.{◌≡◌, List, [], ◌∷◌, refl, sym, ap, subst, ◌∙◌, Option, None, Some, IsSome, says_two, proved, after, full_share, emp, id⊢, fat, ftrue, fsep, flft, ◌⊑◌, fact, fact_i, tables, T, named, Val, vptr, has_ty, WT, Item, ‵, raw, ◌⊛◌, some, later, at_ret, ◌$◌, ◌∵◌, !, qed, done, move, keep, drop, use0, use1, split, join, fsplit3, fjoin, fpack, feq_i, split3, pick, await, rewrite, suffices, frame, group, whole, sub, look_in, enter, of_opd, load, stop, fld, first, blocks, exec, returns, and_then, no_more, lft_new, lft_end, alloc_all, pass_all, free_all, look_at, get, through, sets, lands_last, env, cell_at, Valss, Ptr, block_ptr, ptr_val, MutRef, mut_vals, mut_Tells, plain, nothing, opens, closes, heard, only, copy, fields, shape, to, within, glues, calls_at_last, triple_of, framed, Stays, walk_of, stay_ref, Goes-ref, ends_at, D, B, word, handle, box_ty, box_typed, box_out, box_in}
use Rattle.std_alloc.specs.contracts.boxed.Box.from_raw as g
use Rattle.std_alloc.proofs.boxed.Box.from_raw.Met.{met}
use Rattle.std_heap.specs.contracts.Global as Heap
use Rattle.std_heap.proofs.Global.TheLaws as heap
use Rattle.std_heap.proofs.GlobalAllocator.TheImpl.Met as allocates
use Rattle.afdx_handle.specs.declared.handle.Home.{Home}
use Rattle.afdx_handle.proofs.handle.Home.TheLaws as home
use Rattle.afdx_handle.specs.contracts.seal.Sealed.{the_row as S, the_type}
use Rattle.afdx_handle.proofs.seal.Sealed.TheLaws.{mir as laid}
use Rattle.afdx_handle.specs.contracts.seal.Sealed.take as f
use Rattle.afdx_handle.proofs.AsBox.{E, held_of}
use Rattle.afdx_handle.proofs.seal.Sealed.take.Statement.{statement}
use Rattle.afdx_handle.proofs.seal.Sealed.take.Code as code

abbrev stayed : Stays f.ended.signature.params f.ended.kept
stayed = (stay_ref (0 ∷ []) tt (plain (λ _. S)), tt)

pub take_spec : {M : Type 1} → statement M
unfolding contract.Running.tables_of Rattle.afdx_handle.proofs.Destruct++none.drop.Code.code
take_spec {M} 𝓤 𝓛 𝓜 𝓡 wired =
    let c = f.clauses 𝓛 𝓜.mem 𝓡.returns in let W = walk_of 𝓛 f.ended stayed c in let 𝓣 = tables 𝓤 𝓛.H 𝓜 𝓡 𝓡.env in
    let al = E.al in let G = triple_of 𝓛 (g.signature E.row al.row al.g al.d al.drops) (g.spec E.row al.row al.g al.d al.drops 𝓛 𝓜.mem 𝓡.returns) in
    let opened = met 𝓤 𝓛 𝓜 𝓡 (code.calls-std_alloc::boxed::Box::from_raw 𝓡.env wired) E.row al.row E.laws al.laws al.g al.d al.drops
    (allocates.passed 𝓡.env (code.calls-std_heap::GlobalAllocator::allocate 𝓡.env wired) (code.calls-std_heap::GlobalAllocator::deallocate 𝓡.env wired)
    (code.calls-std_heap::GlobalAllocator::grow 𝓡.env wired) (code.calls-std_heap::GlobalAllocator::shrink 𝓡.env wired) M 𝓤 𝓛 𝓜 𝓡)
    (glues "afdx_handle::Destruct++none::drop" 𝓡.env (code.calls-afdx_handle::Destruct++none::drop 𝓡.env wired) al.row al.laws M 𝓤 𝓛 𝓜 𝓡) in
    proved 𝓛 f.ended stayed c 𝓜 𝓡 (Goes-ref 𝓛 1 0 tt (plain (λ _. S)), tt)
    f.Key.name code.function (code.unfolded 𝓤 𝓛.H 𝓜 𝓡 wired)
    (λ κs. (mut_vals, tt)) (λ κs. (mut_Tells (named 0) κs.0 S, tt)) (λ κs qs bounds a _ are.
    let κ = κs.0 in let q = qs.0 in let rb = a.0.ref_ptr.0 in let ro = a.0.ref_ptr.1 in let h = a.0.now in let vs = mut_vals a.0 in
    let y : W.Ghost = ((κs, qs, bounds, a, (vs, tt)), tt) in
    qed 𝓛 (((‵ (flft κ q) ⊛ ‵ ftrue) ⊛ ‵ ((MutRef (named 0) κ S).own_val a.0 vs) ⊛ ‵ ftrue) ∷ raw (fact 𝓤 (IsSome h.home)) ∷ []) ∵
    move ! (1 ∷ []) $ heard ! (IsSome h.home) (λ filled. let held = held_of h.home filled in let x = held.0 in
    let v : D E = record { ptr = h.ptr; alloc = h.alloc; value = x } in
    split ! $ split ! $ move ! (2 ∷ []) $ split ! $ keep ! (0 ∷ 2 ∷ []) $
    enter ! _ _ _ _ _ $ alloc_all ! (λ l. pass_all ! refl ((tt, tt), tt) $
    fsplit3 ! $ move ! (1 ∷ 2 ∷ 3 ∷ []) $ opens ! tt S rb ro (λ us. move ! (1 ∷ []) $
    rewrite ! 0 (λ (o : Option Home). ‵ (S.own_val (record h { home = o }) us)) held.1 refl $
    use1 𝓛 (‵ ((B E).own_val v us)) (id⊢ 𝓤 _) $
    box_out E ! v us (λ b o hv e ws fa.
    rewrite ! 3 (λ (ws : List Val). ‵ (cell_at full_share S.mir ws rb ro)) ws refl $
    let w = word E hv b o in
    move ! (3 ∷ []) $ use1 𝓛 (‵ (fat full_share laid rb ro w)) (𝓛.laws.raw_at full_share laid rb ro w) $
    first ! $ blocks ! $
    sets ! (of_opd ! (load ! (through ! refl (fld ! refl (stop !))) (look_in ! 0 (sub ! 1 refl (whole !))))) refl fa $
    sets ! (of_opd ! (load ! (through ! refl (fld ! refl (stop !))) (look_in ! 0 (sub ! 0 refl (whole !))))) refl (tt, tt) $
    sets ! (of_opd ! (get ! refl)) refl (tt, tt) $
    use1 𝓛 (‵ (cell_at full_share S.mir (w ∷ []) rb ro)) (𝓛.laws.at_raw full_share laid rb ro w) $ move ! (1 ∷ 2 ∷ 3 ∷ []) $
    -- [the content; its block; the allocator; the seal's cell; the open borrow, in three entries]
    fjoin ! $ move ! (1 ∷ []) $
    let Heaps = ‵ (handle E h.alloc hv) in
    use1 𝓛 (Heaps ⊛ Heaps) ((copy Heap.the_type heap.the_copy 𝓛).twice h.alloc (hv ∷ [])) $ split ! $ move ! (0 ∷ 2 ∷ []) $
    lft_new ! tt (λ α. lft_new ! tt (λ β.
    let z : G.Ghost = (((α ∷ [], (β ∷ [], tt)), (full_share, (full_share, tt)), tt, (h.alloc, (block_ptr b o, tt)), (hv ∷ [], (vptr b o ∷ [], tt))), x) in
    let ts : Item 𝓤 = ‵ (flft (α ∷ []) full_share) ⊛ ‵ (flft (β ∷ []) full_share) ⊛ ‵ ftrue in
    let in_x = (α ∷ []) ⊑ E.row.lives in let in_a = (β ∷ []) ⊑ al.row.lives in
    -- [the token of β; that of α; the allocator; what is at the pointer]
    nothing ! $ move ! (1 ∷ 0 ∷ []) $ join ! $ move ! (1 ∷ 0 ∷ []) $ join ! $
    nothing ! $ feq_i ! (List Val) (vptr b o ∷ []) (vptr b o ∷ []) refl $ fjoin ! $ move ! (2 ∷ 0 ∷ []) $ fjoin ! $
    move ! (1 ∷ 0 ∷ []) $ join ! $
    move ! (1 ∷ []) $ use0 𝓛 (raw (fact 𝓤 in_a)) (fact_i 𝓤 in_a (emp 𝓤) (heap.the_within (β ∷ []))) $ join ! $
    use0 𝓛 (raw (fact 𝓤 in_x)) (fact_i 𝓤 in_x (emp 𝓤) (home.the_within (α ∷ []))) $ join ! $
    move ! (1 ∷ 0 ∷ []) $ join ! $ use1 𝓛 (raw (G.pre z)) (id⊢ 𝓤 _) $
    calls_at_last ! (framed 𝓤 𝓛.H 𝓜 𝓣) G opened z (and_then ! (get ! refl) (and_then ! (get ! refl) (no_more !))) (λ u.
    use1 𝓛 (later (some (λ (r : D E). (ts ⊛ ‵ ((B E).own_val r (u ∷ []))) ⊛ some (λ (_ : Unit {0} × (Unit {0} × Unit {0})). ‵ (fsep ftrue
    (fsep ftrue ftrue)) ⊛ (raw (fact 𝓤 (r.value ≡ x)) ⊛ raw (fact 𝓤 (r.alloc ≡ h.alloc))))))) (id⊢ 𝓤 _) $
    await ! tt $ pick ! (λ r. split ! $ move ! (1 ∷ []) $ pick ! (λ _. split3 ! $ drop ! $ heard ! (r.value ≡ x) (λ same. drop ! $ split ! $
    split3 ! $ lft_end ! tt $ drop ! $ lft_end ! tt $ drop ! $ drop ! $
    box_out E ! r (u ∷ []) (λ b' o' hw e' wu fw. box_in E ! r b' o' r.value e' refl $ rewrite ! 0 (λ (us : List Val). ‵ ((B E).own_val r us)) (sym wu) refl $
    let typed : T (has_ty (box_ty E) u) × WT u = subst (λ (s : Val). T (has_ty (box_ty E) s) × WT s) (sym (ap only wu)) (box_typed E hw b' o' fw) in
    lands_last ! refl typed $
    exec ! 𝓣.C 𝓣.Λ (env code.Mir.locals l) (after 1 (code.function).body) (at_ret _ (W.post y)) $
    sets ! (of_opd ! (get ! refl)) refl typed $
    -- [the box; the allocator; the seal's cell; the open borrow]
    let left : S.Denot = record { ptr = h.ptr; alloc = h.alloc; home = None } in
    move ! (1 ∷ []) $ nothing ! $ nothing ! $ move ! (2 ∷ 0 ∷ []) $ fjoin ! $
    feq_i ! (List Val) (vptr b o ∷ []) (ptr_val h.ptr ∷ []) (ap (λ (p : Ptr). ptr_val p ∷ []) (sym e)) $ fjoin ! $
    feq_i ! (List Val) (w ∷ []) (w ∷ []) refl $ fjoin ! $
    fpack ! (Valss (fields the_type)) (within (shape the_type) (to the_type left) (w ∷ [])) (vptr b o ∷ [], (hv ∷ [], tt)) $ fjoin ! $
    move ! (2 ∷ 0 ∷ 3 ∷ 4 ∷ 5 ∷ []) $ closes ! tt S left (w ∷ []) rb ro $
    returns ! (look_at ! 0 refl) $ free_all ! refl $ move ! (4 ∷ 0 ∷ 1 ∷ 2 ∷ []) $
    suffices ! _ (ends_at 𝓛 f.ended stayed c y u r (left, tt) (tt, tt)) $ says_two ! (ap Some same ∙ sym held.1, refl) $
    group ! 3 $ nothing ! $ move ! (1 ∷ 0 ∷ []) $ join ! $ nothing ! $ move ! (2 ∷ 0 ∷ []) $ join ! $ frame ! $ frame ! $ done !))))))))))))
