-- `of` takes the box apart, and the parts own what it owned.
use Rattle.afdx_handle.proofs.Names.{◌≡◌, refl, List, [], ◌∷◌, ◌++◌, ap, ◌∙◌, Args, a_type, dcons, dnil, inst_fn, Val, vstruct, of_list, WpFn, sem, id⊢, never, fst∗, ftrue, fsep, flft, ◌⊑◌, fact, tables, prop, regoal, Item, ‵, raw, ◌⊛◌, some, later, ◌$◌, ◌∵◌, !, qed, move, drop, use1, join, split, split3, pick, rewrite, fsplit, fjoin, fpick, feq_l, suffices, await, done, whole, sub, agg, stop, fld, no_more, and_then, of_opd, returns, enter, alloc_all, pass_all, free_all, look_at, get, get_in, sets, lands_as, no, bounded, Ptr, RawPtr, block_ptr, null_ptr, ptr_val, in_a_block, plain, heard, nothing, only, calls_at, framed, triple_of, proved_at, says, Stays, stay_dropped, walk_of, ends_at, token, handle_tells, Goes-blank, box_owns, Bx, D, τ, R, P, B, word, box_typed, box_out, box_in}
use mir.Raw.{raw as bare}
use denote.Struct.Tuple.{Tuple}
use Rattle.afdx_handle.specs.contracts.seal.parts.BoxParts.of.Key.{name as #self}
use Rattle.afdx_handle.specs.contracts.seal.parts.BoxParts as parts
use Rattle.std_alloc.specs.contracts.boxed.Box.into_raw_with_allocator as g
use Rattle.std_alloc.proofs.boxed.Box.into_raw_with_allocator.Met.{met}
use Rattle.afdx_handle.specs.contracts.seal.parts.BoxParts.of as f
use Rattle.afdx_handle.proofs.seal.parts.BoxParts.of.Statement.{statement}
use Rattle.afdx_handle.proofs.seal.parts.BoxParts.of.Code as code

pub of_spec : {M : Type 1} → statement M
of_spec 𝓤 𝓛 𝓜 𝓡 wired X Z LX LZ ga d dd dx allocator md glue =
    let E : Bx = record { row = X; laws = LX; al = record { row = Z; laws = LZ; g = ga; d = d; drops = dd } } in
    let inst : Args = bounded (a_type ∷ a_type ∷ []) (X, (Z, tt)) (dcons d (dcons dd (dcons dx dnil))) in let fn = inst_fn inst code.function in
    let ended = f.ended X Z ga d dd dx in let c = f.clauses X Z ga d dd dx 𝓛 𝓜.mem 𝓡.returns in let 𝓣 = tables 𝓤 𝓛.H 𝓜 𝓡 𝓡.env in
    let stayed : Stays ended.signature.params ended.kept = (stay_dropped (plain (λ _. B E)) no, tt) in let W = walk_of 𝓛 ended stayed c in
    let G = triple_of 𝓛 (g.signature X Z ga d dd dx) (g.spec X Z ga d dd dx 𝓛 𝓜.mem 𝓡.returns) in let To = parts.the_row (R E) (P E) ga in
    proved_at 𝓛 ended stayed c 𝓜 𝓡 (Goes-blank 𝓛 2 (plain (λ _. B E)) no (λ κs x f. tt), tt) (#self inst) fn (code.unfolded 𝓤 𝓛.H 𝓜 𝓡 wired (X, (Z, tt)) d dd dx) (λ y are.
    let κs = y.0.0 in let qs = y.0.1 in let v = y.0.3.0 in let a = v.alloc in let vs = y.0.4.0 in
    let ts : Item 𝓤 = ‵ (flft κs.0 qs.0) ⊛ ‵ (flft κs.1.0 qs.1.0) ⊛ ‵ ftrue in
    let alive : Item 𝓤 = raw (fact 𝓤 (κs.0 ⊑ X.lives)) ⊛ raw (fact 𝓤 (κs.1.0 ⊑ Z.lives)) ⊛ ‵ ftrue in
    qed 𝓛 ((ts ⊛ ‵ (fsep ((B E).own_val v vs) ftrue)) ∷ alive ∷ []) ∵ split ! $ move ! (1 ∷ []) $ fsplit ! $
    box_out E ! v vs (λ b o hv e ws fa. box_in E ! v b o v.value e refl $ let w = word E hv b o in
    regoal ! (λ (us : List Val). prop (WpFn 𝓤 𝓛.H 𝓣.C 𝓣.Λ fn (us ++ []) (W.post y))) ws refl $
    enter ! _ _ _ _ _ $ alloc_all ! (λ ls. pass_all ! refl (box_typed E hv b o fa, tt) $ sets ! (of_opd ! (get ! refl)) refl (box_typed E hv b o fa) $
    let z : G.Ghost = ((κs, qs, tt, (v, tt), (w ∷ [], tt)), tt) in
    fjoin ! $ move ! (1 ∷ 0 ∷ []) $ join ! $ join ! $ use1 𝓛 (raw (G.pre z)) (id⊢ 𝓤 _) $
    calls_at ! (framed 𝓤 𝓛.H 𝓜 𝓣) G (met 𝓤 𝓛 𝓜 𝓡 (code.calls-std_alloc::boxed::Box::into_raw_with_allocator 𝓡.env wired) X Z LX LZ ga d dd dx allocator md glue) z (and_then ! (get ! refl) (no_more !)) (λ u.
    use1 𝓛 (later (some (λ (r : Ptr × Z.Denot). (ts ⊛ ‵ ((Tuple (RawPtr ∷ P E ∷ [])).own_val r (u ∷ []))) ⊛ some (λ (_ : (Unit {0} × (Unit {0} × Unit {0})) × Unit {0}). ‵ (fsep (fsep ftrue (fsep ftrue ftrue)) ftrue) ⊛ (raw (fact 𝓤 (r.1 ≡ a)) ⊛ ‵ (box_owns (token E.al a) (R E) r.0 v.value)))))) (id⊢ 𝓤 _) $
    await ! tt $ pick ! (λ r. split ! $ move ! (1 ∷ []) $ pick ! (λ _. split3 ! $ drop ! $ heard ! (r.1 ≡ a) (λ ea.
    in_a_block ! r.0 (λ p. box_owns (token E.al a) (R E) p v.value) (fst∗ 𝓤 (never 𝓤) (sem 𝓛 (token E.al a (bare (τ E)) null_ptr))) (λ b' o' e'.
    move ! (1 ∷ []) $ split ! $ move ! (1 ∷ []) $ fpick ! (λ vss. fsplit ! $ feq_l ! (λ eu. fsplit ! $ feq_l ! (λ ep. fsplit ! $ rewrite ! 0 (λ (s : Z.Denot). ‵ (Z.own_val s vss.1.0)) ea refl $ handle_tells E.al ! a vss.1.0 (λ hw eh fw.
    let d : D E = record { ptr = block_ptr b' o'; alloc = a; value = v.value } in
    let made : To.Denot = record { ptr = block_ptr b' o'; alloc = a; value = v.value } in
    lands_as ! (ap only (eu ∙ (λ j. vstruct (of_list ((ep ∙ ap (λ (p : Ptr). ptr_val p ∷ []) e') j ++ (eh j ++ []))) ∷ []))) refl (box_typed E hw b' o' fw) $
    sets ! (of_opd ! (get_in ! (fld ! refl (stop !)) (sub ! 0 refl (whole !)))) refl (tt, tt) $ sets ! (of_opd ! (get_in ! (fld ! refl (stop !)) (sub ! 1 refl (whole !)))) refl fw $ sets ! (of_opd ! (get ! refl)) refl fw $
    sets ! (agg ! (and_then ! (get ! refl) (and_then ! (get ! refl) (no_more !)))) refl (box_typed E hw b' o' fw) $ returns ! (look_at ! 0 refl) $ free_all ! refl $
    -- [the handle; true; the tokens; the value with its token]
    move ! (3 ∷ []) $ fsplit ! $ box_in E ! d b' o' v.value refl refl $ use1 𝓛 (‵ (To.own_val made (word E hw b' o' ∷ []))) (id⊢ 𝓤 _) $ move ! (1 ∷ []) $ drop ! $
    suffices ! _ (ends_at 𝓛 ended stayed c y (word E hw b' o') made ((tt, (tt, tt)), tt) (tt, tt)) $ says ! refl $
    nothing ! $ nothing ! $ fjoin ! $ join ! $ move ! (1 ∷ 0 ∷ []) $ join ! $ done !))))))))))))
