-- A value of no bytes, whose list is read from the argument.
use Rattle.std.proofs.Common.{◌≡◌, List, [], ◌∷◌, refl}
use Rattle.std.proofs.raw_atomic.Walks.{proved, leaves}
use mir.Syntax.{a_type, dcons, dnil, named}
use mir.Val.{Val, vptr, vstruct, vnil}
use mir.MapTy.{inst_fn}
use base.Logic.{emp}
use base.Fml.{Fml}
use types.Kit.{‵, raw, ◌⊛◌, ◌$◌, ◌∵◌, !, qed, by, keep, use0, split, fjoin}
use types.Run.{no_more, returns, enter}
use types.ByLocal.{alloc_all, pass_all, free_all, look_at, sets}
use types.Part.{agg}
use contract.Monad.{fact, fact_i}
use denote.Exit.{yes}
use denote.RattleType.{RattleType, owns}
use denote.Signature.{types_at, plain}
use denote.Steps.{nothing}
use denote.Shadow.{pure_i}
use denote.Param.{param, bounded}
use denote.Builtin.{RefOf}
use denote.Ref.{shr_vals, shr_Tells}
use denote.Triple.Entry.{alive}
use denote.Triple.Walked.{Stays, stay_dropped, walk_of, Goes-dropped}
use Rattle.redundant_mux.specs.Lines.{Logged}
use Rattle.redundant_mux.specs.contracts.mux.Trail.{the_row}
use Rattle.redundant_mux.specs.contracts.mux.Trail.of as f
use Rattle.redundant_mux.proofs.mux.Trail.of.Statement.{statement}
use Rattle.redundant_mux.proofs.mux.Trail.of.Code as code

pub of_spec : {M : Type 1} → statement M
of_spec 𝓤 𝓛 𝓜 𝓡 wired T Y L LY g d _ =
    let R : RattleType = param 0 T in
    let End = f.ended T Y g d in
    let inst = bounded (a_type ∷ a_type ∷ []) (T, (Y, tt)) (dcons d dnil) in
    let fn = inst_fn inst code.function in
    let c = f.clauses T Y g d 𝓛 𝓜.mem 𝓡.returns in
    let arg = RefOf (0 ∷ []) tt (plain (λ _. R)) (λ _. tt) in
    let stays : Stays End.signature.params End.kept = (stay_dropped arg yes, tt) in
    proved 𝓛 End stays c 𝓜 𝓡 (Goes-dropped 𝓛 3 arg yes (λ κs x w. refl), tt) (f.Key.name inst) fn
    (code.unfolded 𝓤 𝓛.H 𝓜 𝓡 wired (T, (Y, tt)) d) (λ κs. (shr_vals, tt)) (λ κs. (shr_Tells (named 0) κs.0 R, tt))
    (λ κs qs bounds a n are.
    let p : Val = vptr a.0.ref_ptr.0 a.0.ref_ptr.1 in
    let shown : List Logged = g.logged a.0.now in
    let made : Fml = the_row.own_val (record { logged = shown }) (vstruct vnil ∷ []) in
    let y : (walk_of 𝓛 End stays c).Ghost = ((κs, qs, bounds, a, (p ∷ [], tt)), n) in
    qed 𝓛 ((raw (alive 𝓛 End.signature κs qs) ⊛ ‵ (owns (types_at End.signature.params κs) a y.0.4))
    ∷ raw ((c κs a).requires n) ∷ []) ∵ split ! $ keep ! (0 ∷ []) $
    enter ! _ _ fn (p ∷ []) _ $ alloc_all ! (λ l. pass_all ! refl ((tt, tt), tt) $
    sets ! (agg ! (no_more !)) refl (tt, tt) $
    use0 𝓛 (raw (fact 𝓤 (shown ≡ shown))) (fact_i 𝓤 (shown ≡ shown) (emp 𝓤) refl) $
    pure_i ! made ((λ vss. (tt, tt)), tt) ((tt, (refl, tt)), tt) $ nothing ! $ nothing ! $ fjoin ! $
    returns ! (look_at ! 0 refl) $ free_all ! refl $ keep ! (3 ∷ 0 ∷ 1 ∷ 2 ∷ []) $
    by ! (leaves 𝓛 End stays c y (vstruct vnil) (record { logged = shown }) (tt, tt) (tt, tt))))
