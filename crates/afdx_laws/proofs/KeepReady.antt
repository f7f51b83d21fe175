-- An emitter stays ready.
use Rattle.afdx_laws.proofs.RunNames.{ℕ, ◌≡◌, ◌<◌, List, length, arith, ◌∙◌, sym, subst, All, Plan, LinkState, link_at, IsSameLink, turns_each, IsQueued, AreQueued, Tx, taken_in, IsFreshTx, IsRun, IsTurnAt, IsPlanned, IsReadyFor, IsReady, KeptReady, ClosesTx, Publishes, ClosedLinks, closes_links, HearsTx, PortView, hears_links}

by_own : (plan : Plan) (tx : Tx) → tx.plan ≡ plan → IsReadyFor plan tx → IsReady tx
by_own plan tx of ready = grind arith

opened : (config : Plan) (tx : Tx) → IsFreshTx config tx → IsReady tx
opened config tx f = grind arith

planned_on : (plan : Plan) (old new : List LinkState) (k : ℕ) → IsSameLink (link_at old k) (link_at new k)
    → IsPlanned plan old k → IsPlanned plan new k
planned_on plan old new k same own = grind arith

polled : (now : ℕ) (old new : Tx) → IsReady old → new.plan ≡ old.plan
    → IsRun now old.links new.links old.lines new.lines → AreQueued new.plan (taken_in new.links) → IsReady new
polled now old new ready plan run allowed = by_own old.plan new plan (record {
  count = run.count ∙ ready.count;
  links = λ k lt. planned_on old.plan old.links new.links k (same k (omega (arith, lt, ready.count))) (ready.links k lt);
  allowed = subst (λ (p : Plan). AreQueued p (taken_in new.links)) plan allowed;
})
  where
    same : (k : ℕ) → k < length old.links → IsSameLink (link_at old.links k) (link_at new.links k)
    same k lt = turns_each (IsTurnAt now old.links new.links) (λ (i : ℕ). IsSameLink (link_at old.links i) (link_at new.links i))
        0 (length old.links) old.lines new.lines (grind arith) run.turns k (omega arith) (omega arith)

closed : (old new : Tx) (vl sub total : ℕ) → IsReady old → ClosesTx old vl sub total new → IsReady new
closed old new vl sub total ready c =
    let links : ClosedLinks old.links new.links = closes_links old vl sub total new c in
    by_own old.plan new (grind arith) (record {
      count = links.count ∙ ready.count;
      links = grind arith;
      allowed = λ k s lt slt.
          subst (All (IsQueued old.plan k s))
          (sym (grind arith))
          (ready.allowed k s lt slt);
    })

published : (old new : Tx) → IsReady old → Publishes old new → IsReady new
published old new ready p = subst IsReady (sym p.same) (grind arith)

told : (old new : Tx) (port : PortView) → IsReady old → HearsTx old port new → IsReady new
told old new port ready h =
    let links : ClosedLinks old.links new.links = hears_links old port new h in
    by_own old.plan new (grind arith) (record {
      count = links.count ∙ ready.count;
      links = grind arith;
      allowed = λ k s lt slt.
          subst (All (IsQueued old.plan k s))
          (sym (grind arith))
          (ready.allowed k s lt slt);
    })

pub kept_ready : KeptReady
kept_ready = record { opened = opened; polled = polled; closed = closed; published = published; told = told }
