-- A sub-VL is closed: the end system that matches stays the same.
use Rattle.tx_script.proofs.Names.{ℕ, ◌≡◌, List, arith, refl, ap, ◌∙◌, sym, subst, Option, Some, None, Plan, IsPlan, Closes, Held, LinkState, held_at, link_at, nothing_held, no_link, Seen, receiving, gathered, total_of, each_set, IsSubAt, LacksSub, ClosesTx, Tx, total_in, PortView, none_has, found_at, ClosedLinks, closes_within, closes_links, Close, NoSub, AtBench, IsAtHand, Obeys, progress_of, MatchesTx, EndSystem, Answer, tells, told_by, closed_at, link_of, ClosesAt}
use Rattle.script_text.specs.declared.transcript.Outcome.TheVariants as Became
use Rattle.tx_script.proofs.Matched.{asked_on, still_planned}
use Rattle.tx_script.proofs.Sending.{obeys_still}

-- a total stays if a queue was closed before, and if a line closes another
abbrev StaysAt : Tx → (vl sub : ℕ) → (place index : ℕ) → (old new : Option ℕ) → Type 0
StaysAt tx vl sub place index old new =
    ((t : ℕ) → old ≡ Some t → new ≡ Some t) × ((ClosesAt tx.plan (Close vl sub) place index → ⊥) → new ≡ old)

-- the totals of all queues after a close
closes_totals : (old : Tx) (vl sub total : ℕ) (new : Tx) → ClosesTx old vl sub total new → (k s : ℕ)
    → StaysAt old vl sub k s (total_in old.links k s) (total_in new.links k s)
closes_totals old vl sub total new c k s =
    subst (λ (links : List LinkState). StaysAt old vl sub k s (total_in old.links k s) (total_in links k s))
    (grind arith)
    (each_set (λ i link. (j : ℕ) → StaysAt old vl sub i j (total_in old.links i j) (total_of (held_at link.subs j).seen))
    old.links c.place shut no_link (closes_within old vl sub total new c) (λ j.
    subst (λ (subs : List Held). StaysAt old vl sub c.place j (total_in old.links c.place j) (total_of (held_at subs j).seen))
    (grind arith)
    (each_set (λ i held. StaysAt old vl sub c.place i (total_in old.links c.place i) (total_of held.seen))
    (link_at old.links c.place).subs sub (held_at shut.subs sub) nothing_held c.closes.within
    (grind arith, grind arith)
    (grind arith) j)) (grind arith) k s)
  where
    shut : LinkState
    shut = link_at new.links c.place

    again : (before after : Seen) → Closes total before after → (t : ℕ) → total_of before ≡ Some t → total_of after ≡ Some t
    again (receiving r) after closes t is = grind arith
    again (gathered g) after closes t is = absurd closes

-- the emitter matches as before
closes_matches : (es : EndSystem) (old : Tx) (vl sub total : ℕ) (new : Tx) → ClosesTx old vl sub total new → MatchesTx es old
    → MatchesTx es new
closes_matches es old vl sub total new c m = record {
  plan = grind arith;
  count = links.count ∙ m.count;
  planned = λ k lt.
      still_planned (ap (λ (link : LinkState). link.plan) (links.same k)) (ap (λ (link : LinkState). link.pace.gap) (links.same k))
      (ap (λ (link : LinkState). link.pace.sub_vls) (links.same k)) (links.subs k) (λ s. (links.each k s).keeps.of)
      (m.planned k lt);
  subs = m.subs ∙ (λ i k s. sym (same k s) i);
  logged = grind arith;
  a = grind arith;
  b = grind arith;
  moment = grind arith;
}
  where
    links : ClosedLinks old.links new.links
    links = closes_links old vl sub total new c

    same : (k s : ℕ) → progress_of (held_at (link_at new.links k).subs s) ≡ progress_of (held_at (link_at old.links k).subs s)
    same k s = let keeps = (links.each k s).keeps in grind arith

-- the outcome of the close of a sub-VL that is there
closed_there : (plan : Plan) (vl sub place : ℕ) (answer : Answer) → IsPlan plan → IsSubAt plan vl sub place
    → closed_at plan (link_of plan vl) sub answer ≡ Became.Closed (told_by answer)
closed_there plan vl sub place answer valid at = by (link_of plan vl) refl
  where
    by : (found : Option ℕ) → link_of plan vl ≡ found → closed_at plan found sub answer ≡ Became.Closed (told_by answer)
    by None e = absurd (none_has plan.links vl place e at.within at.id)
    by (Some k) e =
        let some = found_at plan.links vl k e in
        grind arith

-- and of one that isn't
closed_nowhere : (plan : Plan) (vl sub : ℕ) (answer : Answer) → LacksSub plan vl sub
    → closed_at plan (link_of plan vl) sub answer ≡ Became.Refused NoSub
closed_nowhere plan vl sub answer lacks = by (link_of plan vl) refl
  where
    by : (found : Option ℕ) → link_of plan vl ≡ found → closed_at plan found sub answer ≡ Became.Refused NoSub
    by None e = refl
    by (Some k) e = let some = found_at plan.links vl k e in grind arith

-- The close of a sub-VL that is there.
pub obeys_close : (old : Tx) (ports : List PortView) (vl sub total : ℕ) (new : Tx) → IsAtHand old ports
    → ClosesTx old vl sub total new
    → Obeys (Close vl sub) (record { tx = old; ports = ports }) (record { tx = new; ports = ports }) (Became.Closed total)
obeys_close old ports vl sub total new h c = record {
  ok = λ accepted es m. record {
    answer = tells total;
    may = tt;
    is = grind (arith, closed_there);
    told = grind arith;
    matches = record { emitter = closes_matches es old vl sub total new c m.emitter; own = m.own };
  };
  few = tt;
  asked = grind (arith, asked_on);
  closes = record {
    plan = plan;
    kept = λ k s. (closes_totals old vl sub total new c k s).0;
    only = λ k s. (closes_totals old vl sub total new c k s).1;
  };
}
  where
    plan : new.plan ≡ old.plan
    plan = grind arith

-- The close of one that isn't.
pub obeys_lack : (bench : AtBench) (vl sub : ℕ) → LacksSub bench.tx.plan vl sub
    → Obeys (Close vl sub) bench bench (Became.Refused NoSub)
obeys_lack bench vl sub lacks = grind (arith, obeys_still, closed_nowhere)
