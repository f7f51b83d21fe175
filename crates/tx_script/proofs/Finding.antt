-- What is known of a run once its ports are taken back: polls found the first of what was sent, and closes reported
-- the totals.
use Rattle.tx_script.proofs.Names.{ℕ, zero, suc, ◌≡◌, ◌≢◌, ◌+◌, ◌<◌, Bool, true, false, if◌then◌else◌, List, [], ◌∷◌, length, arith, refl, ap, ◌∙◌, sym, ⊎_elim, ◌++◌, get_or, append_assoc, subst, inl, inr, All, both_true, cases_eq, eq-eqb, cases_lt, eqb-true, and_parts, get_or_default, get_or_past, get_or_append_left, length-append, map-append, All-tail, All-weaker, Contains-get_or, Plan, IsPlan, link_plan_at, port_plan_at, link_place, PortPlan, Sent, IsAllowed, messages_of, AreAllowed, port_messages, Messages, is_on, accepted_among, AnsweredLine, Play, FindsFirst, IsTotal, AreTotals, ClosesAt, found, BecomesWhole, no_link, Held, held_at, link_at, sent_of, sent_by, Seen, receiving, gathered, taken_of, known_of, IsSubAt, accepted_in, Tx, taken_in, IsGatheredTx, HasOwnPart, PortView, LacksPlace, total_whole, link_within, meaning_of, Line, AtBench, IsAtHand, Matches, OnlyTakes, TellsTotal, AreTold, IsGathered}

-- the messages of each port among some
abbrev pub each_port : Plan → List Sent → Messages
each_port plan sents place = messages_of (port_plan_at plan.ports place) sents

module _ (plan : Plan) (vl sub : ℕ) where
  -- As many of each port on a sub-VL are as many on the sub-VL.
  pub among_same : (a b : Messages) (many : ℕ)
      → ((k : ℕ) → k < many → is_on vl sub (port_plan_at plan.ports k) ≡ true → length (a k) ≡ length (b k))
      → accepted_among plan a vl sub many ≡ accepted_among plan b vl sub many
  among_same a b zero each = refl
  among_same a b (suc k) each =
      by (is_on vl sub (port_plan_at plan.ports k)) (each k (omega arith)) (among_same a b k (grind arith))
    where
      by : (on : Bool) → (on ≡ true → length (a k) ≡ length (b k)) → accepted_among plan a vl sub k ≡ accepted_among plan b vl sub k
          → accepted_among plan a vl sub k + (if on then length (a k) else 0)
          ≡ accepted_among plan b vl sub k + (if on then length (b k) else 0)
      by true same front = omega (arith, same refl)
      by false same front = omega arith

  -- one more of a port on it is one more on the sub-VL
  among_more : (a b : Messages) (at many : ℕ) → is_on vl sub (port_plan_at plan.ports at) ≡ true
      → length (a at) ≡ length (b at) + 1 → ((k : ℕ) → k < many → k ≢ at → length (a k) ≡ length (b k)) → at < many
      → accepted_among plan a vl sub many ≡ accepted_among plan b vl sub many + 1
  among_more a b at zero on one others lt = absurd (omega arith)
  among_more a b at (suc k) on one others lt = ⊎_elim
      (grind (arith, among_same))
      (λ (ne : k ≢ at).
      let front = among_more a b at k on one (grind arith) (omega arith) in
      grind arith)
      (cases_eq k at)

  -- of no messages there are none
  among_none : (many : ℕ) → accepted_among plan (each_port plan []) vl sub many ≡ 0
  among_none zero = refl
  among_none (suc k) = grind (arith, among_none k)

-- The messages of a sub-VL are those of its ports.
pub counted : (plan : Plan) (k sub : ℕ) (sents : List Sent) → IsPlan plan → All (IsAllowed plan k sub) sents
    → accepted_among plan (each_port plan sents) (link_plan_at plan.links k).id.0 sub (length plan.ports) ≡ length sents
counted plan k sub [] valid all = among_none plan (link_plan_at plan.links k).id.0 sub (length plan.ports)
counted plan k sub (sent ∷ more) valid all =
    let of : IsAllowed plan k sub sent = all 0 sent (omega arith) in
    let first = of.queued in
    let at : ℕ = first.port.0 in
    let port : port_plan_at plan.ports at ≡ sent.port =
    get_or_default plan.ports at (port_plan_at [] 0) sent.port first.port.1 ∙ first.port.2 in
    let number : (port_plan_at plan.ports at).id.0 ≡ sent.port.id.0 = ap (λ (p : PortPlan). p.id.0) port in
    let on : is_on (link_plan_at plan.links k).id.0 sub sent.port ≡ true =
    both_true (eq-eqb _ _ first.over) (eq-eqb _ _ first.its) in
    among_more plan (link_plan_at plan.links k).id.0 sub (each_port plan (sent ∷ more)) (each_port plan more) at
    (length plan.ports) (rw port on) (rw (eq-eqb _ _ (sym number)) (omega arith)) (grind arith)
    first.port.1
    ∙ rw (counted plan k sub more valid (All-tail (IsAllowed plan k sub) sent more all)) (omega arith)

-- No port of the plan is missing.
pub none_missing : (tx : Tx) (ports : List PortView) → IsAtHand tx ports → LacksPlace (length tx.plan.ports) ports → ⊥
none_missing tx [] h lacks = grind arith
none_missing tx (port ∷ more) h lacks =
    let inside : lacks.0 < length (port ∷ more) = grind arith in
    lacks.2 (record {
      port = get_or (port ∷ more) lacks.0 port;
      inside = Contains-get_or (port ∷ more) lacks.0 port inside;
      at = grind arith;
    })

-- what was accepted of a sub-VL begins with what was taken
accepted_first : (tx drain : Tx) (ports : List PortView) (k s : ℕ) → IsGatheredTx tx ports drain
    → (left : List Sent) × (accepted_in drain.links k s ≡ taken_in tx.links k s ++ left)
accepted_first tx drain ports k s g = elim (cases_lt k (length tx.links)) [
  | inl within ↦
      let link = g.links k within in elim (cases_lt s (length (link_at tx.links k).subs)) [
        | inl below ↦
            let sub = link.each s below in
            rw (ap (λ (held : Held). held.ports) sub.same) (whole (held_at (link_at tx.links k).subs s).ports _ _ sub.queue)
        | inr past ↦ grind (arith, get_or_past)
      ]
  | inr past ↦ ([], grind (arith, get_or_past, no_link))
]
  where
    whole : (senders : List PortPlan) (old new : Seen) → BecomesWhole old new
        → (left : List Sent) × (sent_by senders (known_of new) ≡ sent_by senders (taken_of old) ++ left)
    whole senders (receiving r) (gathered h) b = (
        grind (arith, map-append (sent_of senders) r.taken h.left)
        )
    whole senders (gathered i) (gathered h) b = absurd b
    whole senders old new b = absurd b

-- what holds of all holds of the first
all_first : {X : Type 0} (P : X → Type 0) (xs ys : List X) → All P (xs ++ ys) → All P xs
all_first P xs ys h = grind (arith, get_or_append_left, length-append)

-- the messages of a port among more
messages_more : (port : PortPlan) (xs ys : List Sent) → messages_of port (xs ++ ys)
    ≡ messages_of port xs ++ messages_of port ys
messages_more port [] ys = refl
messages_more port (x ∷ xs) ys = grind (arith, messages_more port xs ys)

-- a line closes a sub-VL of the plan
closes_sub : (plan : Plan) (line : Line) (place sub : ℕ) → ClosesAt plan line place sub → (vl : ℕ) × IsSubAt plan vl sub place
closes_sub plan line place sub at = grind arith

-- A run whose ports were taken back, since when nothing was sent or closed.
module _ (st : Play) (before bench : AtBench) (m : Matches st.accepted st.es before) (f : OnlyTakes before bench)
    (g : IsGathered bench) where
  same : bench.tx.plan ≡ st.es.plan
  same = cc

  valid : IsPlan st.es.plan
  valid = grind arith

  allowed : AreAllowed st.es.plan (accepted_in g.drain.links)
  allowed = subst (λ (plan : Plan). AreAllowed plan (accepted_in g.drain.links)) (g.gathers.plan ∙ same) g.allowed

  -- the accepted messages of a port are what its sub-VL accepted of it
  own_messages : (place : ℕ) → place < length st.es.plan.ports
      → st.accepted place ≡ port_messages st.es.plan (accepted_in g.drain.links) place
  own_messages place lt =
      let part : HasOwnPart g.drain bench.ports place = grind arith in
      grind arith

  -- what a sub-VL accepted begins with what polls found of it
  found_first : (k s : ℕ) → k < length st.es.plan.links
      → (more : List Sent) × (accepted_in g.drain.links k s ≡ found st.es k s ++ more)
  found_first k s lt =
      let left = accepted_first bench.tx g.drain bench.ports k s g.gathers in
      let grown = f.grown k s (grind arith) in (
        grown.0 ++ left.0,
        grind (arith, append_assoc, taken_in),
      )

  -- Polls found the first of what was sent.
  pub finds_first : FindsFirst st
  finds_first = record {
    own = λ k s lt below.
        let first = found_first k s lt in
        all_first (IsAllowed st.es.plan k s) (found st.es k s) first.0 (rw (← first.1) (allowed k s lt below));
    first = λ place lt.
        let port : PortPlan = port_plan_at st.es.plan.ports place in
        let link = link_within st.es.plan port valid (grind arith) in
        grind (arith, found_first (link_place st.es.plan port) port.sub link.0, own_messages place lt, messages_more);
  }

  -- the messages of a port on a sub-VL are those that the sub-VL accepted
  sent_on : (place sub k : ℕ) → place < length st.es.plan.links → k < length st.es.plan.ports
      → is_on (link_plan_at st.es.plan.links place).id.0 sub (port_plan_at st.es.plan.ports k) ≡ true
      → each_port st.es.plan (accepted_in g.drain.links place sub) k ≡ st.accepted k
  sent_on place sub k within lt on = grind (arith, and_parts, link_within, valid, eqb-true, own_messages)

  -- Closes reported the totals.
  pub totals_are : (turns : List AnsweredLine) → AreTold bench.tx turns → AreTotals st turns
  totals_are turns told = All-weaker (λ (turn : AnsweredLine). TellsTotal bench.tx (meaning_of turn.line) turn.answer)
      (IsTotal st) (λ turn tells place sub at.
      let line = meaning_of turn.line in
      let its = (closes_sub st.es.plan line place sub at).1 in
      let shown = tells place sub (grind (arith, same)) in
      sym (total_whole bench.tx bench.ports g.drain place sub _ g.gathers shown)
      ∙ sym (counted st.es.plan place sub (accepted_in g.drain.links place sub) valid (allowed place sub its.within its.below))
      ∙ among_same st.es.plan (link_plan_at st.es.plan.links place).id.0 sub
      (each_port st.es.plan (accepted_in g.drain.links place sub)) st.accepted (length st.es.plan.ports)
      (λ k lt on. grind (arith, sent_on))) turns told
