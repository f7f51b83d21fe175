-- The frames of a storm, once its ports are taken back and all is sent.
use Rattle.storm.proofs.Names.{◌≡◌, ◌∙◌, ℕ, ◌<◌, List, length, All, ap, sym, subst, All-contains, Plan, Entry, log, Accepted, IsLegal, AreAllowed, AreOwn, AreOwnStreams, accepted_in, Tx, PortView, own_messages, AreSpent, ◌+◌, ◌≤◌, cond, take, get_or, arith, length-map, get_or-map, LinkPlan, entry_of, entries, AreKnown, is_on_both, on_both, refl, IsAllDone, IsHandedWhole, IsGatheredTx, length-filter_more, link_in, Net, Handed, known_all}

-- what was accepted of each port is its own list
gathered_own : (tx gathered : Tx) (n turns : ℕ) (ports : List PortView) → AreSpent tx n turns ports → IsGatheredTx tx ports gathered
    → AreOwn gathered.plan (accepted_in gathered.links) (own_messages tx.plan n)
gathered_own tx gathered n turns ports spent g place lt =
    let P : PortView → Type 0 = λ port. port.sender.own ≡ own_messages tx.plan n port.place in
    let own = g.own place (subst (λ (plan : Plan). place < length plan.ports) g.plan lt) in
    let all : All P ports = λ k d below. (spent.each k d below).own ∙ ap (own_messages tx.plan n) (sym (spent.each k d below).at) in
    own.accepted ∙ All-contains P ports own.port all own.inside ∙ ap (own_messages tx.plan n) own.at

-- the frames of the networks in the end
pub handed_whole : (tx gathered drained : Tx) (n turns : ℕ) (ports : List PortView) (a b : List Entry) → AreSpent tx n turns ports
    → IsGatheredTx tx ports gathered → drained.plan ≡ gathered.plan → accepted_in drained.links ≡ accepted_in gathered.links
    → IsAllDone drained.plan (accepted_in drained.links) (log drained.lines)
    → AreOwnStreams drained.plan (log drained.lines) drained.lines.a drained.lines.b
    → IsLegal drained.plan (accepted_in drained.links) drained.lines.a drained.lines.b
    → AreAllowed drained.plan (accepted_in drained.links) → a ≡ drained.lines.a → b ≡ drained.lines.b
    → IsHandedWhole tx.plan (own_messages tx.plan n) a b
handed_whole tx gathered drained n turns ports a b spent g plan accepted done streams legal allowed at_a at_b =
    let own = own_messages tx.plan n in
    let owned : AreOwn drained.plan (accepted_in drained.links) own =
    subst (λ (p : Plan). AreOwn p (accepted_in drained.links) own) (sym plan)
    (subst (λ (xs : Accepted). AreOwn gathered.plan xs own) (sym accepted) (gathered_own tx gathered n turns ports spent g)) in
    subst (λ (p : Plan). IsHandedWhole p own a b) (plan ∙ g.plan)
    (subst (λ xs. IsHandedWhole drained.plan own xs b) (sym at_a)
    (subst (λ ys. IsHandedWhole drained.plan own drained.lines.a ys) (sym at_b)
    (record {
      accepted = accepted_in drained.links;
      legal = legal;
      allowed = allowed;
      are_own = owned;
      log = log drained.lines;
      streams = streams;
      done = done;
    })))

-- known frames have a destination address
pub have_links : (links : List LinkPlan) (net : Net) (es : List Entry) → AreKnown links net es → All (λ (e : Entry). 6 ≤ length e.frame) es
have_links links net es known i spare inside = omega (arith, (known_all links net es known i spare inside).size)

-- the entry at a place
entry_at : (handed : List Handed) (i : ℕ) (one : Handed) → i < length handed → one ≡ get_or handed i one
    → get_or (entries handed) i (entry_of one) ≡ entry_of one
entry_at handed i one inside is = get_or-map entry_of handed i one (entry_of one) inside ∙ ap entry_of (sym is)

-- so has the one at a place
pub has_link : (handed : List Handed) (i : ℕ) (one : Handed) → i < length handed → one ≡ get_or handed i one
    → All (λ (e : Entry). 6 ≤ length e.frame) (entries handed) → 6 ≤ length one.frame.items
has_link handed i one inside is all = grind (arith, entry_at handed i one inside is, length-map handed entry_of)

-- one frame more
pub count_more : (links : List LinkPlan) (handed : List Handed) (i : ℕ) (one : Handed) → i < length handed → one ≡ get_or handed i one
    → length (on_both links (take (i + 1) (entries handed)))
    ≡ length (on_both links (take i (entries handed))) + cond (is_on_both links (link_in one.frame.items)) 1 0
count_more links handed i one inside is =
    length-filter_more (λ (e : Entry). is_on_both links (link_in e.frame)) (entries handed) i (entry_of one) (omega (arith, length-map handed entry_of))
    ∙ ap (λ (e : Entry). length (on_both links (take i (entries handed))) + cond (is_on_both links (link_in e.frame)) 1 0)
    (entry_at handed i one inside is)
