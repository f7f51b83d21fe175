-- The queues of an emitter take back the senders of its ports.
use Rattle.afdx_tx.proofs.Names.{ℕ, zero, suc, ◌≡◌, ◌+◌, ◌<◌, ◌≤◌, List, [], ◌∷◌, Bool, true, false, cond, length, set, arith, refl, ap, subst, ◌∙◌, sym, ⊎_elim, All, Contains, and_parts, eqb-true, length-set, get_or-set_same, All-contains, Contains-push, Contains-append_left, PortPlan, Plan, IsPlan, link_plan_at, port_plan_at, link_place, SenderView, Brought, brought_by, Seen, receiving, gathered, Held, LinkState, held_at, link_at, no_link, TakesBack, back_of, ChangesSub, ChangesQueue, AreLinksOf, AreReceiving, ports_of_sub, queues_in, PortView, HasEveryPlace, BelongsTo, HasOwnMessages, index_of, OnlyTakesBack, OnlyTakeBack, IsTakenBack, AreFull, take-length, YieldsList, YieldsList-from_shown, drain_items, drain_steps, Drain}
use Rattle.afdx_tx.proofs.KeptLinks.{one_link, one_count, one_each}
use Rattle.afdx_tx.proofs.SoundEmitter.{plan_is, count_is}
use Rattle.afdx_tx.proofs.PortLink.{seats, seats_more, on_sub_vl, link_within}

-- What a list lends to be taken out is all given.
pub drains_all : {A Z : Type 0} {s : Drain A Z} (xs : List A) → drain_items s ≡ xs → YieldsList (drain_steps {X = A} {Z = Z}) (λ x. x) s xs
drains_all {A} {Z} {s} xs e = subst (YieldsList (drain_steps {X = A} {Z = Z}) (λ x. x) s) e
    (YieldsList-from_shown (drain_steps {X = A} {Z = Z}) (λ x. x) drain_items (λ u t p. ap length p.0) (λ u x t p. p.0) s)

-- The senders that were back still are, and so is this one.
more_back : (old : Seen) (sender : SenderView) (new : Seen) (b : Brought) → TakesBack sender old new → Contains (back_of old) b
    → Contains (back_of new) b
more_back (receiving old) sender new b takes was = rw takes (Contains-append_left old.back (brought_by sender ∷ []) b
    was)
more_back (gathered old) sender new b takes was = absurd takes

one_back : (old : Seen) (sender : SenderView) (new : Seen) → TakesBack sender old new → Contains (back_of new) (brought_by sender)
one_back (receiving old) sender new takes = rw takes (Contains-push old.back (brought_by sender))
one_back (gathered old) sender new takes = absurd takes

-- One sender was taken back.
pub take_one : (links : List LinkState) (k s : ℕ) (sender : SenderView) (new : LinkState) → k < length links
    → ChangesSub (ChangesQueue (TakesBack sender)) s (link_at links k) new → OnlyTakeBack links (set links k new)
take_one links k s sender new within takes =
    let here : ChangesQueue OnlyTakesBack (held_at (link_at links k).subs s) (held_at new.subs s) = grind arith in
    let all = one_each links k s new within takes.same (ChangesQueue OnlyTakesBack)
    (grind arith) here in
    grind (arith, length-set, one_link, one_count)

-- A port that was taken back still is.
pub stays_back : (config : Plan) (links : List LinkState) (k s : ℕ) (sender : SenderView) (new : LinkState) (port : PortView)
    → k < length links → ChangesSub (ChangesQueue (TakesBack sender)) s (link_at links k) new → IsTakenBack config links port
    → IsTakenBack config (set links k new) port
stays_back config links k s sender new port within takes was =
    let all = one_each links k s new within takes.same
    (λ (old after : Held). Contains (back_of old.seen) (brought_by port.sender) → Contains (back_of after.seen) (brought_by port.sender))
    (λ _ h. h) (more_back _ sender _ (brought_by port.sender) takes.change.queue) in
    grind arith

-- The port of the sender is taken back.
pub comes_back : (config : Plan) (links : List LinkState) (k s : ℕ) (new : LinkState) (port : PortView)
    → k < length links → k ≡ link_place config port.plan → s ≡ port.plan.sub
    → ChangesSub (ChangesQueue (TakesBack port.sender)) s (link_at links k) new → HasOwnMessages port → IsTakenBack config (set links k new) port
comes_back config links k s new port within link sub takes messages = grind (arith, get_or-set_same, no_link, one_back)

-- the port of a sub-VL with this index is at this place
record HasIndex (ports : List PortPlan) (vl sub index place : ℕ) : Type 0 where
  pub within : place < length ports
  pub own : on_sub_vl vl sub (port_plan_at ports place) ≡ true
  pub at : seats ports place vl sub ≡ index

indexed_to : (ports : List PortPlan) (vl sub index n : ℕ) → n ≤ length ports → index < seats ports n vl sub
    → (place : ℕ) × HasIndex ports vl sub index place
indexed_to ports vl sub index zero le lt = absurd (omega arith)
indexed_to ports vl sub index (suc n) le lt = ⊎_elim
    (λ (before : index < seats ports n vl sub). indexed_to ports vl sub index n (omega arith) before)
    (λ after. let one : n + 1 ≡ suc n = omega arith in
    at (on_sub_vl vl sub (port_plan_at ports n)) refl after (rw one at (seats_more ports n vl sub (omega arith))))
    (grind arith)
  where
    at : (b : Bool) → on_sub_vl vl sub (port_plan_at ports n) ≡ b → seats ports n vl sub ≤ index
        → seats ports (suc n) vl sub ≡ seats ports n vl sub + cond (on_sub_vl vl sub (port_plan_at ports n)) 1 0
        → (place : ℕ) × HasIndex ports vl sub index place
    at true on after more = (n, grind arith)
    at false on after more = grind arith

indexed : (ports : List PortPlan) (vl sub index : ℕ) → index < length (ports_of_sub ports vl sub)
    → (place : ℕ) × HasIndex ports vl sub index place
indexed ports vl sub index lt = indexed_to ports vl sub index (length ports) (omega arith)
    (rw (take-length ports) lt)

-- If the ports of all places were taken back, each sub-VL has all its senders.
pub full_back : (config : Plan) (old new : List LinkState) (ports : List PortView) → IsPlan config → AreLinksOf config old
    → AreReceiving old → OnlyTakeBack old new → All (BelongsTo config (queues_in old)) ports
    → HasEveryPlace (length config.ports) ports → All (IsTakenBack config new) ports → AreFull new
full_back config old new ports valid of may takes belong every back k lt s slt =
    let below : k < length old = omega (arith, takes.count) in
    let sub : s < length (link_at old k).subs = omega (arith, takes.subs k) in
    let within : k < length config.links = omega (arith, count_is config old of) in
    let planned = plan_is config old of k below in
    let own = ap (λ (h : Held). h.ports) (takes.helds k s) ∙ of.ports k s below sub
    ∙ ap (λ plan. ports_of_sub config.ports plan.id.0 s) (sym planned) in
    record {
      receiving = grind arith;
      every = λ p plt.
          let there = indexed config.ports (link_plan_at config.links k).id.0 s p (rw own at plt) in
          let place = there.0 in
          let at = there.1 in
          let both = and_parts _ _ at.own in
          let vl = eqb-true _ _ both.0 in
          let its = eqb-true _ _ both.1 in
          let has = every place at.within in
          let belongs = All-contains (BelongsTo config (queues_in old)) ports has.port belong has.inside in
          let linked = link_within config (port_plan_at config.ports place) valid (valid.linked place _ at.within) in
          let index = belongs.index ∙ ap (index_of config.ports) has.at
          ∙ ap (λ (n : ℕ). seats config.ports place n (port_plan_at config.ports place).sub) vl
          ∙ ap (λ (n : ℕ). seats config.ports place (link_plan_at config.links k).id.0 n) its
          ∙ at.at in
          let came = (All-contains (IsTakenBack config new) ports has.port back has.inside).back in grind arith;
    }
