-- The groups of a sub-VL, and the least wait in them.
use Rattle.plan_analysis.proofs.Names.{ℕ, ◌≡◌, ◌+◌, ◌<◌, ◌≤◌, List, [], ◌∷◌, ◌++◌, Option, None, Some, arith, Bool, true, false, ◌&&◌, take, drop, length, refl, ap, ◌∙◌, sym, inl, inr, cases_lt, cases_eq, mul-le, subst, option_map, IfSome, IfNone, Plan, LinkPlan, Sender, Flow, Peak, AreMates, IsGroupOver, IsGroupWait, IsGroupWithin, IsSubWait, IsSubNeed, IsNeed, IsWaitInGroup, IsOver, IsKnownBacklog, IsBacklog, busy_limit, flows_of, flows_in, flows_with, round_of, have_periods, mates_have_periods, least_of, link_share, whole_share, append-nil, arrived, drop_all, messages, min, take-length, unwrap_or}
use Rattle.plan_analysis.specs.Traffic.{is_with}

-- no wait is known of a group that never catches up
pub never_waits : (round : ℕ) (own rest : List Flow) → IsOver round (own ++ rest) → (wait : ℕ) → IsWaitInGroup round own rest wait → ⊥
never_waits round own rest over wait of =
    let far = over.1 of.busy of.is_busy.some in
    absurd (omega (arith, of.is_busy.is))

-- a wait within the limit
pub wait_most : (round : ℕ) (own rest : List Flow) (wait : ℕ) → round ≤ 5640000 → IsWaitInGroup round own rest wait → wait ≤ 369623040000
wait_most round own rest wait short of =
    let most = mul-le round busy_limit 5640000 busy_limit short (omega arith) in
    let within = of.short in
    omega arith

-- a group has one wait
pub one_wait : (round : ℕ) (own rest : List Flow) (wait other : ℕ) → IsWaitInGroup round own rest wait → IsWaitInGroup round own rest other
    → wait ≤ other
one_wait round own rest wait other of to =
    let le = of.is_busy.least to.busy to.is_busy.some to.is_busy.is in
    let at = of.met.2 in
    let sent = to.most of.met.0 (omega (arith, of.met.1)) in
    let least = at.least sent.0 sent.1 in
    omega (arith, at.is, sent.2)

-- a sub-VL without mates is a group
pub no_mates : (link : LinkPlan) (senders : List Sender) → flows_with link 0 senders ≡ []
unfolding is_with
no_mates link [] = refl
no_mates link (s ∷ senders) = grind (arith, no_mates link senders)

no_periods : (link : LinkPlan) (senders : List Sender) → mates_have_periods link 0 senders ≡ true
unfolding is_with
no_periods link [] = refl
no_periods link (s ∷ senders) = grind (arith, no_periods link senders)

pub alone : (plan : Plan) (link : LinkPlan) (sub : ℕ) (senders : List Sender) → AreMates plan link sub senders 0
alone plan link sub senders = record { few = omega arith; are = refl; periods = no_periods link senders }

pub alone_flows : (link : LinkPlan) (sub : ℕ) (senders : List Sender) → flows_in link sub senders 0 ≡ flows_of link sub senders
alone_flows link sub senders =
    ap (λ (rest : List Flow). flows_of link sub senders ++ rest) (no_mates link senders) ∙ append-nil (flows_of link sub senders)

-- a wait and a share at equal arguments
same_wait : (r q : ℕ) (a x b y : List Flow) (wait : ℕ) → r ≡ q → a ≡ x → b ≡ y → IsWaitInGroup r a b wait → IsWaitInGroup q x y wait
same_wait r q a x b y wait one two three of = subst (λ (n : ℕ). IsWaitInGroup n x y wait) one
    (subst (λ (z : List Flow). IsWaitInGroup r z y wait) two (subst (λ (z : List Flow). IsWaitInGroup r a z wait) three of))

same_over : (r q : ℕ) (a x : List Flow) → r ≡ q → a ≡ x → IsOver r a → IsOver q x
same_over r q a x one two of = subst (λ (n : ℕ). IsOver n x) one (subst (λ (z : List Flow). IsOver r z) two of)

-- Each of the first groups is over, or some group is within its turns.
pub record AreOver (late : ℕ) (plan : Plan) (link : LinkPlan) (sub : ℕ) (senders : List Sender) (many : ℕ) (over : Bool) : Type 0 where
  pub all : over ≡ true → (group : ℕ) → group < many → AreMates plan link sub senders group → IsGroupOver late plan link sub senders group
  pub some : over ≡ false → (group : ℕ) × IsGroupWithin late plan link sub senders group

-- The least wait of the first groups, of those that have one.
pub record IsLeast (late : ℕ) (plan : Plan) (link : LinkPlan) (sub : ℕ) (senders : List Sender) (many : ℕ) (known : Option ℕ) : Type 0 where
  pub met : IfSome known (λ (wait : ℕ). (group : ℕ) × IsGroupWait late plan link sub senders group wait)
  pub least : IfSome known (λ (wait : ℕ). (group other : ℕ) → group < many → IsGroupWait late plan link sub senders group other → wait ≤ other)
  pub none : IfNone known ((group wait : ℕ) → group < many → IsGroupWait late plan link sub senders group wait → ⊥)

both_true : (a b : Bool) → (a && b) ≡ true → (a ≡ true) × (b ≡ true)
both_true true true is = (refl, refl)
both_true true false is = absurd (grind arith)
both_true false b is = absurd (grind arith)

one_false : (a b : Bool) → (a && b) ≡ false → b ≡ true → a ≡ false
one_false true true is other = absurd (grind arith)
one_false true false is other = absurd (grind arith)
one_false false b is other = refl

module _ (late : ℕ) (plan : Plan) (link : LinkPlan) (sub : ℕ) (senders : List Sender) where
  pub first_over : AreOver late plan link sub senders 0 true
  first_over = record { all = λ is group lt. absurd (omega arith); some = λ is. absurd (grind arith) }

  pub skip_over : (many : ℕ) (over : Bool) → (AreMates plan link sub senders many → ⊥) → AreOver late plan link sub senders many over
      → AreOver late plan link sub senders (many + 1) over
  skip_over many over never old = record {
    all = λ is group lt are. elim (cases_eq group many) [
      | inl last ↦ absurd (never (subst (AreMates plan link sub senders) last are))
      | inr before ↦ old.all is group (omega arith) are
    ];
    some = old.some;
  }

  pub next_over : (many : ℕ) (over own both : Bool) (round : ℕ) (flows : List Flow) → AreMates plan link sub senders many
      → round ≡ round_of late plan link sub many → flows ≡ flows_in link sub senders many → both ≡ (over && own)
      → (own ≡ true → IsOver round flows) → (own ≡ false → link_share round flows ≤ whole_share)
      → AreOver late plan link sub senders many over → AreOver late plan link sub senders (many + 1) both
  next_over many over own both round flows are same held is more less old = record {
    all = λ told group lt of. elim (cases_eq group many) [
      | inl last ↦ subst (IsGroupOver late plan link sub senders) (sym last) (same_over round _ flows _ same held (more (both_true over own (sym is ∙ told)).1))
      | inr before ↦ old.all (both_true over own (sym is ∙ told)).0 group (omega arith) of
    ];
    some = λ told. within own refl told;
  }
    where
      within : (o : Bool) → own ≡ o → both ≡ false → (group : ℕ) × IsGroupWithin late plan link sub senders group
      within true at told = old.some (one_false over own (sym is ∙ told) at)
      within false at told = (
        many,
        (
          are,
          subst (λ (n : ℕ). link_share n (flows_in link sub senders many) ≤ whole_share) same
              (subst (λ (z : List Flow). link_share round z ≤ whole_share) held (less at)),
        ),
      )

  pub first_least : IsLeast late plan link sub senders 0 None
  first_least = record { met = tt; least = tt; none = λ group wait lt of. absurd (omega arith) }

  -- a number that is no group changes nothing
  pub same_least : (many : ℕ) (least : Option ℕ) → (AreMates plan link sub senders many → ⊥) → IsLeast late plan link sub senders many least
      → IsLeast late plan link sub senders (many + 1) least
  same_least many None never old = record {
    met = tt;
    least = tt;
    none = λ group wait lt of. elim (cases_eq group many) [
      | inl last ↦ never (subst (AreMates plan link sub senders) last of.0)
      | inr before ↦ old.none group wait (omega arith) of
    ];
  }
  same_least many (Some wait) never old = record {
    met = old.met;
    least = λ group other lt of. elim (cases_eq group many) [
      | inl last ↦ absurd (never (subst (AreMates plan link sub senders) last of.0))
      | inr before ↦ old.least group other (omega arith) of
    ];
    none = tt;
  }

  -- one group more
  pub next_least : (many : ℕ) (least : Option ℕ) (peak : Option Peak) → AreMates plan link sub senders many
      → IfSome peak (λ (p : Peak). IsGroupWait late plan link sub senders many p.wait)
      → IfNone peak ((wait : ℕ) → IsGroupWait late plan link sub senders many wait → ⊥)
      → IsLeast late plan link sub senders many least
      → IsLeast late plan link sub senders (many + 1) (least_of least (option_map (λ (p : Peak). p.wait) peak))
  next_least many None None are some none old = record {
    met = tt;
    least = tt;
    none = λ group wait lt of. elim (cases_eq group many) [
      | inl last ↦ none wait (subst (λ (g : ℕ). IsGroupWait late plan link sub senders g wait) last of)
      | inr before ↦ old.none group wait (omega arith) of
    ];
  }
  next_least many (Some one) None are some none old = record {
    met = old.met;
    least = λ group other lt of. elim (cases_eq group many) [
      | inl last ↦ absurd (none other (subst (λ (g : ℕ). IsGroupWait late plan link sub senders g other) last of))
      | inr before ↦ old.least group other (omega arith) of
    ];
    none = tt;
  }
  next_least many None (Some peak) are some none old = record {
    met = (many, some);
    least = λ group other lt of. elim (cases_eq group many) [
      | inl last ↦
          let to = subst (λ (g : ℕ). IsGroupWait late plan link sub senders g other) last of in
          one_wait _ _ _ peak.wait other some.1 to.1
      | inr before ↦ absurd (old.none group other (omega arith) of)
    ];
    none = tt;
  }
  next_least many (Some one) (Some peak) are some none old = record {
    met = elim (cases_lt peak.wait one) [
      | inl less ↦ (many, subst (IsGroupWait late plan link sub senders many) (omega arith) some)
      | inr more ↦ (old.met.0, subst (IsGroupWait late plan link sub senders old.met.0) (omega arith) old.met.1)
    ];
    least = λ group other lt of. elim (cases_eq group many) [
      | inl last ↦
          let to = subst (λ (g : ℕ). IsGroupWait late plan link sub senders g other) last of in
          let le = one_wait _ _ _ peak.wait other some.1 to.1 in
          omega arith
      | inr before ↦ (let le = old.least group other (omega arith) of in omega arith)
    ];
    none = tt;
  }

  -- one group more, by the flows that the code has
  pub step : (many : ℕ) (least : Option ℕ) (peak : Option Peak) (own flows : List Flow) (round : ℕ) → AreMates plan link sub senders many
      → own ≡ flows_of link sub senders → take (length own) flows ≡ own → drop (length own) flows ≡ flows_with link many senders
      → round ≡ round_of late plan link sub many
      → IfSome peak (λ (p : Peak). IsWaitInGroup round (take (length own) flows) (drop (length own) flows) p.wait)
      → IfNone peak ((wait : ℕ) → IsWaitInGroup round (take (length own) flows) (drop (length own) flows) wait → ⊥)
      → IsLeast late plan link sub senders many least
      → IsLeast late plan link sub senders (many + 1) (least_of least (option_map (λ (p : Peak). p.wait) peak))
  step many least None own flows round are is front back same some none old = next_least many least None are tt
      (λ wait of. none wait (same_wait _ _ _ _ _ _ wait (sym same) (sym (front ∙ is)) (sym back) of.1)) old
  step many least (Some peak) own flows round are is front back same some none old = next_least many least (Some peak) are
      (are, same_wait _ _ _ _ _ _ peak.wait same (front ∙ is) back some) tt old

-- the lesser of two waits within the limit is
pub least_short : (least : Option ℕ) (peak : Option Peak) → IfSome least (λ (w : ℕ). w ≤ 369623040000)
    → IfSome peak (λ (p : Peak). p.wait ≤ 369623040000)
    → IfSome (least_of least (option_map (λ (p : Peak). p.wait) peak)) (λ (w : ℕ). w ≤ 369623040000)
least_short None None one other = tt
least_short None (Some peak) one other = other
least_short (Some w) None one other = one
least_short (Some w) (Some peak) one other = omega arith

-- the least wait of all groups
pub sub_wait : (late : ℕ) (plan : Plan) (link : LinkPlan) (sub : ℕ) (senders : List Sender) (many : ℕ) (known : Option ℕ) (wait : ℕ)
    → have_periods link sub senders ≡ true → 16 ≤ many → known ≡ Some wait → IsLeast late plan link sub senders many known
    → IsSubWait late plan link sub senders wait
sub_wait late plan link sub senders many known wait periods whole is of =
    let at = subst (IsLeast late plan link sub senders many) is of in
    record {
      periods = periods;
      mates = at.met.0;
      met = at.met.1;
      least = λ group other to. at.least group other (let few = to.0.few in omega arith) to;
    }

pub no_sub_wait : (late : ℕ) (plan : Plan) (link : LinkPlan) (sub : ℕ) (senders : List Sender) (many : ℕ) (known : Option ℕ)
    → 16 ≤ many → known ≡ None → IsLeast late plan link sub senders many known
    → (group wait : ℕ) → IsGroupWait late plan link sub senders group wait → ⊥
no_sub_wait late plan link sub senders many known whole is of group wait to =
    let at = subst (IsLeast late plan link sub senders many) is of in
    at.none group wait (let few = to.0.few in omega arith) to

-- the backlog of a sub-VL alone
known_backlog : (round : ℕ) (own : List Flow) (peak : Option Peak)
    → IfSome peak (λ (p : Peak). drop (length own) own ≡ [] → IsBacklog round (take (length own) own) p.places)
    → IfNone peak ((wait : ℕ) → IsWaitInGroup round (take (length own) own) (drop (length own) own) wait → ⊥)
    → IsKnownBacklog round own (option_map (λ (p : Peak). p.places) peak)
known_backlog round own None some none = λ wait of. none wait
    (same_wait round round _ _ _ _ wait refl (sym (take-length own)) (sym (drop_all (length own) own (omega arith))) of)
known_backlog round own (Some peak) some none = subst (λ (z : List Flow). IsBacklog round z peak.places) (take-length own)
    (some (drop_all (length own) own (omega arith)))

pub sub_need : (late : ℕ) (plan : Plan) (link : LinkPlan) (sub : ℕ) (senders : List Sender) (own : List Flow) (round : ℕ) (peak : Option Peak)
    (backlog : Option ℕ) (wait need : ℕ) → own ≡ flows_of link sub senders → round ≡ round_of late plan link sub 0
    → IfSome peak (λ (p : Peak). drop (length own) own ≡ [] → IsBacklog round (take (length own) own) p.places)
    → IfNone peak ((w : ℕ) → IsWaitInGroup round (take (length own) own) (drop (length own) own) w → ⊥)
    → backlog ≡ option_map (λ (p : Peak). p.places) peak
    → need ≡ min (unwrap_or backlog (messages own wait)) (messages own wait)
    → IsSubWait late plan link sub senders wait → IsSubNeed late plan link sub senders need
sub_need late plan link sub senders own round peak backlog wait need is same some none held less of = record {
  wait = wait;
  is_wait = of;
  is_need = subst (λ (n : ℕ). IsNeed n (flows_of link sub senders) wait need) same
      (subst (λ (z : List Flow). IsNeed round z wait need) is (record {
        backlog = backlog;
        is_backlog = subst (IsKnownBacklog round own) (sym held) (known_backlog round own peak some none);
        less = less;
      }));
}

-- a sub-VL without a flow
pub no_flows : (own : List Flow) → length own ≡ 0 → own ≡ []
no_flows [] none = refl
no_flows (f ∷ own) none = absurd (omega arith)

pub nothing_waits : (late : ℕ) (plan : Plan) (link : LinkPlan) (sub : ℕ) (senders : List Sender) → flows_of link sub senders ≡ []
    → (group wait : ℕ) → IsGroupWait late plan link sub senders group wait → ⊥
nothing_waits late plan link sub senders none group wait of =
    let met = of.1.met in
    let some : 1 ≤ arrived [] met.0 = subst (λ (z : List Flow). 1 ≤ arrived z met.0) none met.2.some in
    absurd (omega arith)

pub nothing_within : (late : ℕ) (plan : Plan) (link : LinkPlan) (sub : ℕ) (senders : List Sender) → flows_of link sub senders ≡ []
    → (group : ℕ) × IsGroupWithin late plan link sub senders group
nothing_within late plan link sub senders none = (
  0,
  (
    alone plan link sub senders,
    subst (λ (z : List Flow). link_share (round_of late plan link sub 0) z ≤ whole_share) (sym (alone_flows link sub senders ∙ none)) (omega arith),
  ),
)
