-- Twins wanted: a frame through the packets after it, and the law.
use Rattle.afdx_laws.proofs.JudgeNames.{has_check, All-contains, is_twin, Contains, Finding, IsInOrder, IsPlan, Link, LinkPlan, List, Nearness, Net, OnNet, Options, Plan, Times, Wait, ap, apart, arith, cases_Bool, cases_eq, false, filter, findings, found_at_end, found_from, found_left, found_with_end, inl, inr, is_both, is_left, length, length-replicate, link_at, link_in, link_plan_at, nat_tests, nearness_of, new_link, no_times, number_in, refl, same_net, subst, suc, sym, tag_of, time_of, times_with, true, twin_number, twin_of, zero, ℕ, [], ◌*◌, ◌+◌, ◌<◌, ◌∙◌, ◌∷◌, ◌≡◌, ◌≤◌, ◌⊎◌, HasTwin, TwinsWanted}
use Rattle.afdx_laws.proofs.Begin.{link_is_new, links_at_start, own_options}
use Rattle.afdx_laws.proofs.Line.{of_profile}
use Rattle.afdx_laws.proofs.Meeting.{IsFrameOn, IsPacketOf, comes, frame_on, its, links_now, met, near, none_now, now, others_now, packets_now, size_now, time, wait_of, waiting_now, waits_on}
use Rattle.afdx_laws.proofs.ReadFrames.{back_none}
use Rattle.afdx_laws.proofs.Recording.{judge_of, same_self, vl_of}
use Rattle.afdx_laws.proofs.SentTo.{end_none}
use Rattle.afdx_laws.proofs.Wanted.{AreAlike, IsHeard, IsIn, alike_back, alike_twin, contains_in, fails_in, heard_after, heard_before, heard_now, heard_on, in_contains, none_told}
use Rattle.afdx_laws.proofs.Whole.{in_order_all}

-- ---- the end

left_none : (nearness : Nearness) (plans : List LinkPlan) (links : List Link) (k : ℕ) (found : List Finding) → length links ≡ length plans
    → found_left nearness plans links found ≡ [] → k < length plans → filter (is_left nearness) (link_at links k).twins.waiting ≡ []
unfolding found_at_end
left_none nearness [] links k found size none inside = absurd (omega arith)
left_none nearness (plan ∷ plans) [] k found size none inside = absurd (omega arith)
left_none nearness (plan ∷ plans) (link ∷ links) zero found size none inside =
    none_told plan.id _ (back_none found _ (end_none nearness plans links _ none))
left_none nearness (plan ∷ plans) (link ∷ links) (suc k) found size none inside =
    left_none nearness plans links k _ (omega arith) none (omega arith)

-- ---- the packets

-- a packet of the other network than this one came, or is to come
abbrev pub IsHeardOf : Net → OnNet → Times → List OnNet → Type 0
IsHeardOf net q times ps = IsHeard net (time_of q.packet) times ⊎ IsIn q ps

heard_next : (net : Net) (q p : OnNet) (at : ℕ) (times : Times) (ps : List OnNet) → same_net q.net net ≡ false → time_of p.packet ≡ at
    → IsHeardOf net q times (p ∷ ps) → IsHeardOf net q (times_with p.net at times) ps
heard_next net q p at times ps other is (inl heard) = inl (heard_on net p.net (time_of q.packet) at times heard)
heard_next net q p at times ps other is (inr (inr later)) = inr later
heard_next net q p at times ps other is (inr (inl same)) =
    inl (subst (λ (t : ℕ). IsHeard net t (times_with p.net at times)) (sym is ∙ ap (λ (x : OnNet). time_of x.packet) same)
    (heard_now net p.net at times (ap (λ (x : OnNet). same_net x.net net) same ∙ other)))

-- a frame that waits has met its twin
record IsMet (options : Options) (recording : List OnNet) (w : Wait) : Type 0 where
  q : OnNet
  member : Contains recording q
  frame : IsFrameOn q
  net : same_net w.tag.net q.net ≡ false
  close : apart w.tag.at (time_of q.packet) ≤ 1000 * options.skew
  alike : AreAlike w.bytes q.packet.bytes

-- what a twin is
twin_says : (options : Options) (now : Times) (p : OnNet) (at : ℕ) (frame : List ℕ) (w : Wait)
    → is_twin (nearness_of (of_profile options) now) (tag_of p.net p.number at) (number_in frame) w ≡ true
    → (same_net w.tag.net p.net ≡ false) × (apart w.tag.at at ≤ 1000 * options.skew)
twin_says options now p at frame w is = grind (arith, nat_tests, cases_Bool)

-- a link on both networks, in a recording of bytes
module _ (plan : Plan) (options : Options) (recording : List OnNet) (plain : (x : OnNet) → Contains recording x → has_check options x.packet ≡ false) (k : ℕ) (inside : k < length plan.links)
    (both : is_both (link_plan_at plan.links k).networks ≡ true) where
  -- a frame whose twin is wanted meets it in the packets that are left
  follow : (ps : List OnNet) (times : Times) (links : List Link) (w : Wait) (b : ℕ) (a : OnNet) → length links ≡ length plan.links
      → ((x : OnNet) → IsIn x ps → Contains recording x) → IsIn w (link_at links k).twins.waiting → IsHeard w.tag.net b times
      → b + 1000 * options.skew < w.tag.at → same_net a.net w.tag.net ≡ false → w.tag.at + 1000 * options.skew < time_of a.packet
      → IsHeardOf w.tag.net a times ps → found_from ps (judge_of plan options times false links) [] ≡ [] → IsMet options recording w
  unfolding found_with_end
  follow [] times links w b a size rest waits heard earlier other later (inr none_left) none = absurd none_left
  follow [] times links w b a size rest waits heard earlier other later (inl last) none =
      let nearness : Nearness = nearness_of (of_profile options) times in
      let before = heard_before (of_profile options) times w.tag b heard earlier in
      let after = heard_after (of_profile options) times w.tag (time_of a.packet) last later in
      let fails = fails_in (is_left nearness) w _ (left_none nearness plan.links links k [] size none inside) waits in
      absurd (cc (fails, before, after))
  follow (x ∷ xs) times links w b a size rest waits heard earlier other later comes_later none =
      let q = its plan options times links x xs (plain x (rest x (inl refl))) size none in
      let heard_then = heard_on w.tag.net x.net b q.at times heard in
      let go_on = λ (still : IsIn w (link_at (links_now plan options times links x xs (plain x (rest x (inl refl))) size none) k).twins.waiting).
      follow xs (now plan options times links x xs (plain x (rest x (inl refl))) size none) (links_now plan options times links x xs (plain x (rest x (inl refl))) size none) w b a
      (size_now plan options times links x xs (plain x (rest x (inl refl))) size none) (λ y is. rest y (inr is)) still heard_then earlier other later
      (heard_next w.tag.net a x q.at times xs other (time plan options times links x xs (plain x (rest x (inl refl))) size none) comes_later)
      (none_now plan options times links x xs (plain x (rest x (inl refl))) size none) in
      elim (cases_eq k q.k) [
        | inl same ↦
            let own = rw same at both in
            elim (waits_on (near plan options times links x xs (plain x (rest x (inl refl))) size none) (tag_of x.net x.number q.at) x.packet.bytes
            (link_at links q.k).twins (met plan options times links x xs (plain x (rest x (inl refl))) size none own) w (rw same at waits)
            (heard_before (of_profile options) (now plan options times links x xs (plain x (rest x (inl refl))) size none) w.tag b heard_then earlier)) [
              | inl still ↦ go_on (rw same (rw (waiting_now plan options times links x xs (plain x (rest x (inl refl))) size none own) still))
              | inr meets ↦
                  let says = twin_says options (now plan options times links x xs (plain x (rest x (inl refl))) size none) x q.at x.packet.bytes w meets.twin in
                  record {
                    q = x;
                    member = rest x (inl refl);
                    frame = frame_on plan options times links x xs (plain x (rest x (inl refl))) size none;
                    net = says.0;
                    close = rw (time plan options times links x xs (plain x (rest x (inl refl))) size none) says.1;
                    alike = meets.alike;
                  }
            ]
        | inr apart ↦ go_on (rw (others_now plan options times links x xs (plain x (rest x (inl refl))) size none k apart) waits)
      ]

  -- ---- the packet

  module _ (valid : IsPlan plan) (p b a : OnNet) (member : Contains recording p) (its_link : link_in p.packet.bytes ≡ (link_plan_at plan.links k).id.0)
      (b_other : same_net b.net p.net ≡ false) (earlier : time_of b.packet + 1000 * options.skew < time_of p.packet)
      (a_other : same_net a.net p.net ≡ false) (later : time_of p.packet + 1000 * options.skew < time_of a.packet) where
    twin_with : (q : OnNet) → Contains recording q → IsFrameOn q → IsFrameOn p → same_net q.net p.net ≡ false
        → apart (time_of q.packet) (time_of p.packet) ≤ 1000 * options.skew → AreAlike p.packet.bytes q.packet.bytes
        → HasTwin options recording p
    twin_with q is of_q of_p other close alike =
        let twin : q.packet.bytes ≡ twin_of q.net p.packet.bytes =
        alike_twin q.net p.packet.bytes q.packet.bytes alike of_p.long of_q.long of_q.interface in
        record {
          twin = q;
          has = record { member = is; net = other };
          near = close;
          frame = twin;
          number = ap number_in twin ∙ twin_number q.net p.packet.bytes of_p.long;
        }

    by_met : (w : Wait) → w.tag.net ≡ p.net → w.tag.at ≡ time_of p.packet → w.bytes ≡ p.packet.bytes → IsFrameOn p → IsMet options recording w
        → HasTwin options recording p
    by_met w net at bytes of_p met_by = twin_with met_by.q met_by.member met_by.frame of_p
        (let apart_is = met_by.net in grind (arith, nat_tests)) (let close = met_by.close in grind (arith, nat_tests))
        (subst (λ (f : List ℕ). AreAlike f met_by.q.packet.bytes) bytes met_by.alike)

    -- the packet comes
    arrives : (ps : List OnNet) (times : Times) (links : List Link) → length links ≡ length plan.links
        → ((x : OnNet) → IsIn x (p ∷ ps) → Contains recording x)
        → ((w : Wait) → IsIn w (link_at links k).twins.waiting → IsPacketOf recording w)
        → IsHeard p.net (time_of b.packet) times → IsHeardOf p.net a times (p ∷ ps)
        → found_from (p ∷ ps) (judge_of plan options times false links) [] ≡ [] → HasTwin options recording p
    arrives ps times links size rest waits heard comes_later none =
        let q = its plan options times links p ps (plain p (rest p (inl refl))) size none in
        let at : time_of p.packet ≡ q.at = time plan options times links p ps (plain p (rest p (inl refl))) size none in
        let of_p = frame_on plan options times links p ps (plain p (rest p (inl refl))) size none in
        let same : k ≡ q.k = valid.links_apart k q.k inside q.admitted.placed.within (ap vl_of (sym its_link ∙ q.admitted.placed.link)) in
        let own = rw same at both in
        elim (comes (near plan options times links p ps (plain p (rest p (inl refl))) size none) (tag_of p.net p.number q.at) p.packet.bytes (link_at links q.k).twins
        (met plan options times links p ps (plain p (rest p (inl refl))) size none own)) [
          | inl new ↦ by_met (wait_of (tag_of p.net p.number q.at) p.packet.bytes) refl (sym at) refl of_p
              (follow ps (now plan options times links p ps (plain p (rest p (inl refl))) size none) (links_now plan options times links p ps (plain p (rest p (inl refl))) size none)
              (wait_of (tag_of p.net p.number q.at) p.packet.bytes) (time_of b.packet) a
              (size_now plan options times links p ps (plain p (rest p (inl refl))) size none) (λ y is. rest y (inr is))
              (rw same (rw (waiting_now plan options times links p ps (plain p (rest p (inl refl))) size none own) new))
              (heard_on p.net p.net (time_of b.packet) q.at times heard) (rw at at earlier) a_other (rw at at later)
              (heard_next p.net a p q.at times ps a_other at comes_later) (none_now plan options times links p ps (plain p (rest p (inl refl))) size none))
          | inr old ↦
              let w : Wait = old.0 in
              let of = waits w (rw same old.1.waited) in
              let says = twin_says options (now plan options times links p ps (plain p (rest p (inl refl))) size none) p q.at p.packet.bytes w old.1.twin in
              twin_with of.packet of.member of.frame of_p (rw of.net at says.0) (rw (at, ← of.at) says.1)
              (alike_back of.packet.packet.bytes p.packet.bytes (subst (λ (f : List ℕ). AreAlike f p.packet.bytes) of.bytes old.1.alike))
        ]

    not_later : (ps : List OnNet) (latest : ℕ) → IsInOrder latest (p ∷ ps) → IsIn b (p ∷ ps) → ⊥
    not_later ps latest order (inl same) = cc (same, b_other, same_self p.net)
    not_later ps latest order (inr is) =
        let up = All-contains (λ (x : OnNet). time_of p.packet ≤ time_of x.packet) ps b (in_order_all (time_of p.packet) ps order.1) (in_contains b ps is) in
        omega (arith, up, earlier)

    finds : (ps : List OnNet) (times : Times) (links : List Link) (latest : ℕ) → length links ≡ length plan.links
        → ((x : OnNet) → IsIn x ps → Contains recording x)
        → ((w : Wait) → IsIn w (link_at links k).twins.waiting → IsPacketOf recording w) → IsIn p ps
        → IsHeardOf p.net b times ps → IsHeardOf p.net a times ps → IsInOrder latest ps
        → found_from ps (judge_of plan options times false links) [] ≡ [] → HasTwin options recording p
    finds [] times links latest size rest waits is before after order none = absurd is
    finds (x ∷ xs) times links latest size rest waits (inl same) before after order none =
        by (subst (λ (y : OnNet). IsInOrder latest (y ∷ xs)) same order) (subst (λ (y : OnNet). IsHeardOf p.net b times (y ∷ xs)) same before)
      where
        by : IsInOrder latest (p ∷ xs) → IsHeardOf p.net b times (p ∷ xs) → HasTwin options recording p
        by ordered (inr is) = absurd (not_later xs latest ordered is)
        by ordered (inl heard) = arrives xs times links size (subst (λ (y : OnNet). (z : OnNet) → IsIn z (y ∷ xs) → Contains recording z) same rest)
            waits heard (subst (λ (y : OnNet). IsHeardOf p.net a times (y ∷ xs)) same after)
            (subst (λ (y : OnNet). found_from (y ∷ xs) (judge_of plan options times false links) [] ≡ []) same none)
    finds (x ∷ xs) times links latest size rest waits (inr is) before after order none =
        let q = its plan options times links x xs (plain x (rest x (inl refl))) size none in
        let at = time plan options times links x xs (plain x (rest x (inl refl))) size none in
        finds xs (now plan options times links x xs (plain x (rest x (inl refl))) size none) (links_now plan options times links x xs (plain x (rest x (inl refl))) size none) (time_of x.packet)
        (size_now plan options times links x xs (plain x (rest x (inl refl))) size none) (λ y in_xs. rest y (inr in_xs))
        (packets_now plan options times links x xs (plain x (rest x (inl refl))) size none recording k both (rest x (inl refl)) waits) is
        (heard_next p.net b x q.at times xs b_other at before) (heard_next p.net a x q.at times xs a_other at after) order.1
        (none_now plan options times links x xs (plain x (rest x (inl refl))) size none)

pub twins_wanted_holds : TwinsWanted
twins_wanted_holds plan options recording p valid profile plain order none member on common =
    finds plan options recording (λ x is. All-contains (λ (p : OnNet). has_check options p.packet ≡ false) recording x plain is) on.k on.within on.both valid p common.before common.after member on.link common.has_before.net common.earlier
    common.has_after.net common.later recording no_times (links_at_start plan options) 0 (length-replicate (length plan.links) (new_link options.late false))
    (λ x is. in_contains x recording is)
    (λ w is. absurd (subst (λ (l : Link). IsIn w l.twins.waiting) (link_is_new plan options on.k on.within) is))
    (contains_in p recording member) (inr (contains_in common.before recording common.has_before.member))
    (inr (contains_in common.after recording common.has_after.member)) order
    (subst (λ o. findings plan o recording ≡ []) (own_options options profile) none)
