-- An emitter after the turns of its links.
use Rattle.afdx_tx.proofs.Names.{ℕ, ◌≡◌, ◌<◌, List, length, arith, ap, ◌∙◌, Bool, LinkPlan, Plan, IsPlan, link_plan_at, Lines, log, IsMirrored, Keeps, IsLegal, counts_in, own_stream, AreOwnStreams, LinkState, link_at, no_link, held_at, nothing_held, plan_of_link, AreLinks, AreApart, AreLinksOf, AreWhole, IsSound, taken_in, held_queue, link_queues, queues_in, AreCarried, IsSteady, Net, A, B, Entry, true, with_failing, mirrored_failing, TakeTurnsOn, TakeTurns, turns_side, takes_turns}
use Rattle.afdx_tx.proofs.LegalLists.{legal_of}
use Rattle.afdx_tx.proofs.OwnStreams.{own_streams}
use Rattle.afdx_tx.proofs.PollTurns.{map_alike, plan_at_is, plans_length}
use Rattle.afdx_tx.proofs.HandedFronts.{front_of}

-- the links have the same plans, and their sub-VLs the same ports
pub record KeepPlans (old new : List LinkState) : Type 0 where
  pub count : length new ≡ length old
  pub end_system : (k : ℕ) → k < length old → (link_at new k).end_system ≡ (link_at old k).end_system
  pub plan : (k : ℕ) → k < length old → (link_at new k).plan ≡ (link_at old k).plan
  pub subs : (k : ℕ) → k < length old → length (link_at new k).subs ≡ length (link_at old k).subs
  pub ports : (k s : ℕ) → k < length old → s < length (link_at old k).subs
      → (held_at (link_at new k).subs s).ports ≡ (held_at (link_at old k).subs s).ports

-- They are still those of the plan.
pub plans_after : (config : Plan) (old new : List LinkState) → AreLinksOf config old → KeepPlans old new → AreLinks new
    → AreLinksOf config new
plans_after config old new of keep each = record {
  each_plan = map_alike plan_of_link new old no_link keep.count keep.plan ∙ of.each_plan;
  end_system = grind arith;
  each = each;
  ports = grind arith;
}

-- The entry of a link, from the plan.
pub plan_is : (config : Plan) (links : List LinkState) → AreLinksOf config links → (k : ℕ) → k < length links
    → link_plan_at config.links k ≡ (link_at links k).plan
plan_is config links of k lt = grind (arith, link_plan_at, plan_at_is)

-- There are as many links as the plan has.
pub count_is : (config : Plan) (links : List LinkState) → AreLinksOf config links → length links ≡ length config.links
count_is config links of = grind (arith, plans_length)

-- The identifiers of a valid plan's links differ.
pub links_apart : (config : Plan) (links : List LinkState) → IsPlan config → AreLinksOf config links → AreApart links
links_apart config links valid of i j ilt jlt e =
    let n = count_is config links of in
    let id = λ (k : ℕ) (lt : k < length links). ap (λ (p : LinkPlan). p.id) (plan_is config links of k lt) in
    grind arith

-- The emitter is still sound.
pub sound_after : (config : Plan) (old new : List LinkState) (lines : Lines) (now : ℕ) → IsPlan config
    → AreLinksOf config old → IsSteady now old new lines → IsMirrored lines
    → AreWhole new lines → IsSound config new lines now
sound_after config old new lines now valid of s mirrored whole =
    record {
      valid = valid;
      of_plan = plans_after config old new of (grind arith) s.each;
      kept = s.kept;
      later = s.later;
      mirrored = mirrored;
      known = grind arith;
      carried = grind arith;
      whole = whole;
      items = s.items;
    }

module _ (config : Plan) (links : List LinkState) (lines : Lines) (moment : ℕ) (s : IsSound config links lines moment)
  where
    plan_here : (k : ℕ) → k < length config.links → link_plan_at config.links k ≡ (link_at links k).plan
    plan_here k lt = grind (arith, plan_is, count_is)

    -- The frames of both networks are legal for the messages taken.
    pub sound_legal : IsLegal config (taken_in links) lines.a lines.b
    sound_legal =
        let n = count_is config links s.of_plan in
        legal_of config (taken_in links) lines s.valid s.mirrored s.carried (record {
          known = s.known;
          numbered = grind (arith, plan_here);
          spaced = grind (arith, plan_here);
          prefixes = λ k t lt tlt. rw (plan_here k lt, ← s.of_plan.end_system k (omega arith))
              ((s.kept k (omega arith)).prefixes t (rw (plan_here k lt) at tlt));
        })

    -- Each link's stream is the longer of its two.
    pub sound_streams : AreOwnStreams config (log lines) lines.a lines.b
    sound_streams = grind (arith, own_streams)

    -- The counts of each link are those of its own stream.
    pub sound_counts : (k : ℕ) → k < length links
        → (link_at links k).counts ≡ counts_in (own_stream (link_plan_at config.links k).id.0 lines.a lines.b)
    sound_counts k lt = grind (arith, count_is, plan_here, sound_streams)

-- The queues of all links are the same if those of the sub-VLs are.
pub alike_queues : (old new : List LinkState) → length new ≡ length old
    → ((k : ℕ) → k < length old → length (link_at new k).subs ≡ length (link_at old k).subs)
    → ((k s : ℕ) → k < length old → held_queue (held_at (link_at new k).subs s) ≡ held_queue (held_at (link_at old k).subs s))
    → queues_in new ≡ queues_in old
alike_queues old new count subs each = map_alike link_queues new old no_link count
    (λ k lt. map_alike held_queue (link_at new k).subs (link_at old k).subs nothing_held (subs k lt) (λ s _. each k s lt))

-- The frames of a network take turns if the log does.
turns_keeps : (plan : Plan) (net : Net) (stands : Bool) (handed : List Entry) (lines : Lines) → Keeps net stands handed lines.logged
    → AreCarried plan.links lines.logged → TakeTurnsOn plan (log lines) → TakeTurnsOn plan handed
turns_keeps plan net stands handed lines keeps carried turns k klt =
    let f = front_of net stands handed lines (link_plan_at plan.links k).id.0 (link_plan_at plan.links k).networks keeps (carried k klt) in
    grind (arith, turns_side)

-- The frames of both networks take turns.
pub sound_turns : (config : Plan) (links : List LinkState) (lines : Lines) (moment : ℕ)
    → IsSound config links lines moment → TakeTurns config lines.a lines.b
sound_turns config links lines moment s =
    let n = count_is config links s.of_plan in
    let turns : TakeTurnsOn config (log lines) = λ k klt. rw (plan_is config links s.of_plan k (omega arith))
    (grind (arith, takes_turns)) in
    record {
      on_a = turns_keeps config A lines.a_stands lines.a lines s.mirrored.first s.carried turns;
      on_b = turns_keeps config B lines.b_stands lines.b lines s.mirrored.second s.carried turns;
    }

-- An emitter is sound whichever of its networks was made to fail.
pub sound_failing : (config : Plan) (links : List LinkState) (lines : Lines) (moment : ℕ) (p q : Bool)
    → IsSound config links lines moment → IsSound config links (record lines { a_failing = p; b_failing = q }) moment
unfolding log
sound_failing config links lines moment p q s = record {
  valid = s.valid;
  of_plan = s.of_plan;
  kept = s.kept;
  later = s.later;
  mirrored = mirrored_failing lines p q s.mirrored;
  known = s.known;
  carried = s.carried;
  whole = s.whole;
  items = s.items;
}

-- So it is once one of them is made to fail.
pub sound_with_failing : (config : Plan) (links : List LinkState) (lines : Lines) (moment : ℕ) (net : Net)
    → IsSound config links lines moment → IsSound config links (with_failing net lines) moment
sound_with_failing config links lines moment A s = sound_failing config links lines moment true lines.b_failing s
sound_with_failing config links lines moment B s = sound_failing config links lines moment lines.a_failing true s
