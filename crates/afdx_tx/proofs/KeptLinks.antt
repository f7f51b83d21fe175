-- Links one of whose sub-VLs has changed, or only their queues, and the counts published of them.
use Rattle.afdx_tx.proofs.Names.{ℕ, ◌≡◌, ◌<◌, List, length, arith, refl, sym, subst, Plan, Entry, Lines, log, taken_of, Held, LinkState, held_at, link_at, HasOwnItems, IsLinkOfPlan, taken_by, IsKept, IsSound, set, length-set, get_or-set_other, each_set, no_link, ◌≤◌, [], Published, published, with_entry, Reaches}
use Rattle.afdx_tx.proofs.SoundEmitter.{plans_after}

-- a sub-VL whose queue may have changed, without any message taken
pub record KeepsSub (old new : Held) : Type 0 where
  pub of : new.of ≡ old.of
  pub ports : new.ports ≡ old.ports
  pub left : new.left ≡ old.left
  pub taken : taken_of new.seen ≡ taken_of old.seen
  pub items : HasOwnItems old → HasOwnItems new

-- a link whose queues may have changed
pub record KeepsLink (old new : LinkState) : Type 0 where
  pub same : new ≡ record old { subs = new.subs }
  pub count : length new.subs ≡ length old.subs
  pub each : (s : ℕ) → s < length old.subs → KeepsSub (held_at old.subs s) (held_at new.subs s)

-- links whose queues may have changed
pub record KeepLinks (old new : List LinkState) : Type 0 where
  pub count : length new ≡ length old
  pub each : (k : ℕ) → k < length old → KeepsLink (link_at old k) (link_at new k)

-- The messages taken are the same.
taken_by_same : (old new : Held) → KeepsSub old new → taken_by new ≡ taken_by old
taken_by_same old new s = cc

-- The link keeps its invariant with a log.
kept_same : (old new : LinkState) (log : List Entry) → KeepsLink old new
    → IsLinkOfPlan old.end_system old.plan old.pace old.subs → IsKept old log → IsKept new log
kept_same old new log g own kept =
    let within : (s : ℕ) → s < old.plan.sub_vls → s < length old.subs = grind arith in
    subst (λ (l : LinkState). IsKept l log) (sym g.same)
    (record {
      numbered = kept.numbered;
      spaced = kept.spaced;
      prefixes = λ s lt. rw (taken_by_same _ _ (g.each s (within s lt))) (kept.prefixes s lt);
      chosen = kept.chosen;
      paced = kept.paced;
      tied = grind arith;
      behind = grind arith;
      counted = kept.counted;
    })

-- The emitter is still sound.
pub kept_sound : (config : Plan) (old new : List LinkState) (lines : Lines) (moment : ℕ) → KeepLinks old new
    → IsSound config old lines moment → IsSound config new lines moment
kept_sound config old new lines moment g s =
    record {
      valid = s.valid;
      of_plan = plans_after config old new s.of_plan
          (grind arith) (grind arith);
      kept = grind (arith, kept_same);
      later = grind arith;
      mirrored = s.mirrored;
      known = s.known;
      carried = s.carried;
      whole = grind arith;
      items = grind arith;
    }

module _ (links : List LinkState) (k s : ℕ) (new : LinkState) (within : k < length links)
    (same : new ≡ record (link_at links k) { subs = set (link_at links k).subs s (held_at new.subs s) }) where
  subs_are : new.subs ≡ set (link_at links k).subs s (held_at new.subs s)
  subs_are = cc

  -- Each link is the same apart from its sub-VLs.
  pub one_link : (m : ℕ) → link_at (set links k new) m ≡ record (link_at links m) { subs = (link_at (set links k new) m).subs }
  one_link m = each_set (λ i l. l ≡ record (link_at links i) { subs = l.subs }) links k new no_link within
      (grind arith) (λ i ne. refl) m

  -- Each link has the same number of sub-VLs.
  pub one_count : (m : ℕ) → length (link_at (set links k new) m).subs ≡ length (link_at links m).subs
  one_count m = each_set (λ i l. length l.subs ≡ length (link_at links i).subs) links k new no_link within
      (grind (arith, subs_are, length-set, link_at, held_at)) (λ i ne. refl) m

  -- A reflexive relation that holds of the changed sub-VL holds of all.
  pub one_each : (R : Held → Held → Type 0) → ((held : Held) → R held held) → R (held_at (link_at links k).subs s) (held_at new.subs s)
      → (m t : ℕ) → R (held_at (link_at links m).subs t) (held_at (link_at (set links k new) m).subs t)
  one_each R itself changed m t = each_set (λ i l. R (held_at (link_at links i).subs t) (held_at l.subs t)) links k new
      no_link within
      (grind (arith, subs_are, get_or-set_other)) (grind arith) m

-- the counts of the first links were published, and the others are unchanged
pub record IsPublishing (links : List LinkState) (old new : List Published) (many : ℕ) : Type 0 where
  pub count : length new ≡ length old
  pub first : (k : ℕ) → k < many → published new k ≡ with_entry (published old k) (link_at links k).counts
  pub rest : (k : ℕ) → many ≤ k → published new k ≡ published old k

-- With nothing published, no published count is above the current one.
pub reaches_none : (links : List LinkState) (board : List Published) → length board ≡ length links
    → ((k : ℕ) → (published board k).history ≡ []) → Reaches links board
reaches_none links board count none = grind arith
