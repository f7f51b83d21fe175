-- The turns of a drain, and whether all accepted messages are wholly released.
use Rattle.afdx_tx.proofs.Names.{ℕ, ◌≡◌, ◌<◌, List, Bool, true, false, length, arith, both_ways, cases_Bool, Plan, Entry, Lines, log, IsKnownWhole, LinkState, held_at, link_at, no_link, IsKept, IsSound, Owes, IsAllDone, AreGathered, accepted_in, TellsAllDone, IsOwn, subst, Served, AreTurns, held_view, IsTurn, IsTurnAt, IsRun, AreLinksOf, accepted_view, pace_in, Drains, DrainsAt, IsDrained, turn_seen, turns_seen, TellsLinkDone}
use Rattle.afdx_tx.proofs.SoundEmitter.{plan_is, count_is}
use Rattle.afdx_tx.proofs.OwedFragments.{stands_of, lists_of, all_released, owes_taken, owes_rest, owes_not, asked_owes}

-- the accepted messages of the link are known whole
abbrev pub IsLinkGathered : LinkState → Type 0
IsLinkGathered link = (s : ℕ) → s < length link.subs → IsKnownWhole (held_at link.subs s).seen

-- One turn of a link.
drain_turn : (now end_system : ℕ) (link new : LinkState) (lines after : Lines) (did : Served)
    → link.end_system ≡ end_system → IsOwn link → IsLinkGathered link → IsTurn now link new lines after did
    → Drains now end_system link.plan (lists_of link.subs) lines after did
drain_turn now end_system link new lines after did e own g t =
    rw (← e) (turn_seen now link.plan (pace_in link.plan (log lines)) (held_view link.subs new.subs)
    (accepted_view link.end_system link.plan (lists_of link.subs) (log lines)) lines after did
    (λ s rests. tt)
    (λ may.
    let at = λ (s : ℕ) (lt : s < link.plan.sub_vls). let within : s < length link.subs = grind arith in
    stands_of link (log lines) s own (grind arith) within (g s within) in
    record {
      lacks = grind (arith, all_released);
      rests = λ s e. tt;
      gives = λ s frame lt f. asked_owes link.end_system link.plan (log lines) s link.subs f.mid (at s lt) f.asked;
    })
    (grind arith))

-- The turn of the link at a place.
drains_at : (now : ℕ) (config : Plan) (links news : List LinkState) → AreLinksOf config links → AreGathered links
    → (k : ℕ) → k < length links → (lines after : Lines) (did : Served) → IsTurnAt now links news k lines after did
    → DrainsAt now config (accepted_in links) k lines after did
drains_at now config links news of g k lt lines after did t =
    rw (plan_is config links of k lt)
    (drain_turn now config.end_system (link_at links k) (link_at news k) lines after did
    (of.end_system k lt) (of.each k lt) (λ s slt. g k s lt slt) t)

-- A poll.
pub run_drained : (now : ℕ) (config : Plan) (links news : List LinkState) (lines after : Lines)
    → AreLinksOf config links → AreGathered links → IsRun now links news lines after
    → IsDrained now config (accepted_in links) lines after
run_drained now config links news lines after of g r =
    subst (λ (n : ℕ). AreTurns (DrainsAt now config (accepted_in links)) 0 n lines after) (count_is config links of)
    (turns_seen (IsTurnAt now links news) (DrainsAt now config (accepted_in links)) 0 (length links) lines after
    (λ k from lt before behind did t. drains_at now config links news of g k (omega arith) before behind did t) r.turns)

-- a sub-VL of the link isn't wholly released
pub record HasOwing (link : LinkState) (log : List Entry) : Type 0 where
  pub sub : ℕ
  pub within : sub < link.plan.sub_vls
  pub owes : Owes link.end_system link.plan (lists_of link.subs) log sub

-- A link that isn't done owes a fragment.
link_owes : (link : LinkState) (log : List Entry) → IsOwn link → IsKept link log → IsLinkGathered link
    → TellsLinkDone false link → HasOwing link log
link_owes link log own kept g d = grind (arith, cases_Bool, owes_taken, stands_of, owes_rest, both_ways)

-- If one isn't, some message isn't wholly released.
done_false : (config : Plan) (links : List LinkState) (lines : Lines) (moment : ℕ)
    → IsSound config links lines moment → AreGathered links → TellsAllDone false links
    → IsAllDone config (accepted_in links) (log lines) → ⊥
done_false config links lines moment sound g d all =
    let k = d.0 in
    let link = link_at links k in
    let owing = link_owes link (log lines) (grind arith) (sound.kept k d.1)
    (λ s slt. g k s d.1 slt) (d.2 no_link) in
    let all = all k (grind (arith, count_is)) in
    let done = rw (plan_is config links sound.of_plan k d.1, ← sound.of_plan.end_system k d.1) at all in
    owes_not link.end_system link.plan (lists_of link.subs) (log lines) owing.sub owing.owes
    (grind arith)

-- All links are done exactly if all accepted messages are wholly released.
pub all_done : (done : Bool) (config : Plan) (links : List LinkState) (lines : Lines) (moment : ℕ)
    → IsSound config links lines moment → AreGathered links → TellsAllDone done links
    → (done ≡ true → IsAllDone config (accepted_in links) (log lines))
    × (IsAllDone config (accepted_in links) (log lines) → done ≡ true)
all_done true config links lines moment s g d = grind (arith, count_is, plan_is, all_released, stands_of)
all_done false config links lines moment s g d =
    (grind arith, (λ all. absurd (done_false config links lines moment s g d all)))
