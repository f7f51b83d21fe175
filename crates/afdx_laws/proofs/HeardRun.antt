-- What an emitter was told of the messages sent, it finds.
use Rattle.afdx_laws.proofs.RunNames.{ℕ, zero, suc, ◌≡◌, ◌⊎◌, ◌<◌, ◌≤◌, List, [], ◌∷◌, ◌++◌, length, true, false, arith, ap, sym, subst, ◌∙◌, refl, Option, Some, None, inl, inr, ⊎_elim, both_ways, and_from, LinkPlan, Entry, entry, Lines, any_up, log, is_due, turn_of, latest, link_stream, blanked, Held, Passes, held_at, held_view, link_at, pace_of, message_fragments, sent_of, GivesFrame, taken_of, receiving, Seen, Turn, turn_at, turn_endures, other_turn, stream_more, Served, Nothing, Released, Lost, Plan, IsPlan, link_plan_at, IsTurnAt, stream_at, EmitterPolls, seen_of, stood_before, dec_le, ReceiverView, HasAt, Heeds, FindsNothing, Finds, Asks, IsNextIn, HasAs, ReleasesHeard, HeardIsFound, gathered, get_or, AreQueued, taken_in, Tx, IsReady, IsRun, PortView, IsPortOfTx, Accepts, HearsTx, Hears, ChangesQueue, place_of, held_for, port_plan_at, SenderView, IsPlaced, IsLast, FindsSent, heard_from, brought_by, has_sent, hears_last, hears_sent, last_is, ports_of, link_within, Networks, is_alive, Result, Ok, Err, IsErr, OnErr, OnOk, and_parts, or_cases, or_left, or_right}
use Rattle.afdx_laws.proofs.KeepReady.{kept_ready}
use Rattle.afdx_laws.proofs.PollStep.{IsSeen, StandsAt, emitter_view, emitter_turns, gap_at, subs_at}

-- The result of a poll of the queue is its next message.
next_hit : (r : ReceiverView) (hit : Option (ℕ × List ℕ)) (item : ℕ × List ℕ)
    → HasAt r.heard (length r.taken) item ⊎ ((r.ports ≡ 1) × HasAs r.heard (length r.taken) item) → Heeds r hit → hit ≡ Some item
next_hit r hit item (inl at) h = h.heard item at
next_hit r hit item (inr only) h = let s = only.1 in
    h.heard item (s.0, s.1, (length r.taken, s.2, h.alone only.0 s.0 s.1 (length r.taken) s.2, s.3))

finds_nothing : (old new : Seen) (r : ReceiverView) → old ≡ receiving r → FindsNothing old new → Heeds r None
finds_nothing old new r is f = let g = subst (λ (seen : Seen). FindsNothing seen new) is f in g.1

finds_message : (old new : Seen) (r : ReceiverView) (message : ℕ × List ℕ) → old ≡ receiving r → Finds old message new → Heeds r (Some message)
finds_message old new r message is f = let g = subst (λ (seen : Seen). Finds seen message new) is f in g.1

-- A sub-VL with a next message isn't passed over.
not_passed : (old new : Held) (item : ℕ × List ℕ) → IsNextIn old item → Passes old new → ⊥
not_passed old new item next p =
    let none = next_hit next.receiver None item next.next (finds_nothing old.seen new.seen next.receiver next.receives p.nothing) in
    absurd (cc)

some_same : (x y : ℕ × List ℕ) → Some x ≡ Some y → x ≡ y
some_same x y e = grind arith

-- The message that is begun is the next one.
begins_next : (old mid : Held) (item : ℕ × List ℕ) → IsNextIn old item → old.left ≡ [] → Asks true old mid
    → mid.left ≡ message_fragments old.of (length (taken_of old.seen)) (sent_of old.ports item)
begins_next old mid item next none (inl goes) = absurd (goes.some none)
begins_next old mid item next none (inr starts) =
    let same = some_same starts.message item
    (next_hit next.receiver (Some starts.message) item next.next (finds_message old.seen mid.seen next.receiver starts.message next.receives starts.finds)) in
    starts.left ∙ ap (λ (x : ℕ × List ℕ). message_fragments old.of (length (taken_of old.seen)) (sent_of old.ports x)) same

-- the frame that a turn of a link releases, the first fragment of a message
record GaveFirst (now vl : ℕ) (held : Held) (item : ℕ × List ℕ) (before behind : Lines) : Type 0 where
  pub frame : List ℕ
  pub rest : List (List ℕ)
  pub first : message_fragments held.of (length (taken_of held.seen)) (sent_of held.ports item) ≡ blanked frame ∷ rest
  pub stream : link_stream vl (log behind) ≡ link_stream vl (log before) ++ entry now frame ∷ []

-- The turn of the link itself.
own_release : (now gap subs s : ℕ) (link : LinkPlan) (old new : List Held) (item : ℕ × List ℕ) (before behind : Lines) (did : Served)
    → s < subs → (held_at old s).left ≡ [] → IsNextIn (held_at old s) item
    → is_due gap (latest None (link_stream link.id.0 (log before))) now ≡ true
    → turn_of subs (latest None (link_stream link.id.0 (log before))) 0 ≡ s
    → any_up link.networks before ≡ true → any_up link.networks behind ≡ true
    → Turn now link (pace_of gap subs (link_stream link.id.0 (log before))) (held_view old new) before behind did
    → GaveFirst now link.id.0 (held_at old s) item before behind
own_release now gap subs s link old new item before behind Nothing below none next due first stood stands t =
    absurd (⊎_elim (λ no. both_ways _ no.0 (and_from _ _ due stood)) (λ all. not_passed _ _ item next (all.1.each s below)) t.0)
own_release now gap subs s link old new item before behind (Released sub number) below none next due first stood stands t =
    let r = t.2 in
    let order : ℕ → ℕ = turn_of subs (latest None (link_stream link.id.0 (log before))) in
    let here : sub ≡ s = at_once r.choice.turn r.choice.is r.choice.before in
    let gave = subst (λ (i : ℕ). GivesFrame (held_at old i) r.frame (held_at new i)) here r.choice.chosen in
    record {
      frame = r.frame;
      rest = (held_at new s).left;
      first = sym (begins_next (held_at old s) gave.mid item next none gave.asked) ∙ gave.gives.next;
      stream = stream_more link.id.0 now sub number link.networks r.frame before behind r.of r.enters;
    }
  where
    at_once : (turn : ℕ) → sub ≡ turn_of subs (latest None (link_stream link.id.0 (log before))) turn
        → ((k : ℕ) → k < turn → Passes (held_at old (turn_of subs (latest None (link_stream link.id.0 (log before))) k))
        (held_at new (turn_of subs (latest None (link_stream link.id.0 (log before))) k))) → sub ≡ s
    at_once zero is passes = is ∙ first
    at_once (suc turn) is passes = absurd (not_passed (held_at old s) (held_at new s) item next
        (subst (λ (i : ℕ). Passes (held_at old i) (held_at new i)) first (passes 0 (omega arith))))
own_release now gap subs s link old new item before behind Lost below none next due first stood stands t = absurd (both_ways _ t.1.down stands)

pub releases_heard : ReleasesHeard
releases_heard plan now lines after k s item p valid inside below none next turn stands =
    let view = emitter_view p.old p.new in
    let P = IsSeen now plan view (IsTurnAt now p.old.links p.new.links) in
    let at = turn_at P (stream_at plan k) k 0 (length plan.links) lines after (omega arith) (omega arith)
    (grind (arith, other_turn)) (grind (arith, turn_endures)) (emitter_turns now plan lines after p) in
    let behind : StandsAt plan k at.behind = stood_before at.behind after (link_plan_at plan.links k).networks at.endures stands in
    let before : StandsAt plan k at.before = stood_before at.before at.behind (link_plan_at plan.links k).networks
    (turn_endures now (link_plan_at plan.links k) _ (view k at.before) at.before at.behind at.did at.turn.turn) behind in
    let gave = own_release now (gap_at plan k) (subs_at plan k) s (link_plan_at plan.links k) (link_at p.old.links k).subs (link_at p.new.links k).subs item
    at.before at.behind at.did below none next (rw at.same turn.due) (rw at.same turn.first) before behind at.turn.turn in
    record {
      frame = gave.frame;
      rest = gave.rest;
      first = gave.first;
      stream = subst (λ (l : List Entry). stream_at plan k after ≡ l ++ entry now gave.frame ∷ []) at.same (at.kept ∙ gave.stream);
    }

at_most : (a b : ℕ) → (b < a → ⊥) → a ≤ b
at_most a b not = elim (dec_le (suc b) a) [ yes d ↦ absurd (not d) | no d ↦ omega arith ]

pub heard_is_found : HeardIsFound
heard_is_found plan now lines after k s many p told = record {
  poll = p;
  finds = λ passes. at_most many (length (seen_of s (stream_at plan k lines)))
      (λ few. let next = told few passes.whole in not_passed _ _ next.0 next.1 passes);
}

-- The message of a send is the next of what the receiver was told afterwards.
told_next : (r : ReceiverView) (s t : SenderView) (bytes : List ℕ) → IsPlaced s bytes t → length t.places ≡ length t.own
    → IsLast t.places (length r.taken) ⊎ ((r.ports ≡ 1) × (length r.taken ≡ length s.own))
    → HasAt (heard_from r t).heard (length r.taken) (t.port, bytes) ⊎ ((r.ports ≡ 1) × HasAs (heard_from r t).heard (length r.taken) (t.port, bytes))
told_next r s t bytes placed counts (inl last) =
    let h = has_sent s t bytes placed counts in
    inl (subst (λ (p : ℕ). HasAt (heard_from r t).heard p (t.port, bytes)) (last_is s t h.place (length r.taken) h.places last) (hears_sent r s t bytes h))
told_next r s t bytes placed counts (inr only) =
    let h = has_sent s t bytes placed counts in
    let within = h.within in
    let own = ap (λ (i : ℕ). get_or t.own i []) only.1 ∙ h.last in
    inr (only.0, (brought_by t, hears_last r t, omega (arith, only.1), λ k. (t.port, sym own k)))

next_by : (old new : Seen) (s t : SenderView) (bytes : List ℕ) → Hears t old new → IsPlaced s bytes t → length t.places ≡ length t.own
    → IsLast t.places (length (taken_of old)) ⊎ ((ports_of old ≡ 1) × (length (taken_of old) ≡ length s.own))
    → (r : ReceiverView) × (new ≡ receiving r) × (taken_of new ≡ taken_of old)
    × (HasAt r.heard (length r.taken) (t.port, bytes) ⊎ ((r.ports ≡ 1) × HasAs r.heard (length r.taken) (t.port, bytes)))
next_by (receiving r) new s t bytes h placed counts next =
    (heard_from r t, h, ap taken_of h, told_next r s t bytes placed counts next)
next_by (gathered g) new s t bytes h placed counts next = absurd h

-- A send, what the emitter was told of it, and a poll.
pub sent_found : (now : ℕ) (tx told after : Tx) (port sent : PortView) (bytes : List ℕ) → IsPlan tx.plan → IsReady tx → IsPortOfTx tx port
    → Accepts port bytes sent → HearsTx tx sent told → length sent.sender.places ≡ length sent.sender.own
    → IsRun now told.links after.links told.lines after.lines → AreQueued told.plan (taken_in after.links) → FindsSent now tx port bytes sent after
sent_found now tx told after port sent bytes valid ready own accepts heard counts run allowed = λ next none turn stands.
    let plan : sent.plan ≡ port.plan = ap (λ (v : PortView). v.plan) accepts.1 in
    let k : ℕ = place_of tx port in
    let s : ℕ = port.plan.sub in
    let poll : EmitterPolls tx.plan now tx.lines after.lines = record {
      old = told;
      new = after;
      ready = kept_ready.told tx told sent ready heard;
      of = ap (λ (v : Tx). v.plan) heard.same;
      before = ap (λ (v : Tx). v.lines) heard.same;
      afterwards = refl;
      run = run;
      allowed = subst (λ (p : Plan). AreQueued p (taken_in after.links)) (ap (λ (v : Tx). v.plan) heard.same) allowed;
    } in
    let linked = link_within tx.plan (port_plan_at tx.plan.ports port.place) valid (valid.linked port.place _ own.within) in
    let inside : k < length tx.plan.links = rw own.plan linked.0 in
    let below : s < (link_plan_at tx.plan.links k).sub_vls = rw own.plan linked.1.sub in
    let held = held_for tx port.plan in
    let held' = held_at (link_at told.links k).subs s in
    let change : ChangesQueue (Hears sent.sender) held held' = rw plan at heard.hears.change in
    let n = next_by held.seen held'.seen port.sender sent.sender bytes change.queue accepts.0 counts next in
    let named : sent.sender.port ≡ port.sender.port = ap (λ (v : SenderView). v.port) accepts.0.2.1 in
    let item : IsNextIn held' (sent.sender.port, bytes) = record { receiver = n.0; receives = n.1; next = n.3 } in
    let release = releases_heard tx.plan now tx.lines after.lines k s (sent.sender.port, bytes) poll valid inside below
    (ap (λ (h : Held). h.left) change.same ∙ none) item turn stands in record {
      frame = release.frame;
      rest = release.rest;
      first = sym (ap (λ (h : Held). message_fragments h.of (length (taken_of held'.seen)) (sent_of h.ports (sent.sender.port, bytes))) change.same
          ∙ ap (λ (l : List (ℕ × List ℕ)). message_fragments held.of (length l) (sent_of held.ports (sent.sender.port, bytes))) n.2
          ∙ ap (λ (q : ℕ). message_fragments held.of (length (taken_of held.seen)) (sent_of held.ports (q, bytes))) named) ∙ release.first;
      stream = release.stream;
    }

alive_by : (networks : Networks) (lines : Lines) → any_up networks lines ≡ true → is_alive lines ≡ true
alive_by networks lines up = grind (arith, or_cases, or_left, or_right, and_parts)

-- A poll that ended so, whether or not a network was up.
pub sent_and_polled : {R F : Type 0} (result : Result R F) (now : ℕ) (tx told after : Tx) (port sent : PortView) (bytes : List ℕ) → IsPlan tx.plan
    → IsReady tx → IsPortOfTx tx port → Accepts port bytes sent → HearsTx tx sent told → length sent.sender.places ≡ length sent.sender.own
    → (IsErr result → is_alive told.lines ≡ false) → OnErr result (after ≡ told) → OnOk result (IsRun now told.links after.links told.lines after.lines)
    → AreQueued told.plan (taken_in after.links) → FindsSent now tx port bytes sent after
sent_and_polled (Ok r) now tx told after port sent bytes valid ready own accepts heard counts down same run allowed =
    sent_found now tx told after port sent bytes valid ready own accepts heard counts run allowed
sent_and_polled (Err e) now tx told after port sent bytes valid ready own accepts heard counts down same run allowed =
    λ next none turn stands. absurd (both_ways _ (down refl)
    (alive_by (link_plan_at tx.plan.links (place_of tx port)).networks told.lines (rw same at stands)))
