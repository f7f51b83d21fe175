-- One turn of a link, and its stream.
use Rattle.vl_link.proofs.Names.{ℕ, zero, suc, refl, LinkPlan, Turn, AreTurns, BothEndure, ◌≤◌, ◌+◌, ◌≡◌, ◌≢◌, ◌<◌, List, length, false, arith, ap, ◌∙◌, sym, subst, inl, inr, ⊎_elim, Option, None, cases_eq, and_parts, both_ways, room_of, sequence_number, A, sub_in, fragments, Entry, entry, Lines, log, log_same, Stamp, Pace, IsLater, Served, Nothing, Released, Lost, counts_in, link_stream, sub_stream, told, entry_number, IsNumbered, IsSpaced, IsApart, IsPrefixOf, TurnView, Releases, Loses, is_lost, Held, LinkState, held_at, GivesFrame, held_view, Serves, Follows, HasOwnItems, IsSameLink, IsLinkOfPlan, taken_by, IsKept, IsTied, IsLinkTied, none_begun, ShowsChoices, spaced_push, numbered_push, due_apart, with_push_in, with_push_out}
use Rattle.vl_link.proofs.ShownTurns.{shows_push, choice_shown}
use Rattle.vl_link.proofs.TurnLaws.{choice_below, choice_other, turns_endure}
use Rattle.vl_link.proofs.SubInStep.{tied_moves, tied_gave, prefix_of, shown, gave_shown}
use Rattle.vl_link.proofs.Choosing.{stream_more, stream_same}

-- a turn of a link whose regulation agrees with its stream
pub record Turned (now : ℕ) (link new : LinkState) (lines after : Lines) (did : Served) : Type 0 where
  pub serves : Serves now link.plan link.pace link.subs new.subs lines after did
  pub paced : Follows new.plan.id.0 new.pace after did
  pub same : IsSameLink link new
  pub later : IsLater link.pace.last now
  pub whole : link.lost ≡ false
  pub lost : new.lost ≡ is_lost did
  pub counted : new.counts ≡ counts_in (link_stream new.plan.id.0 (log after))

-- the link is one of its plan
abbrev pub IsOwn : LinkState → Type 0
IsOwn link = IsLinkOfPlan link.end_system link.plan link.pace link.subs

-- each sub-VL's taken messages are of its ports
abbrev pub HasItems : LinkState → Type 0
HasItems link = (s : ℕ) → s < length link.subs → HasOwnItems (held_at link.subs s)

-- a link with the plan of another
abbrev of_plan : (link new : LinkState) → LinkState
of_plan link new = record new {
  end_system = link.end_system;
  plan = link.plan;
  pace = record new.pace { gap = link.pace.gap; sub_vls = link.pace.sub_vls };
}

-- The same link has the same plan.
same_plan : (link new : LinkState) → IsSameLink link new → new ≡ of_plan link new
same_plan link new s = grind arith

-- After a turn the link is still one of its plan.
pub link_turn : (now : ℕ) (link new : LinkState) (lines after : Lines) (did : Served)
    → Turned now link new lines after did → IsOwn link → IsOwn new
link_turn now link new lines after did t own = grind arith

-- A prefix of a sub-VL's fragments, by the sub-VL after the turn.
prefix_at : (link new : LinkState) (s : ℕ) (front : List (List ℕ)) → IsOwn link → IsSameLink link new → s < link.plan.sub_vls
    → IsPrefixOf front (shown (held_at new.subs s))
    → IsPrefixOf front (fragments link.end_system (room_of link.plan.lmax) A (taken_by (held_at new.subs s)))
prefix_at link new s front own same lt p = grind arith

-- Each sub-VL's stream after the chosen one's frame entered it.
tied_released : (now number : ℕ) (link : LinkState) (sub : ℕ) (news : List Held) (lines after : Lines)
    (at : Releases now link.plan link.pace (held_view link.subs news) sub number lines after)
    → IsLinkTied link (log lines) → (s : ℕ) → s < link.plan.sub_vls
    → IsTied (held_at news s) (sub_stream s (link_stream link.plan.id.0 (log after)))
tied_released now number link sub news lines after at before s lt =
    let of = λ (e : Entry). sub_in e.frame in
    let stream = link_stream link.plan.id.0 (log lines) in
    let more = stream_more link.plan.id.0 now sub number link.plan.networks at.frame lines after at.of at.enters in
    ⊎_elim
    (λ (same : s ≡ sub).
    let g = subst (λ (i : ℕ). GivesFrame (held_at link.subs i) at.frame (held_at news i)) (sym same) at.choice.chosen in
    subst (IsTied (held_at news s))
    (sym (ap (sub_stream s) more ∙ with_push_in of s stream (entry now at.frame) (at.of.of_sub ∙ sym same)))
    (tied_gave now at.frame g.mid (held_at news s) _ g.gives (tied_moves _ g.mid _ (inr (inl g.asked)) (before s lt))))
    (λ (ne : s ≢ sub).
    subst (IsTied (held_at news s))
    (sym (ap (sub_stream s) more ∙ with_push_out of s stream (entry now at.frame) (λ q. ne (sym q ∙ at.of.of_sub))))
    (tied_moves (held_at link.subs s) (held_at news s) _
    (⊎_elim (λ p. inl p) (λ e. inr (inr e)) (choice_other link.pace _ _ _ sub at.choice s ne)) (before s lt)))
    (cases_eq s sub)

-- Each sub-VL's stream is a prefix of its fragments after the chosen one's frame was lost.
prefix_lost : (link : LinkState) (news : List Held) (lines after : Lines)
    (at : Loses link.plan link.pace (held_view link.subs news) lines after)
    → IsLinkTied link (log lines) → (s : ℕ) → s < link.plan.sub_vls
    → IsPrefixOf (told (sub_stream s (link_stream link.plan.id.0 (log lines)))) (shown (held_at news s))
prefix_lost link news lines after at before s lt = ⊎_elim
    (λ (same : s ≡ at.sub).
    let g = subst (λ (i : ℕ). GivesFrame (held_at link.subs i) at.frame (held_at news i)) (sym same) at.choice.chosen in
    (g.mid.left, sym (gave_shown at.frame g.mid _ g.gives ∙ tied_moves _ g.mid _ (inr (inl g.asked)) (before s lt))))
    (λ (ne : s ≢ at.sub).
    prefix_of (held_at news s) _ (tied_moves (held_at link.subs s) (held_at news s) _
    (⊎_elim (λ p. inl p) (λ e. inr (inr e)) (choice_other link.pace _ _ _ at.sub at.choice s ne)) (before s lt)))
    (cases_eq s at.sub)

-- The invariant after a turn, for a link with the plan of the one before.
kept_of_plan : (now : ℕ) (did : Served) (link new : LinkState) (lines after : Lines)
    → Turned now link (of_plan link new) lines after did → IsOwn link → HasItems link → IsKept link (log lines)
    → IsKept (of_plan link new) (log after)
kept_of_plan now Nothing link new lines after t own items k =
    let tied = λ (s : ℕ) (lt : s < link.plan.sub_vls). tied_moves (held_at link.subs s) (held_at new.subs s) _
    (⊎_elim (λ h. inr (inr (h.1 s))) (λ h. inl (h.1.each s (omega (arith, own.sub_vls)))) t.serves.0)
    (k.tied t.whole s lt) in
    rw (t.serves.1) (record {
      numbered = k.numbered;
      spaced = k.spaced;
      prefixes = λ s lt. prefix_at link _ s _ own t.same lt (prefix_of (held_at new.subs s) _ (tied s lt));
      chosen = k.chosen;
      paced = λ _. rw (t.serves.1) at t.paced;
      tied = λ _. tied;
      behind = λ lost. absurd (both_ways _ t.lost lost);
      counted = rw (t.serves.1) at t.counted;
    })
kept_of_plan now (Released sub number) link new lines after t own items k =
    let at = t.serves.2 in
    let more = stream_more link.plan.id.0 now sub number link.plan.networks at.frame lines after at.of at.enters in
    let stream = link_stream link.plan.id.0 (log lines) in
    let paced = k.paced t.whole in
    let last = ap (λ (x : Pace). x.last) paced in
    let tied = tied_released now number link sub new.subs lines after at (k.tied t.whole) in
    record {
      numbered = subst (IsNumbered entry_number 0) (sym more) (numbered_push 0 stream (entry now at.frame) k.numbered
          (at.of.carries ∙ t.serves.1 ∙ ap (λ (x : Pace). x.next) paced ∙ ap sequence_number (omega arith)));
      spaced = subst (IsSpaced link.pace.gap None) (sym more)
          (spaced_push link.pace.gap None stream (entry now at.frame) k.spaced
          (subst (λ (o : Option Stamp). IsApart link.pace.gap o now) last
          (due_apart link.pace.gap link.pace.last now t.later (and_parts _ _ t.serves.0).0)));
      prefixes = λ s lt. prefix_at link _ s _ own t.same lt (prefix_of (held_at new.subs s) _ (tied s lt));
      chosen = subst (ShowsChoices link.pace.sub_vls None none_begun) (sym more)
          (shows_push link.pace.sub_vls None none_begun stream (entry now at.frame) k.chosen
          (choice_shown now number link sub new.subs lines after at own (k.tied t.whole) items last k.chosen));
      paced = λ _. t.paced;
      tied = λ _. tied;
      behind = λ lost. absurd (both_ways _ t.lost lost);
      counted = t.counted;
    }
kept_of_plan now Lost link new lines after t own items k =
    let at = t.serves.1 in
    let below : at.sub < link.plan.sub_vls = omega (arith, choice_below link.pace _ _ _ at.sub at.choice, own.sub_vls)
    in
    let g = at.choice.chosen in
    let mid = tied_moves _ g.mid _ (inr (inl g.asked)) (k.tied t.whole at.sub below) in
    let same = log_same lines after at.same in
    rw same (record {
      numbered = k.numbered;
      spaced = k.spaced;
      prefixes = λ s lt. prefix_at link _ s _ own t.same lt (prefix_lost link new.subs lines after at (k.tied t.whole) s lt);
      chosen = k.chosen;
      paced = λ whole. absurd (both_ways _ whole t.lost);
      tied = λ whole. absurd (both_ways _ whole t.lost);
      behind = λ _. record {
        sub = at.sub;
        within = below;
        behind = record {
          left = g.mid.left;
          some = λ none. let e = sym none ∙ g.gives.next in cc;
          ahead = gave_shown at.frame g.mid _ g.gives ∙ mid;
        };
      };
      counted = rw same at t.counted;
    })

-- The invariant after a turn.
pub kept_turn : (now : ℕ) (did : Served) (link new : LinkState) (lines after : Lines)
    → Turned now link new lines after did → IsOwn link → HasItems link → IsKept link (log lines) → IsKept new (log after)
kept_turn now did link new lines after t own items k = grind (arith, same_plan, kept_of_plan)

-- The stream of another link, in any view of the sub-VLs.
pub other_turn : (now vl : ℕ) (link : LinkPlan) (pace : Pace) (view : TurnView) (lines after : Lines) (did : Served)
    → link.id.0 ≢ vl → Turn now link pace view lines after did → link_stream vl (log after) ≡ link_stream vl (log lines)
other_turn now vl link pace view lines after Nothing ne t = ap (λ (x : Lines). link_stream vl (log x)) t.1
other_turn now vl link pace view lines after (Released sub number) ne t =
    stream_same link.id.0 vl now sub number link.networks t.2.frame lines after t.2.of t.2.enters ne
other_turn now vl link pace view lines after Lost ne t = ap (link_stream vl) (log_same lines after t.1.same)

-- the turn at this place, of turns of which no other changes what is read
pub record TurnAt (P : ℕ → Lines → Lines → Served → Type 0) (read : Lines → List Entry) (k : ℕ) (lines after : Lines)
    : Type 0 where
  pub before : Lines
  pub behind : Lines
  pub did : Served
  pub turn : P k before behind did
  pub same : read before ≡ read lines
  pub kept : read after ≡ read behind
  pub endures : BothEndure behind after

-- Turns that don't change what is read.
turns_keep : (P : ℕ → Lines → Lines → Served → Type 0) (read : Lines → List Entry) (i many : ℕ) (lines after : Lines)
    → ((j : ℕ) → i ≤ j → j < i + many → (before behind : Lines) (did : Served) → P j before behind did
    → read behind ≡ read before)
    → AreTurns P i many lines after → read after ≡ read lines
turns_keep P read i zero lines after keep t = ap read t
turns_keep P read i (suc many) lines after keep t =
    turns_keep P read (i + 1) many t.0 after (λ j le lt. keep j (omega arith) (omega arith)) t.3
    ∙ keep i (omega arith) (omega arith) lines t.0 t.1 t.2

-- Of turns there is one at each place.
pub turn_at : (P : ℕ → Lines → Lines → Served → Type 0) (read : Lines → List Entry) (k i many : ℕ) (lines after : Lines)
    → i ≤ k → k < i + many
    → ((j : ℕ) → j < i + many → j ≢ k → (before behind : Lines) (did : Served) → P j before behind did
    → read behind ≡ read before)
    → ((j : ℕ) (before behind : Lines) (did : Served) → P j before behind did → BothEndure before behind)
    → AreTurns P i many lines after → TurnAt P read k lines after
turn_at P read k i zero lines after le lt keep stays_down t = absurd (omega arith)
turn_at P read k i (suc many) lines after le lt keep stays_down t = ⊎_elim
    (λ (here : i ≡ k). record {
      before = lines;
      behind = t.0;
      did = t.1;
      turn = subst (λ (j : ℕ). P j lines t.0 t.1) here t.2;
      same = refl;
      kept = turns_keep P read (i + 1) many t.0 after
          (λ j jle jlt. keep j (omega arith) (λ e. absurd (omega (arith, e, here)))) t.3;
      endures = turns_endure P (i + 1) many t.0 after stays_down t.3;
    })
    (λ (ne : i ≢ k).
    let later : i + 1 ≤ k = omega (arith, le, ne) in
    let rest = turn_at P read k (i + 1) many t.0 after later (omega arith) (λ j jlt. keep j (omega arith)) stays_down t.3 in
    record {
      before = rest.before;
      behind = rest.behind;
      did = rest.did;
      turn = rest.turn;
      same = rest.same ∙ keep i (omega arith) ne lines t.0 t.1 t.2;
      kept = rest.kept;
      endures = rest.endures;
    })
    (cases_eq i k)

-- The stream of another link.
pub other_stream : (now vl : ℕ) (did : Served) (link new : LinkState) (lines after : Lines)
    → Turned now link new lines after did → IsOwn link → link.plan.id.0 ≢ vl
    → link_stream vl (log after) ≡ link_stream vl (log lines)
other_stream now vl did link new lines after t own ne = grind (arith, other_turn)

-- A link with the same stream keeps the invariant.
pub kept_stream : (other : LinkState) (H J : List Entry)
    → link_stream other.plan.id.0 J ≡ link_stream other.plan.id.0 H → IsKept other H → IsKept other J
kept_stream other H J e k = record {
  numbered = rw e k.numbered;
  spaced = rw e k.spaced;
  prefixes = λ s lt. rw e (k.prefixes s lt);
  chosen = rw e k.chosen;
  paced = λ w. rw e (k.paced w);
  tied = λ w s lt. rw e (k.tied w s lt);
  behind = λ l. let b = k.behind l in record { sub = b.sub; within = b.within; behind = rw e b.behind };
  counted = rw e k.counted;
}
