-- A stream that shows choices takes turns.
use Rattle.vl_link.proofs.Names.{ℕ, ◌≡◌, ◌≢◌, ◌+◌, ◌<◌, ◌≤◌, List, [], ◌∷◌, ◌++◌, Bool, true, false, cond, eqb, length, arith, refl, ap, ◌∙◌, sym, subst, ⊎_elim, Option, Some, None, count_by, sum_by-cons, cases_eq, eq-eqb, ne_eqb, sub_in, Entry, turn_of, Stamp, turn_below, stamp_of, latest, sub_stream, link_stream, more_in, before_next, TakesTurns, begun_after, begun_by, shown_choice, ShowsChoices, none_begun, append-nil, All-map, room_of, A, Lines, log, taken_of, Releases, Held, LinkState, held_at, held_view, HasOwnItems, IsLinkOfPlan, Passes, sent_of, taken_by, IsLinkTied, Choice, IsChosen, AreChosen, IsPassedOver, one_each_holds}
use Rattle.vl_link.proofs.QueueLooks.{items_taken}
use Rattle.vl_link.proofs.MessageEnds.{IsShort, not_begun}

-- The chosen sub-VL is one of the link's.
pub chosen_below : (subs : ℕ) (last : Option Stamp) (begun : ℕ → Bool) (sub : ℕ)
    → IsChosen subs (turn_of subs last) (shown_choice begun sub) → sub < subs
chosen_below subs last begun sub c = grind arith

-- One more choice is shown.
pub shows_push : (subs : ℕ) (last : Option Stamp) (begun : ℕ → Bool) (S : List Entry) (e : Entry)
    → ShowsChoices subs last begun S
    → IsChosen subs (turn_of subs (latest last S)) (shown_choice (begun_by begun S) (sub_in e.frame))
    → ShowsChoices subs last begun (S ++ e ∷ [])
shows_push subs last begun [] e h c = (c, tt)
shows_push subs last begun (x ∷ xs) e h c = (h.0, shows_push subs (Some (stamp_of x)) (begun_after begun x) xs e h.1 c)

-- the choices that the entries show before the next entry of a sub-VL
record ShowsPassed (subs last x y : ℕ) (entries : List Entry) : Type 0 where
  choices : List Choice
  chosen : AreChosen subs last choices
  passed : IsPassedOver x choices
  count : count_by (λ (c : Choice). eqb c.sub y) choices ≡ length (sub_stream y entries)

-- One entry and one choice more.
count_more : (y : ℕ) (c : Choice) (cs : List Choice) (e : Entry) (es : List Entry) → c.sub ≡ sub_in e.frame
    → count_by (λ (d : Choice). eqb d.sub y) cs ≡ length (sub_stream y es)
    → count_by (λ (d : Choice). eqb d.sub y) (c ∷ cs) ≡ length (sub_stream y (e ∷ es))
count_more y c cs e es q h =
    sum_by-cons (λ (d : Choice). cond (eqb d.sub y) 1 0) c cs
    ∙ ap (λ (n : ℕ). cond (eqb n y) 1 0 + count_by (λ (d : Choice). eqb d.sub y) cs) q
    ∙ ap (λ (n : ℕ). cond (eqb (sub_in e.frame) y) 1 0 + n) h
    ∙ one (eqb (sub_in e.frame) y)
  where
    one : (t : Bool) → cond t 1 0 + length (sub_stream y es) ≡ length (cond t (e ∷ sub_stream y es) (sub_stream y es))
    one true = omega arith
    one false = omega arith

-- The next entry of the sub-VL is the first: there is none before it.
shows_none : (subs last x y : ℕ) → ShowsPassed subs last x y []
shows_none subs last x y = grind arith

-- The entries before the next one of a sub-VL with a begun message.
shows_passed : (subs x y : ℕ) (last : Stamp) (begun : ℕ → Bool) (S : List Entry) → begun x ≡ true
    → ShowsChoices subs (Some last) begun S → ShowsPassed subs last.sub x y (before_next x S)
shows_passed subs x y last begun [] is h = shows_none subs last.sub x y
shows_passed subs x y last begun (e ∷ es) is h = ⊎_elim
    (grind arith)
    (λ (ne : sub_in e.frame ≢ x).
    let still = ap (λ (t : Bool). cond t (more_in e.frame) (begun x)) (ne_eqb (sub_in e.frame) x ne) ∙ is in
    let r = shows_passed subs x y (stamp_of e) (begun_after begun e) es still h.1 in
    subst (λ (t : Bool). ShowsPassed subs last.sub x y (cond t [] (e ∷ before_next x es))) (sym (ne_eqb _ _ ne))
    (record {
      choices = shown_choice begun (sub_in e.frame) ∷ r.choices;
      chosen = (h.0, r.chosen);
      passed = grind arith;
      count = count_more y (shown_choice begun (sub_in e.frame)) r.choices e (before_next x es) refl r.count;
    }))
    (cases_eq (sub_in e.frame) x)

-- The turn law follows from the choices.
pub takes_turns : (subs : ℕ) (last : Option Stamp) (begun : ℕ → Bool) (S : List Entry)
    → ShowsChoices subs last begun S → TakesTurns S
takes_turns subs last begun [] h = tt
takes_turns subs last begun (e ∷ es) h = (
  λ more other.
      let x = sub_in e.frame in
      let on = ap (λ (t : Bool). cond t (more_in e.frame) (begun x)) (eq-eqb x x refl) ∙ more in
      let s = shows_passed subs x other (stamp_of e) (begun_after begun e) es on h.1 in
      subst (λ (n : ℕ). n ≤ 1) s.count
      (one_each_holds subs x other s.choices (chosen_below subs last begun x h.0) s.chosen s.passed),
  takes_turns subs (Some (stamp_of e)) (begun_after begun e) es h.1,
)

-- A sub-VL that was passed over has no message begun.
passed_whole : (link : LinkState) (new : Held) (log : List Entry) (s : ℕ) → IsLinkTied link log → s < link.plan.sub_vls
    → HasOwnItems (held_at link.subs s) → Passes (held_at link.subs s) new
    → begun_by none_begun (link_stream link.plan.id.0 log) s ≡ false
passed_whole link new log s tied lt items p =
    let held = held_at link.subs s in
    let stream = link_stream link.plan.id.0 log in
    not_begun held.of.end_system (room_of held.of.link.lmax) A stream s (taken_by held)
    (All-map IsShort (sent_of held.ports) (taken_of held.seen)
    (λ j d lt. (items_taken (length held.ports) held.seen items j d lt).message.most))
    (grind (arith, append-nil))

-- The released frame is of the sub-VL that the link's stream shows as chosen.
pub choice_shown : (now number : ℕ) (link : LinkState) (sub : ℕ) (news : List Held) (lines after : Lines)
    (at : Releases now link.plan link.pace (held_view link.subs news) sub number lines after)
    → IsLinkOfPlan link.end_system link.plan link.pace link.subs → IsLinkTied link (log lines)
    → ((s : ℕ) → s < length link.subs → HasOwnItems (held_at link.subs s))
    → link.pace.last ≡ latest None (link_stream link.plan.id.0 (log lines))
    → ShowsChoices link.pace.sub_vls None none_begun (link_stream link.plan.id.0 (log lines))
    → IsChosen link.pace.sub_vls (turn_of link.pace.sub_vls (latest None (link_stream link.plan.id.0 (log lines))))
    (shown_choice (begun_by none_begun (link_stream link.plan.id.0 (log lines))) (sub_in at.frame))
choice_shown now number link sub news lines after at own tied items last shown =
    let turn = turn_of link.pace.sub_vls link.pace.last in
    rw (← last) (record {
      turn = at.choice.turn;
      within = at.choice.within;
      is = at.of.of_sub ∙ at.choice.is;
      had = grind arith;
      before = grind (arith, turn_below, ne_eqb, passed_whole);
    })
