-- Each poll of a drain at which a link is due sends one of its frames, until it owes none.
use Rattle.afdx_tx.proofs.Names.{ℕ, zero, suc, ◌≡◌, ◌≢◌, ◌⊎◌, ◌+◌, ◌<◌, ◌≤◌, List, [], ◌∷◌, ◌++◌, true, length, arith, refl, ap, None, inl, inr, ⊎_elim, cases_eq, length-append, length-map, length_push, LinkPlan, Plan, IsPlan, link_plan_at, bag_micros, room_of, A, sub_in, Sent, fragments, Entry, entry, Lines, BothEndure, any_up, log, both_on, stood_before, IsLater, is_due, Served, Nothing, Released, Lost, AreTurns, turn_endures, turns_endure, latest, link_stream, sub_stream, told, Accepted, Drains, DrainsAt, owed, stream_at, owed_at, AreApartBy, AreDrained, DrainEnds, stream_more, other_turn, turn_at, latest_push, with_push_in, with_push_out}

-- the fragments of a sub-VL's accepted messages
abbrev due_of : ℕ → LinkPlan → (ℕ → List Sent) → ℕ → List (List ℕ)
due_of end_system link accepted sub = fragments end_system (room_of link.lmax) A (accepted sub)

-- the link's stream has all of them
abbrev HasAll : ℕ → LinkPlan → (ℕ → List Sent) → List Entry → Type 0
HasAll end_system link accepted S = (s : ℕ) → s < link.sub_vls
    → due_of end_system link accepted s ≡ told (sub_stream s S)

-- the link's stream lacked a fragment of a sub-VL, and now has one frame more of it
record Gains (now end_system : ℕ) (link : LinkPlan) (accepted : ℕ → List Sent) (S T : List Entry) : Type 0 where
  pub sub : ℕ
  pub within : sub < link.sub_vls
  pub short : length (told (sub_stream sub S)) < length (due_of end_system link accepted sub)
  pub frame : List ℕ
  pub of : sub_in frame ≡ sub
  pub stream : T ≡ S ++ entry now frame ∷ []

-- the effect of a poll on the stream of a due link
abbrev Comes : (now end_system : ℕ) (link : LinkPlan) (accepted : ℕ → List Sent) (S T : List Entry) → Type 0
Comes now end_system link accepted S T =
    ((T ≡ S) × HasAll end_system link accepted S) ⊎ Gains now end_system link accepted S T

-- A list with a non-empty end is longer than without it.
longer : (xs ys zs : List (List ℕ)) → (zs ≡ [] → ⊥) → xs ≡ ys ++ zs → length ys < length xs
longer xs ys [] some e = grind arith
longer xs ys (z ∷ zs) some e = omega (arith, ap length e, length-append ys (z ∷ zs))

-- The turn of the link itself, if a network that carries it is up afterwards.
own_turn : (now end_system : ℕ) (link : LinkPlan) (accepted : ℕ → List Sent) (lines after : Lines) (did : Served)
    → is_due (bag_micros link.bag) (latest None (link_stream link.id.0 (log lines))) now ≡ true
    → Drains now end_system link accepted lines after did → any_up link.networks after ≡ true
    → Comes now end_system link accepted (link_stream link.id.0 (log lines)) (link_stream link.id.0 (log after))
own_turn now end_system link accepted lines after Nothing due t stands = grind arith
own_turn now end_system link accepted lines after (Released sub number) due t stands =
    let r = t.2 in
    inr (record {
      sub = sub;
      within = grind arith;
      short = grind (arith, longer);
      frame = r.frame;
      of = r.of.of_sub;
      stream = stream_more link.id.0 now sub number link.networks r.frame lines after r.of r.enters;
    })
own_turn now end_system link accepted lines after Lost due t stands = grind arith

-- the effect of a poll on the stream of the link at a place
abbrev ComesAt : ℕ → Plan → Accepted → ℕ → (S T : List Entry) → Type 0
ComesAt now plan accepted k S T = Comes now plan.end_system (link_plan_at plan.links k) (accepted k) S T

-- the link at a place is due, by its stream
abbrev IsDueBy : ℕ → Plan → ℕ → List Entry → Type 0
IsDueBy now plan k S = is_due (bag_micros (link_plan_at plan.links k).bag) (latest None S) now ≡ true

-- a network that carries the link at a place is up
abbrev StandsAt : Plan → ℕ → Lines → Type 0
StandsAt plan k lines = any_up (link_plan_at plan.links k).networks lines ≡ true

-- The turns of all links, this one among them.
turns_come : (now : ℕ) (plan : Plan) (accepted : Accepted) (k : ℕ) (lines after : Lines) → IsPlan plan → k < length plan.links
    → IsDueBy now plan k (stream_at plan k lines)
    → AreTurns (DrainsAt now plan accepted) 0 (length plan.links) lines after → StandsAt plan k after
    → ComesAt now plan accepted k (stream_at plan k lines) (stream_at plan k after)
turns_come now plan accepted k lines after valid lt due turns stands =
    let at = turn_at (DrainsAt now plan accepted) (stream_at plan k) k 0 (length plan.links) lines after
    (omega arith) (omega arith) (grind (arith, other_turn)) (grind (arith, turn_endures)) turns in
    rw (at.kept, ← at.same) (grind (arith, own_turn, stood_before))

-- The frames of other sub-VLs are the same.
told_other : (now sub s : ℕ) (frame : List ℕ) (S T : List Entry) → sub_in frame ≡ sub → s ≢ sub → T ≡ S ++ entry now frame ∷ []
    → length (told (sub_stream s T)) ≡ length (told (sub_stream s S))
told_other now sub s frame S T of ne more = grind (arith, with_push_out, sub_in)

module _ (now end_system : ℕ) (link : LinkPlan) (accepted : ℕ → List Sent) (S T : List Entry)
    (g : Gains now end_system link accepted S T) where
  -- The sub-VLs below owe the same.
  below_same : (n : ℕ) → n ≤ g.sub → owed end_system link accepted T n ≡ owed end_system link accepted S n
  below_same zero le = refl
  below_same (suc n) le =
      let before = below_same n (omega arith) in
      let other = told_other now g.sub n g.frame S T g.of (grind arith) g.stream in
      omega (arith, before, other)

  -- Together with this sub-VL they owe one less.
  one_less : (n : ℕ) → g.sub < n → owed end_system link accepted T n + 1 ≤ owed end_system link accepted S n
  one_less zero lt = absurd (omega arith)
  one_less (suc n) lt = ⊎_elim
      (grind (arith, below_same, with_push_in, sub_in, length-map, length_push))
      (λ (ne : n ≡ g.sub → ⊥).
      let before = one_less n (omega (arith, ne)) in
      let other = told_other now g.sub n g.frame S T g.of ne g.stream in
      omega (arith, before, other))
      (cases_eq n g.sub)

  -- The release is the latest.
  gained_later : IsLater (latest None T) now
  gained_later = grind (arith, latest_push, entry)

  -- A link that has all gains nothing.
  none_gained : HasAll end_system link accepted S → ⊥
  none_gained all = grind arith

-- the link at a place has all
abbrev HasAllAt : Plan → Accepted → ℕ → List Entry → Type 0
HasAllAt plan accepted k S = HasAll plan.end_system (link_plan_at plan.links k) (accepted k) S

-- A network that is down after polls was down before, or failed.
drained_endure : (plan : Plan) (accepted : Accepted) (moments : List ℕ) (lines after : Lines)
    → AreDrained plan accepted moments lines after → BothEndure lines after
drained_endure plan accepted [] lines after p = grind arith
drained_endure plan accepted (now ∷ moments) lines after p =
    both_on lines p.0 after (grind (arith, turns_endure, turn_endures))
    (drained_endure plan accepted moments p.0 after p.2)

-- A link has all after more polls than the frames that it owes, and keeps it.
ends : (plan : Plan) (accepted : Accepted) (k : ℕ) (moments : List ℕ) (lines after : Lines) (start gap : ℕ)
    → IsPlan plan → k < length plan.links → bag_micros (link_plan_at plan.links k).bag ≤ gap
    → IsLater (latest None (stream_at plan k lines)) start
    → AreApartBy gap start moments → AreDrained plan accepted moments lines after → StandsAt plan k after
    → HasAllAt plan accepted k (stream_at plan k lines) ⊎ (owed_at plan accepted k lines < length moments)
    → HasAllAt plan accepted k (stream_at plan k after)
ends plan accepted k [] lines after start gap valid lt small later apart p stands few = grind arith
ends plan accepted k (now ∷ moments) lines after start gap valid lt small later apart p stands few = ⊎_elim
    (λ still. ends plan accepted k moments p.0 after now gap valid lt small
    (grind arith) apart.1 p.2 stands (inl (rw still.0 still.1)))
    (λ g. ends plan accepted k moments p.0 after now gap valid lt small
    (gained_later now _ _ _ _ _ g) apart.1 p.2 stands
    (⊎_elim (grind (arith, none_gained))
    (λ (owes : owed_at plan accepted k lines < suc (length moments)).
    let less = one_less now _ _ _ _ _ g (link_plan_at plan.links k).sub_vls g.within in
    grind arith) few))
    (turns_come now plan accepted k lines p.0 valid lt
    (grind arith) p.1 (grind (arith, drained_endure)))

-- The same of all links.
pub drain_ends_holds : DrainEnds
drain_ends_holds plan accepted moments lines after start gap valid later small apart p stand few = λ k lt.
    ends plan accepted k moments lines after start gap valid lt (small k lt) (later k lt) apart p (stand k lt)
    (inr (few k lt))
