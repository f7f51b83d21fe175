-- The fragments of a sub-VL's accepted messages, and its stream.
use Rattle.afdx_tx.proofs.Names.{ℕ, suc, ◌≡◌, ◌+◌, ◌<◌, List, [], ◌∷◌, ◌++◌, true, length, arith, refl, ap, ◌∙◌, sym, append-nil, append_assoc, map-append, nil_from_length, length-append, room_of, LinkPlan, Net, A, Sent, fragments, fragments_at, fragments_from, Entry, Seen, receiving, gathered, IsKnownWhole, unnumbered_fragments, Held, LinkState, held_at, Asks, sent_of, sent_by, taken_by, IsLinkTied, IsReleased, Owes, accepted_by, IsOwn, fragments_some}

-- the messages known to be left in a queue
abbrev pub rest_of : Seen → List (ℕ × List ℕ)
rest_of (receiving r) = []
rest_of (gathered g) = g.left

-- The fragments of two lists of messages.
fragments_append : (end_system room : ℕ) (net : Net) (place : ℕ) (xs ys : List Sent)
    → fragments_from end_system room net place (xs ++ ys)
    ≡ fragments_from end_system room net place xs ++ fragments_from end_system room net (place + length xs) ys
fragments_append end_system room net place [] ys = grind arith
fragments_append end_system room net place (x ∷ xs) ys =
    ap (λ (z : List (List ℕ)). fragments_at end_system room net place x ++ z)
    (fragments_append end_system room net (suc place) xs ys
    ∙ ap (λ (p : ℕ). fragments_from end_system room net (suc place) xs ++ fragments_from end_system room net p ys)
    (omega arith))
    ∙ sym (append_assoc (fragments_at end_system room net place x) _ _)

-- the fragments of a sub-VL's messages that were accepted and not taken
abbrev pub untaken : ℕ → ℕ → Net → Held → List (List ℕ)
untaken end_system room net held =
    fragments_from end_system room net (0 + length (taken_by held)) (sent_by held.ports (rest_of held.seen))

-- The fragments of a sub-VL's accepted messages.
pub owed_split : (end_system room : ℕ) (net : Net) (held : Held)
    → fragments end_system room net (accepted_by held)
    ≡ fragments end_system room net (taken_by held) ++ untaken end_system room net held
owed_split end_system room net held = grind (arith, map-append, fragments_append, append-nil)

-- Two lists are empty if together they are.
nils : {X : Type 0} (xs ys : List X) → xs ++ ys ≡ [] → (xs ≡ []) × (ys ≡ [])
nils [] ys e = (refl, e)
nils (x ∷ xs) ys e = cc

-- a sub-VL of a link, tied to its stream, with its accepted messages known whole
pub record Stands (end_system : ℕ) (link : LinkPlan) (log : List Entry) (s : ℕ) (held : Held) : Type 0 where
  pub taken : fragments end_system (room_of link.lmax) A (taken_by held) ≡ unnumbered_fragments link.id.0 s log ++ held.left
  pub seen : IsKnownWhole held.seen

-- Each sub-VL of a tied link is such.
pub stands_of : (link : LinkState) (log : List Entry) (s : ℕ) → IsOwn link → IsLinkTied link log
    → s < length link.subs → IsKnownWhole (held_at link.subs s).seen
    → Stands link.end_system link.plan log s (held_at link.subs s)
stands_of link log s own tied lt g = grind arith

-- the accepted lists of some sub-VLs
abbrev pub lists_of : List Held → ℕ → List Sent
lists_of subs s = accepted_by (held_at subs s)

module _ (end_system : ℕ) (link : LinkPlan) (log : List Entry) (s : ℕ) (subs : List Held) where
  -- Nothing is left of the messages taken, and none is left to take.
  pub all_released : Stands end_system link log s (held_at subs s) → (held_at subs s).left ≡ []
      → rest_of (held_at subs s).seen ≡ []
      → IsReleased end_system link (lists_of subs) log s
  all_released at none drained = grind (arith, owed_split, append-nil)

  -- The stream lacks fragments of the messages taken.
  pub owes_taken : (left : List (List ℕ)) → (left ≡ [] → ⊥)
      → fragments end_system (room_of link.lmax) A (taken_by (held_at subs s)) ≡ unnumbered_fragments link.id.0 s log ++ left
      → Owes end_system link (lists_of subs) log s
  owes_taken left some e =
      let more = untaken end_system (room_of link.lmax) A (held_at subs s) in
      record {
        left = left ++ more;
        some = grind (arith, nils);
        ahead = grind (arith, owed_split, append_assoc);
      }

  -- A message is left to take.
  pub owes_rest : Stands end_system link log s (held_at subs s) → (rest_of (held_at subs s).seen ≡ [] → ⊥)
      → Owes end_system link (lists_of subs) log s
  owes_rest at some = by_rest (rest_of (held_at subs s).seen) refl
    where
      by_rest : (rest : List (ℕ × List ℕ)) → rest_of (held_at subs s).seen ≡ rest → Owes end_system link (lists_of subs) log s
      by_rest [] none = absurd (some none)
      by_rest (message ∷ more) e =
          let held = held_at subs s in
          let room = room_of link.lmax in
          let place = 0 + length (taken_by held) in
          let next = fragments_from end_system room A place (sent_by held.ports (message ∷ more)) in
          record {
            left = held.left ++ next;
            some = λ none. fragments_some (record { end_system = end_system; link = link; sub = s }) place
                (sent_of held.ports message)
                (nils _ _ (nils held.left next none).1).0;
            ahead = grind (arith, owed_split, append_assoc);
          }

  -- A polled sub-VL that has something isn't wholly released.
  pub asked_owes : (new : Held) → Stands end_system link log s (held_at subs s) → Asks true (held_at subs s) new
      → Owes end_system link (lists_of subs) log s
  asked_owes new at h = grind (arith, owes_taken, owes_rest)

-- No sub-VL is both.
pub owes_not : (end_system : ℕ) (link : LinkPlan) (accepted : ℕ → List Sent) (log : List Entry) (s : ℕ)
    → Owes end_system link accepted log s → IsReleased end_system link accepted log s → ⊥
owes_not end_system link accepted log s o r =
    let told = unnumbered_fragments link.id.0 s log in
    let e : length (told ++ o.left) ≡ length told = grind arith in
    grind (arith, nil_from_length, length-append)
