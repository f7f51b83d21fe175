-- A sub-VL that was polled, chosen or gave a frame, and its stream.
use Rattle.vl_link.proofs.Names.{ℕ, ◌≡◌, ◌≢◌, List, [], ◌∷◌, ◌++◌, true, length, arith, refl, ap, ◌∙◌, sym, inl, inr, ⊎_elim, cases_eq, append-nil, append_assoc, map-append, length-map, A, Sent, Entry, entry, Pace, SubVl, told, IsPrefixOf, Held, held_at, Starts, Asks, IsPicked, PassedOver, Gives, IsSameSub, AreSameSubs, sub_fragments, message_fragments, taken_by, IsTied, set, get_or, get_or_default, get_or-set_other, LinkPlan, IsFrameOf, nothing_held, AreSubsOf, held_view, IsChoice, NoneHas, turn_onto, fragments_more}
use Rattle.vl_link.proofs.Choosing.{Moves, moves_passed, each_set, held_same}
use Rattle.vl_link.proofs.TurnLaws.{choice_other}
use Rattle.vl_link.proofs.QueueLooks.{items_nothing, items_finds, same_nothing, same_finds}

-- A polled sub-VL that has something has a fragment left.
pub asked_left : (old new : Held) → Asks true old new → new.left ≢ []
asked_left old new a none = grind arith

-- An unchanged sub-VL is the same.
pub same_sub_here : (old new : Held) → new ≡ old → IsSameSub old new
same_sub_here old new e = grind arith

-- The relation is transitive.
pub same_sub_on : (a b c : Held) → IsSameSub a b → IsSameSub b c → IsSameSub a c
same_sub_on a b c p q = grind arith

-- A polled sub-VL is the same.
pub moves_of : (old new : Held) → Moves old new → IsSameSub old new
moves_of old new (inl p) = rw p.same (record {
  of = refl;
  ports = refl;
  queue = same_nothing old.seen new.seen p.nothing;
  items = items_nothing (length old.ports) old.seen new.seen p.nothing;
})
moves_of old new (inr (inl (inl g))) = same_sub_here old new g.same
moves_of old new (inr (inl (inr s))) = record {
  of = s.of;
  ports = s.ports;
  queue = grind (arith, same_finds);
  items = λ items. rw s.ports (items_finds (length old.ports) old.seen s.message new.seen s.finds s.item items);
}
moves_of old new (inr (inr e)) = same_sub_here old new e

-- Sub-VLs that were passed over are the same.
pub passed_same : (pace : Pace) (old new : List Held) (n : ℕ) → PassedOver pace old new n → AreSameSubs old new
passed_same pace old new n p s = moves_of (held_at old s) (held_at new s) (moves_passed pace old new n p s)

-- Sub-VLs of which one was chosen are the same.
pub chosen_same : (pace : Pace) (old : List Held) (sub : ℕ) (new : List Held) → IsPicked pace old sub new
    → AreSameSubs old new
chosen_same pace old sub new c s = moves_of (held_at old s) (held_at new s) (⊎_elim
    (grind arith)
    (λ (ne : s ≢ sub). ⊎_elim (λ p. inl p) (λ e. inr (inr e)) (choice_other pace _ _ _ sub c.choice s ne))
    (cases_eq s sub))

-- A sub-VL that gave its next frame is the same.
pub gave_same : (frame : List ℕ) (old new : Held) → Gives old frame new → IsSameSub old new
gave_same frame old new g = grind arith

-- The fragments of one message more.
fragments_push : (of : SubVl) (xs : List Sent) (m : Sent)
    → sub_fragments of 0 (xs ++ m ∷ []) ≡ sub_fragments of 0 xs ++ message_fragments of (length xs) m
fragments_push of xs m = grind (arith, fragments_more)

-- The stream is a prefix of the fragments of the messages taken.
pub prefix_of : (held : Held) (stream : List Entry) → IsTied held stream
    → IsPrefixOf (told stream) (sub_fragments held.of 0 (taken_by held))
prefix_of held stream t = (held.left, sym t)

-- A sub-VL that began its next message is tied to its stream.
tied_starts : (old new : Held) (stream : List Entry) → Starts old new → IsTied old stream → IsTied new stream
tied_starts old new stream p t = grind (arith, map-append, fragments_push, length-map, append-nil)

-- A sub-VL that was polled is tied to its stream.
pub tied_moves : (old new : Held) (stream : List Entry) → Moves old new → IsTied old stream → IsTied new stream
tied_moves old new stream (inl p) t = grind arith
tied_moves old new stream (inr (inl (inl g))) t = rw g.same t
tied_moves old new stream (inr (inl (inr p))) t = tied_starts old new stream p t
tied_moves old new stream (inr (inr e)) t = rw e t

-- the fragments of the messages that a sub-VL took
abbrev pub shown : Held → List (List ℕ)
shown held = sub_fragments held.of 0 (taken_by held)

-- A sub-VL that gave its next frame took no message.
pub gave_shown : (frame : List ℕ) (old new : Held) → Gives old frame new → shown new ≡ shown old
gave_shown frame old new g = ap shown g.same

-- A sub-VL that gave its next frame is tied to its stream.
pub tied_gave : (now : ℕ) (frame : List ℕ) (old new : Held) (stream : List Entry)
    → Gives old frame new → IsTied old stream → IsTied new (stream ++ entry now frame ∷ [])
tied_gave now frame old new stream g t = grind (arith, map-append, append_assoc)

-- The chosen sub-VL, for any default of the index.
item_is : (pace : Pace) (old : List Held) (sub : ℕ) (mid : List Held) (d : Held) → IsPicked pace old sub mid
    → get_or mid sub d ≡ held_at mid sub
item_is pace old sub mid d c = grind (arith, get_or_default)

-- It has a fragment left.
pub chosen_left : (pace : Pace) (old : List Held) (sub : ℕ) (mid : List Held) (d : Held)
    → IsPicked pace old sub mid → (get_or mid sub d).left ≡ [] → ⊥
chosen_left pace old sub mid d c e =
    asked_left (held_at old sub) (held_at mid sub) c.choice.chosen
    (sym (ap (λ (h : Held). h.left) (item_is pace old sub mid d c)) ∙ e)

-- Its frame is one of the link.
pub frame_at : (pace : Pace) (plan : LinkPlan) (old : List Held) (sub : ℕ) (mid : List Held) (d : Held) (number : ℕ)
    (frame : List ℕ) → IsPicked pace old sub mid → AreSubsOf plan old
    → IsFrameOf (get_or mid sub d).of.link.id.0 (get_or mid sub d).of.sub number A frame
    → IsFrameOf plan.id.0 sub number A frame
frame_at pace plan old sub mid d number frame c n f =
    let same = ap (λ (h : Held). h.of) (item_is pace old sub mid d c) ∙ (chosen_same pace old sub mid c sub).of in
    grind arith

-- Each sub-VL stays the same after one gave a frame.
pub set_same : (pace : Pace) (old : List Held) (sub : ℕ) (mid : List Held) (d h : Held) (frame : List ℕ)
    → IsPicked pace old sub mid → Gives (get_or mid sub d) frame h → AreSameSubs old (set mid sub h)
set_same pace old sub mid d h frame c g = each_set (λ s held. IsSameSub (held_at old s) held) mid sub h nothing_held
    (omega arith)
    (same_sub_on (held_at old sub) (held_at mid sub) h (chosen_same pace old sub mid c sub)
    (gave_same frame (held_at mid sub) h (rw (item_is pace old sub mid d c) at g)))
    (λ s _. chosen_same pace old sub mid c s)

-- The choice, after the chosen sub-VL gave a frame.
pub chosen_gives : (pace : Pace) (old : List Held) (sub : ℕ) (mid : List Held) (d h : Held) (frame : List ℕ)
    → IsPicked pace old sub mid → Gives (get_or mid sub d) frame h
    → IsChoice pace (λ s. (held_view old (set mid sub h)).gives s frame) (held_view old (set mid sub h)).lacks
    (held_view old (set mid sub h)).rests sub
chosen_gives pace old sub mid d h frame c g = record {
  turn = c.choice.turn;
  within = c.choice.within;
  is = c.choice.is;
  chosen = record {
    mid = held_at mid sub;
    asked = c.choice.chosen;
    gives = rw (held_same mid sub h (omega arith)) (rw (item_is pace old sub mid d c) at g);
  };
  before = grind (arith, get_or-set_other);
  others = grind (arith, get_or-set_other);
}

-- If all were passed over, none has anything.
pub none_has : (pace : Pace) (old new : List Held) → PassedOver pace old new pace.sub_vls
    → NoneHas pace (held_view old new).lacks (held_view old new).rests
none_has pace old new p = record {
  each = λ s lt.
      let t = turn_onto pace.sub_vls pace.last s lt in
      grind arith;
  others = grind arith;
}
