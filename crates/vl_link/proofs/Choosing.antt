-- Sub-VLs polled in the order of turns, and the regulation of a link after a frame.
use Rattle.vl_link.proofs.Names.{ℕ, zero, suc, ◌≡◌, ◌≢◌, ◌⊎◌, ◌+◌, ◌<◌, ◌≤◌, List, Bool, true, false, length, set, get_or, arith, inl, inr, ⊎_elim, length-set, get_or-set_same, get_or-set_other, get_or_default, cases_eq, Pace, turn_of, Held, held_at, nothing_held, Asks, Passes, PassedOver, [], ◌∷◌, ◌++◌, ap, ◌∙◌, sym, Some, length_push, sequence_number, link_in, sub_in, IsFrameOf, Entry, entry, Lines, log, log_more, link_stream, A, pace_of, latest_push, with_push_in, with_push_out, get_or-set_at, Networks, logged_for}

-- The sub-VL that was set.
pub held_same : (subs : List Held) (s : ℕ) (h : Held) → s < length subs → held_at (set subs s h) s ≡ h
held_same subs s h lt = get_or-set_same subs s h nothing_held lt

-- A property of each element of a list of which one was set.
pub each_set : {X : Type 0} (P : ℕ → X → Type 0) (xs : List X) (i : ℕ) (new d : X) → i < length xs → P i new
    → ((k : ℕ) → k ≢ i → P k (get_or xs k d)) → (k : ℕ) → P k (get_or (set xs i new) k d)
each_set P xs i new d lt here others k = grind (arith, get_or-set_at, get_or-set_other)

-- A number is among the first k values or isn't.
pub met : (f : ℕ → ℕ) (k s : ℕ) → ((j : ℕ) × (j < k) × (f j ≡ s)) ⊎ ((j : ℕ) → j < k → f j ≡ s → ⊥)
met f zero s = grind arith
met f (suc k) s = ⊎_elim
    (grind arith)
    (λ h. ⊎_elim (λ e. inl (k, (omega arith), e))
    (grind arith) (cases_eq (f k) s))
    (met f k s)

-- the next sub-VL in the order of turns is polled
pub record AskedNext (pace : Pace) (old new : List Held) (k sub : ℕ) (has : Bool) : Type 0 where
  pub count : length new ≡ length old
  pub here : Asks has (held_at old sub) (held_at new sub)
  pub before : (j : ℕ) → j < k
      → Passes (held_at old (turn_of pace.sub_vls pace.last j)) (held_at new (turn_of pace.sub_vls pace.last j))
  pub others : (s : ℕ) → ((j : ℕ) → j ≤ k → turn_of pace.sub_vls pace.last j ≡ s → ⊥) → held_at new s ≡ held_at old s

pub asked_next : (pace : Pace) (old new : List Held) (k sub : ℕ) (d h : Held) (has : Bool) → PassedOver pace old new k
    → sub ≡ turn_of pace.sub_vls pace.last k
    → ((j : ℕ) → j < pace.sub_vls → turn_of pace.sub_vls pace.last j ≡ sub → j ≡ k)
    → k < pace.sub_vls → sub < length new → Asks has (get_or new sub d) h → AskedNext pace old (set new sub h) k sub has
asked_next pace old new k sub d h has p is only kl lt a = grind (arith, length-set, held_same, get_or_default, get_or-set_other)

-- If it had nothing, it is passed over too.
pub passed_next : (pace : Pace) (old new : List Held) (k sub : ℕ) → AskedNext pace old new k sub false
    → sub ≡ turn_of pace.sub_vls pace.last k → PassedOver pace old new (k + 1)
passed_next pace old new k sub asked is = grind arith

-- a sub-VL was polled, or is unchanged
abbrev pub Moves : Held → Held → Type 0
Moves old new = Asks false old new ⊎ (Asks true old new ⊎ (new ≡ old))

-- After all were passed over, each sub-VL was polled or is unchanged.
pub moves_passed : (pace : Pace) (old new : List Held) (n : ℕ) → PassedOver pace old new n → (s : ℕ)
    → Moves (held_at old s) (held_at new s)
moves_passed pace old new n p s = ⊎_elim
    (grind arith)
    (λ h. inr (inr (p.others s h)))
    (met (turn_of pace.sub_vls pace.last) n s)

-- The frame is appended to the link's stream.
pub stream_more : (vl now sub number : ℕ) (networks : Networks) (frame : List ℕ) (lines after : Lines)
    → IsFrameOf vl sub number A frame → after.logged ≡ lines.logged ++ logged_for networks (entry now frame) ∷ []
    → link_stream vl (log after) ≡ link_stream vl (log lines) ++ entry now frame ∷ []
stream_more vl now sub number networks frame lines after of enters =
    ap (link_stream vl) (log_more lines after (logged_for networks (entry now frame)) enters)
    ∙ with_push_in (λ (e : Entry). link_in e.frame) vl (log lines) (entry now frame) of.link

-- The streams of other links are the same.
pub stream_same : (vl other now sub number : ℕ) (networks : Networks) (frame : List ℕ) (lines after : Lines)
    → IsFrameOf vl sub number A frame → after.logged ≡ lines.logged ++ logged_for networks (entry now frame) ∷ []
    → vl ≢ other → link_stream other (log after) ≡ link_stream other (log lines)
stream_same vl other now sub number networks frame lines after of enters ne =
    ap (link_stream other) (log_more lines after (logged_for networks (entry now frame)) enters)
    ∙ with_push_out (λ (e : Entry). link_in e.frame) other (log lines) (entry now frame) (λ e. ne (sym of.link ∙ e))

-- The shaper that recorded the frame agrees with the stream.
pub follows_more : (now sub : ℕ) (frame : List ℕ) (old new : Pace) (stream after : List Entry)
    → old ≡ pace_of old.gap old.sub_vls stream → after ≡ stream ++ entry now frame ∷ [] → sub_in frame ≡ sub
    → new.last ≡ Some (record { at = now; sub = sub })
    → ((i : ℕ) → old.next ≡ sequence_number i → new.next ≡ sequence_number (i + 1))
    → new ≡ pace_of new.gap new.sub_vls after
follows_more now sub frame old new stream after was more is last next = grind (arith, latest_push, length_push)
