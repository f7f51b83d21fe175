-- The whole network makes good what the other one loses.
use Rattle.afdx_laws.proofs.Names.{◌&&◌, ◌≡◌, ℕ, suc, ◌+◌, ◌-◌, ◌≤◌, ◌<◌, ◌⊎◌, inl, inr, Bool, true, false, cond, max, List, [], ◌∷◌, ◌++◌, length, map, take, refl, ◌∙◌, arith, None, cases_Bool, and_parts, append-nil, get_or-map, length-map, sequence_number, Net, A, twin_of, State, other, begin, is_valid, is_ahead, received, carried, with_seen, with_accepted, seen_on, number_in, same_net, AreWithin, StartsFirst, AreClose, BeginsFirst, frame_at, LossMasked, FirstComes, MaskedFromFirst, NumbersClash}
use Rattle.afdx_laws.proofs.ListLemmas.{last, valid_next, old_is_ahead, differ}
use Rattle.afdx_laws.proofs.Receiving.{IsPlaced, grows, placed}

is_next : (c i high : ℕ) → high ≤ i + 254 → c ≤ high → i < c + 255 → (high ≡ 0 → i ≡ 0) → (high ≡ 0) ⊎ (1 ≤ c)
    → is_ahead 1 (last c) (sequence_number i) ≡ true → i ≡ c
is_next c i high near within far first begun new = grind (arith, differ)

-- if the receiver drops a frame, it has accepted at least as many as the whole network carried, and at least one
dropped : (check : ℕ) (whole net : Net) (b c i high : ℕ) (state : State) → 1 ≤ check → seen_on whole state ≡ last b
    → b ≤ c → c ≤ high → (high ≡ 0 → i ≡ 0) → (high ≡ 0) ⊎ (1 ≤ c) → (same_net whole net ≡ true → i ≡ b)
    → (is_valid check (seen_on net state) (sequence_number i) && is_ahead 1 (last c) (sequence_number i)) ≡ false
    → (cond (same_net whole net) (b + 1) b ≤ c) × (1 ≤ c)
dropped check whole net b c i high state some seen behind within first begun own drops = grind (arith, valid_next)

-- the stream is accepted in order, at least as far as a place
pub record Masks {F : Type 0} (h : F → F) (stream got : List F) (c reach : ℕ) : Type 0 where
  pub many : ℕ
  pub reaches : reach ≤ many
  pub are : take c stream ++ map h got ≡ take many stream

masks : {F : Type 0} (number : F → ℕ) (h : F → F) (stream : List F) (frame : Net → ℕ → F)
    (check : ℕ) (whole : Net) (es : List (Net × ℕ)) (state : State) (high b c : ℕ)
    → 1 ≤ check → ((net : Net) (i : ℕ) → i < length stream → IsPlaced number h stream i (frame net i))
    → AreWithin whole (length stream) high b es → (high ≡ 0 → StartsFirst es)
    → seen_on whole state ≡ last b → state.accepted ≡ last c → b ≤ c → c ≤ high → (high ≡ 0) ⊎ (1 ≤ c)
    → Masks h stream (received number (record { check = check; window = 1 }) state
    (map (λ (e : Net × ℕ). (e.0, frame e.0 e.1)) es)) c (b + length (carried whole es))
masks number h stream frame check whole [] state high b c some each close first seen took behind within begun =
    grind (arith, append-nil (take c stream))
masks {F = F} number h stream frame check whole
    ((net, i) ∷ es) state high b c some each close first seen took behind within begun =
    let here = close.0 in
    let near = here.near in
    let f : F = frame net i in
    let after : State = with_seen net (number f) state in
    let seen_next : seen_on whole after ≡ last (cond (same_net whole net) (b + 1) b) = grind arith in
    let valid : Bool = is_valid check (seen_on net state) (sequence_number i) in
    let new : Bool = is_ahead 1 (last c) (sequence_number i) in
    elim (cases_Bool (valid && new)) [
      | inl takes ↦
          let next : i ≡ c = is_next c i high near within (omega arith) first begun (and_parts valid new takes).1 in
          let taken : (with_accepted (number f) after).accepted ≡ last (suc c) = grind arith in
          let more = masks number h stream frame check whole es (with_accepted (number f) after) (max high (i + 1))
          (cond (same_net whole net) (b + 1) b) (suc c) some each close.1 (λ none. absurd (omega arith))
          ((grind arith) ∙ seen_next) taken (grind arith) (omega arith) (inr (omega arith)) in
          grind (arith, grows)
      | inr drops ↦
          let kept = dropped check whole net b c i high state some seen behind within first begun here.in_order drops in
          let more = masks number h stream frame check whole es after (max high (i + 1))
          (cond (same_net whole net) (b + 1) b) c some each close.1 (λ none. absurd (omega arith))
          seen_next ((grind arith) ∙ took) kept.0 (omega arith) (inr kept.1) in
          grind arith
    ]

pub loss_masked_holds : LossMasked
loss_masked_holds whole check stream came some frames close =
    let size = length-map stream (twin_of A) in
    let each : (net : Net) (i : ℕ) → i < length (map (twin_of A) stream)
    → IsPlaced number_in (twin_of A) (map (twin_of A) stream) i (frame_at stream net i) = λ net i inside.
    let own = length-map stream (twin_of net) in
    placed net stream i (frame_at stream net i) frames.long frames.numbered (omega arith)
    (grind (arith, get_or-map)) in
    let close_map : AreClose whole (length (map (twin_of A) stream)) 0 0 came = rw size close in
    let m = masks number_in (twin_of A) (map (twin_of A) stream)
    (frame_at stream) check whole came begin 0 0 0 some each
    close_map.within close_map.first (begun whole) refl (omega arith) (omega arith) (inl refl) in
    (m.many, omega arith, m.are)
  where
    begun : (whole : Net) → seen_on whole begin ≡ None
    begun whole = grind arith

starts : (whole : Net) (n : ℕ) (came : List (Net × ℕ)) → AreWithin whole n 0 0 came → BeginsFirst (other whole) came → StartsFirst came
starts whole n [] within begins = tt
starts whole n ((net, i) ∷ es) within begins = grind (arith, within.0.in_order, begins i (carried (other whole) es))

pub first_comes_holds : FirstComes
first_comes_holds whole n came within begins = grind (arith, starts)

pub masked_from_first_holds : MaskedFromFirst
masked_from_first_holds whole check stream came some frames within begins = grind (arith, loss_masked_holds, first_comes_holds)

pub numbers_clash_holds : NumbersClash
numbers_clash_holds check window lag place checks opens behind apart old =
    grind (arith, valid_next check place, old_is_ahead window (place + lag - 1) place)
