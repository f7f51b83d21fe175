-- Losses: one network may lose, repeat and reorder frames, as long as the other carries them all.
use Rattle.std.specs.Prelude.{◌≡◌, ℕ, ◌+◌, ◌-◌, ◌≤◌, ◌<◌, max, Bool, true, false, cond, Some, List, [], ◌∷◌, length, map, take, slice_index_or}
use Rattle.afdx_plan.specs.Plan.{sequence_number}
use Rattle.afdx_frame.specs.declared.net.Net.{Net}
use Rattle.afdx_frame.specs.declared.net.Net.TheVariants.{A, B}
use Rattle.afdx_frame.specs.Header.{number_in, twin_of}
use Rattle.afdx_laws.specs.Receiver.{Tolerance, other, begin, is_accepted, received, carried, IsStream}

abbrev pub same_net : Net → Net → Bool
same_net A A = true
same_net B B = true
same_net A B = false
same_net B A = false

-- A frame that arrives, as its network and its place in a stream of `n` frames. It lies less than 255 places from the
-- farthest that came before it, and from what the whole network carried, which carries every frame, in order.
pub record IsWithin (whole : Net) (n farthest carries : ℕ) (e : Net × ℕ) : Type 0 where
  pub inside : e.1 < n
  pub near : farthest ≤ e.1 + 254
  pub ahead : e.1 ≤ carries + 254
  pub in_order : same_net whole e.0 ≡ true → e.1 ≡ carries

abbrev pub AreWithin : Net → ℕ → ℕ → ℕ → List (Net × ℕ) → Type 0
AreWithin whole n farthest carries [] = Unit {0}
AreWithin whole n farthest carries (e ∷ es) = IsWithin whole n farthest carries e
    × AreWithin whole n (max farthest (e.1 + 1)) (cond (same_net whole e.0) (carries + 1) carries) es

-- the first frame to come, if any does, is the first of the stream
abbrev pub StartsFirst : List (Net × ℕ) → Type 0
StartsFirst [] = Unit {0}
StartsFirst (e ∷ es) = e.1 ≡ 0

-- Frames arrive near to each other, and if none came before them, the stream's first comes first.
pub record AreClose (whole : Net) (n farthest carries : ℕ) (came : List (Net × ℕ)) : Type 0 where
  pub within : AreWithin whole n farthest carries came
  pub first : farthest ≡ 0 → StartsFirst came

-- the frame at place `i`, as a network carries it
abbrev pub frame_at : List (List ℕ) → Net → ℕ → List ℕ
frame_at stream net i = twin_of net (slice_index_or stream i [])

abbrev pub frames_at : List (List ℕ) → List (Net × ℕ) → List (Net × List ℕ)
frames_at stream came = map (λ (e : Net × ℕ). (e.0, frame_at stream e.0 e.1)) came

-- only the next number is new
abbrev pub next_alone : ℕ → Tolerance
next_alone check = record { check = check; window = 1 }

-- A receiver for which only the next number is new accepts each frame once, in order, at least as far as the whole
-- network carried them.
abbrev pub IsMasked : Net → ℕ → List (List ℕ) → List (Net × ℕ) → Type 0
IsMasked whole check stream came = (many : ℕ)
    × (length (carried whole came) ≤ many)
    × (map (twin_of A) (received number_in (next_alone check) begin (frames_at stream came))
    ≡ take many (map (twin_of A) stream))

-- A receiver masks the loss if the frames arrive near to each other, the stream's first before all others.
abbrev pub LossMasked : Type 0
LossMasked = (whole : Net) (check : ℕ) (stream : List (List ℕ)) (came : List (Net × ℕ)) → 1 ≤ check
    → IsStream stream → AreClose whole (length stream) 0 0 came → IsMasked whole check stream came

-- the first frame that a network carries, if any, is the first of the stream
abbrev pub BeginsFirst : Net → List (Net × ℕ) → Type 0
BeginsFirst net came = (place : ℕ) (later : List ℕ) → carried net came ≡ place ∷ later → place ≡ 0

-- The stream's first frame comes before all others if both networks begin with it. The whole one does, as it carries
-- every frame.
abbrev pub FirstComes : Type 0
FirstComes = (whole : Net) (n : ℕ) (came : List (Net × ℕ)) → AreWithin whole n 0 0 came
    → BeginsFirst (other whole) came → AreClose whole n 0 0 came

-- A receiver that starts with the stream masks a loss if both networks begin with the first frame.
abbrev pub MaskedFromFirst : Type 0
MaskedFromFirst = (whole : Net) (check : ℕ) (stream : List (List ℕ)) (came : List (Net × ℕ))
    → 1 ≤ check → IsStream stream → AreWithin whole (length stream) 0 0 came → BeginsFirst (other whole) came
    → IsMasked whole check stream came

-- numbers as they arrive: network A, which is ahead, loses 1
abbrev pub one_lost : List (Net × ℕ)
one_lost = (A, 0) ∷ (A, 2) ∷ (B, 0) ∷ (B, 1) ∷ (B, 2) ∷ []

-- A receiver for which the next two numbers are new drops B's copy of 1. With only the next new, it accepts it.
abbrev pub LossNotMasked : Type 0
LossNotMasked =
    (received (λ (n : ℕ). n) (record { check = 2; window = 2 }) begin one_lost ≡ 0 ∷ 2 ∷ [])
    × (received (λ (n : ℕ). n) (record { check = 2; window = 1 }) begin one_lost ≡ 0 ∷ 1 ∷ 2 ∷ [])

-- The bound on the lag is exact, for each window: if network A has carried 256 - window frames more than B, B's next
-- frame, an old one, is accepted as new.
abbrev pub NumbersClash : Type 0
NumbersClash = (check window lag place : ℕ) → 1 ≤ check → 1 ≤ window → 1 ≤ lag → lag + window ≡ 256 → 1 ≤ place
    → is_accepted (record { check = check; window = window }) (record {
      seen_a = Some (sequence_number (place + lag - 1));
      seen_b = Some (sequence_number (place - 1));
      accepted = Some (sequence_number (place + lag - 1));
    }) B (sequence_number place) ≡ true
