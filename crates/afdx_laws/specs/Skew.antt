-- The skew of the two networks in time.
use Rattle.std.specs.Prelude.{◌≡◌, ℕ, ◌+◌, ◌-◌, ◌*◌, ◌/◌, ◌≤◌, ◌<◌, ◌↔◌, List, ◌∷◌, ◌++◌, length, []}
use Rattle.afdx_frame.specs.declared.net.Net.{Net}
use Rattle.afdx_laws.specs.Receiver.{Tolerance, IsFitFor, carried, IsNear}
use Rattle.afdx_frame.specs.declared.net.Net.TheVariants.{A, B}
use Rattle.afdx_laws.specs.WorkedDelivery.{plain_receiver}

-- Arrival `k` is at time `at k`. Each network delivers frame `i` at most `delay` after its release, and not before.
abbrev pub IsDelivered : ℕ → (ℕ → ℕ) → (ℕ → ℕ) → List (Net × List ℕ) → Type 0
IsDelivered delay released at arrivals =
    (before after : List (Net × List ℕ)) (net : Net) (frame : List ℕ) → arrivals ≡ before ++ (net, frame) ∷ after
    → (released (length (carried net before)) ≤ at (length before))
    × (at (length before) ≤ released (length (carried net before)) + delay)

-- the most frames by which one network may lag the other
abbrev pub frames_behind : ℕ → ℕ → ℕ
frames_behind gap delay = 1 + delay / gap

-- If frames are released at least a gap apart, neither network lags the other by more than 1 + delay / gap frames.
abbrev pub SkewIsNear : Type 0
SkewIsNear = (gap delay : ℕ) (released at : ℕ → ℕ) (arrivals : List (Net × List ℕ)) → 1 ≤ gap
    → ((i : ℕ) → released i + gap ≤ released (i + 1)) → ((k : ℕ) → at k ≤ at (k + 1))
    → IsDelivered delay released at arrivals → IsNear (frames_behind gap delay) arrivals

-- A receiver tolerates exactly the delays under 255 - window gaps: under 254 gaps if only the next number is new.
abbrev pub SkewIsFit : Type 0
SkewIsFit = (gap delay : ℕ) (tolerance : Tolerance) → 1 ≤ gap → 1 ≤ tolerance.check → 1 ≤ tolerance.window
    → IsFitFor (frames_behind gap delay) tolerance ↔ (delay < (255 - tolerance.window) * gap)

abbrev pub released_at : ℕ → ℕ
released_at i = 1000 * i

abbrev pub arrival_of : ℕ → ℕ
arrival_of k = 300 + 100 * k

-- the first frame comes from network A, and then from B; its bytes don't matter
abbrev pub both_copies : List (Net × List ℕ)
both_copies = (A, 7 ∷ []) ∷ (B, 7 ∷ []) ∷ []

-- Both copies meet the premises, and are near with a lag of one frame, not of none.
pub record ComesInTime : Type 0 where
  pub apart : (i : ℕ) → released_at i + 1000 ≤ released_at (i + 1)
  pub forward : (k : ℕ) → arrival_of k ≤ arrival_of (k + 1)
  pub delivered : IsDelivered 400 released_at arrival_of both_copies
  pub near : IsNear (frames_behind 1000 400) both_copies
  pub exact : IsNear 0 both_copies → ⊥

-- If only the next number is new, a receiver tolerates a delay of a microsecond less than 254 milliseconds: the
-- networks are at most 254 frames apart. With 254 milliseconds they may be 255 apart, too many.
pub record BearsUnder254 : Type 0 where
  pub under : 253999 < (255 - plain_receiver.window) * 1000
  pub most : frames_behind 1000 253999 ≡ 254
  pub fit : IsFitFor (frames_behind 1000 253999) plain_receiver
  pub over : 254000 < (255 - plain_receiver.window) * 1000 → ⊥
  pub more : frames_behind 1000 254000 ≡ 255
  pub unfit : IsFitFor (frames_behind 1000 254000) plain_receiver → ⊥
