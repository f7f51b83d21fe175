-- The receiving end of a virtual link (ARINC 664 Part 7, integrity checking and redundancy management): a check of each
-- network's numbers, then the first valid frame wins. It reads only the numbers, so frames may be of any type.
use Rattle.std.specs.Prelude.{◌≡◌, ℕ, zero, suc, ◌+◌, ◌≤◌, nat_eq, ◌&&◌, ◌||◌, Bool, true, false, if◌then◌else◌, Option, Some, None, List, [], ◌∷◌, ◌++◌, length, max, map, take, All}
use Rattle.afdx_frame.specs.declared.net.Net.{Net}
use Rattle.afdx_frame.specs.declared.net.Net.TheVariants.{A, B}
use Rattle.afdx_frame.specs.Header.{number_in, twin_of}
use Rattle.afdx_legal.specs.Streams.{IsNumbered, IsPrefixOf}

-- the other network
abbrev pub other : Net → Net
other A = B
other B = A

-- the number after a number
abbrev pub next_number : ℕ → ℕ
next_number n = if nat_eq n 255 then 1 else n + 1

-- `n` is one of the `many` numbers after `last`
abbrev pub ahead : ℕ → ℕ → ℕ → Bool
ahead zero last n = false
ahead (suc many) last n = nat_eq n (next_number last) || ahead many (next_number last) n

-- A receiver's two tolerances: the check takes `check` numbers after the last one of its network as valid, and `window`
-- numbers after the last accepted one are new. A frame that is not new is the copy of an old one. A receiver that
-- expects only the next number has 1; the standard's check of the next two has 2.
pub record Tolerance : Type 0 where
  pub check : ℕ
  pub window : ℕ

-- the number seen last on each network, and the one accepted last
pub record State : Type 0 where
  pub seen_a : Option ℕ
  pub seen_b : Option ℕ
  pub accepted : Option ℕ

abbrev pub begin : State
begin = record { seen_a = None; seen_b = None; accepted = None }

abbrev pub is_ahead : ℕ → Option ℕ → ℕ → Bool
is_ahead many None n = true
is_ahead many (Some last) n = ahead many last n

-- the integrity check: soon after the last one of its network, or 0, with which transmitters begin
abbrev pub is_valid : ℕ → Option ℕ → ℕ → Bool
is_valid many last n = nat_eq n 0 || is_ahead many last n

abbrev pub seen_on : Net → State → Option ℕ
seen_on A state = state.seen_a
seen_on B state = state.seen_b

abbrev pub with_seen : Net → ℕ → State → State
with_seen A n state = record { seen_a = Some n; seen_b = state.seen_b; accepted = state.accepted }
with_seen B n state = record { seen_a = state.seen_a; seen_b = Some n; accepted = state.accepted }

abbrev pub with_accepted : ℕ → State → State
with_accepted n state = record { seen_a = state.seen_a; seen_b = state.seen_b; accepted = Some n }

abbrev pub is_accepted : Tolerance → State → Net → ℕ → Bool
is_accepted tolerance state net n =
    is_valid tolerance.check (seen_on net state) n && is_ahead tolerance.window state.accepted n

-- the accepted frames, of the frames that arrive from both networks in this order
abbrev pub received : {F : Type 0} → (F → ℕ) → Tolerance → State → List (Net × F) → List F
received number tolerance state [] = []
received number tolerance state (e ∷ es) =
    if is_accepted tolerance state e.0 (number e.1)
    then e.1 ∷ received number tolerance
    (with_accepted (number e.1) (with_seen e.0 (number e.1) state)) es
    else received number tolerance (with_seen e.0 (number e.1) state) es

abbrev pub carried_by : {F : Type 0} → Net → Net → F → List F → List F
carried_by A A frame later = frame ∷ later
carried_by B B frame later = frame ∷ later
carried_by A B frame later = later
carried_by B A frame later = later

-- the frames that one network carried, in order
abbrev pub carried : {F : Type 0} → Net → List (Net × F) → List F
carried net [] = []
carried net (e ∷ es) = carried_by net e.0 e.1 (carried net es)

-- Each frame that comes is at most `lag` frames after the farthest one that the other network carried before it.
abbrev pub IsNear : {F : Type 0} → ℕ → List (Net × F) → Type 0
IsNear {F} lag arrivals = (before after : List (Net × F)) (net : Net) (frame : F)
    → arrivals ≡ before ++ (net, frame) ∷ after
    → length (carried (other net) before) ≤ length (carried net before) + lag

-- The receiver takes the next number at least, and at this lag no old frame's number is in its window.
pub record IsFitFor (lag : ℕ) (tolerance : Tolerance) : Type 0 where
  pub checks : 1 ≤ tolerance.check
  pub opens : 1 ≤ tolerance.window
  pub apart : lag + tolerance.window ≤ 255

-- a frame that has all fields that are read
abbrev pub IsLong : List ℕ → Type 0
IsLong frame = 60 ≤ length frame

-- a link's stream of frames, numbered from the first on
pub record IsStream (stream : List (List ℕ)) : Type 0 where
  pub long : All IsLong stream
  pub numbered : IsNumbered number_in 0 stream

-- a link's stream as two networks carried it, in the order of arrival: each network carried a prefix of the stream,
-- without a gap, and the two are near
pub record AreCarried (lag : ℕ) (stream : List (List ℕ)) (arrivals : List (Net × List ℕ)) : Type 0 where
  pub on_a : IsPrefixOf (carried A arrivals) (map (twin_of A) stream)
  pub on_b : IsPrefixOf (carried B arrivals) (map (twin_of B) stream)
  pub near : IsNear lag arrivals

-- the number of frames from the network that carried more
abbrev pub most_carried : List (Net × List ℕ) → ℕ
most_carried arrivals = max (length (carried A arrivals)) (length (carried B arrivals))

-- The receiver accepts each frame of the stream once, in order, as far as one network carried it. Frames are compared
-- as network A has them.
abbrev pub IsOnce : Tolerance → List (List ℕ) → List (Net × List ℕ) → Type 0
IsOnce tolerance stream arrivals = map (twin_of A) (received number_in tolerance begin arrivals)
    ≡ take (most_carried arrivals) (map (twin_of A) stream)

-- A receiver accepts each frame once, in any interleaving of the two networks.
abbrev pub ExactlyOnce : Type 0
ExactlyOnce = (lag : ℕ) (tolerance : Tolerance) (stream : List (List ℕ))
    (arrivals : List (Net × List ℕ)) → IsFitFor lag tolerance → IsStream stream → AreCarried lag stream arrivals
    → IsOnce tolerance stream arrivals
