-- The order of two networks by time, of their frames in a capture, and iterating over these.
use Rattle.std.specs.Prelude.{nat_lt, if◌then◌else◌, List, [], ◌∷◌, map, ◌≡◌, ◌≤◌, length, Option, Some, None, ℕ, ⊤}
use Rattle.afdx_frame.specs.declared.net.Net.{Net}
use Rattle.afdx_frame.specs.declared.net.Net.TheVariants.{A, B}
use Rattle.redundant_mux.specs.Lines.{Entry, entry}
use Rattle.afdx_frame.specs.declared.net.TheConstants.{GREATEST_FRAME}
use Rattle.capture.specs.declared.in_order.SentFrame.{SentFrame}

-- a frame with its network
pub record Captured : Type 0 where
  pub net : Net
  pub entry : Entry

abbrev pub on : Net → Entry → Captured
on net entry = record { net = net; entry = entry }

-- an element of A, after the earlier elements of B, and before the merged list of the others
abbrev pub before_others : {X : Type 0} → (X → ℕ) → X → (List X → List X) → List X → List X
before_others at a others [] = a ∷ others []
before_others at a others (b ∷ bs) =
    if nat_lt (at b) (at a) then b ∷ before_others at a others bs else a ∷ others (b ∷ bs)

-- the elements of A and of B, each in their order: the earlier one comes first, and at one time A's
abbrev pub merged : {X : Type 0} → (X → ℕ) → List X → List X → List X
merged at [] bs = bs
merged at (a ∷ xs) bs = before_others at a (merged at xs) bs

-- the network whose element comes next, by the times of the next ones
abbrev pub next_net : Option ℕ → Option ℕ → Option Net
next_net None None = None
next_net None (Some b) = Some B
next_net (Some a) None = Some A
next_net (Some a) (Some b) = if nat_lt b a then Some B else Some A

-- the frames of A and of B in the order of their times
unfoldable pub in_order : List Entry → List Entry → List Captured
in_order xs bs = merged (λ (c : Captured). c.entry.at) (map (on A) xs) (map (on B) bs)

-- a packet's network, time and bytes
abbrev pub shown : SentFrame → Captured
shown packet = on packet.net (entry packet.at packet.frame.now)

-- the first packet is given, and the others are left
abbrev pub TakesPacket : List Captured → Option SentFrame → List Captured → Type 0
TakesPacket old None new = (old ≡ []) × (new ≡ [])
TakesPacket old (Some packet) new =
    (old ≡ shown packet ∷ new) × (length packet.frame.now ≤ GREATEST_FRAME)

-- times rise, or stay, from one on
abbrev pub RiseFrom : ℕ → List ℕ → Type 0
RiseFrom moment [] = ⊤
RiseFrom moment (next ∷ others) = (moment ≤ next) × RiseFrom next others

-- the times of frames, and of frames in a capture
abbrev pub moments : List Entry → List ℕ
moments es = map (λ (e : Entry). e.at) es

abbrev pub captured_moments : List Captured → List ℕ
captured_moments cs = map (λ (c : Captured). c.entry.at) cs

-- if the times of both lists rise, so do the capture's
abbrev pub IsInTime : Type 0
IsInTime = (a b : List Entry) → RiseFrom 0 (moments a) → RiseFrom 0 (moments b)
    → RiseFrom 0 (captured_moments (in_order a b))
