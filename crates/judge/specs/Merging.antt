-- The packets of two networks in the order of their times.
use Rattle.std.specs.Prelude.{ℕ, ◌+◌, ◌≡◌, ◌||◌, Bool, true, if◌then◌else◌, List, [], ◌∷◌, drop, unwrap_or, Option, Some, None, ⊤}
use Rattle.afdx_frame.specs.declared.net.Net.TheVariants.{A, B}
use Rattle.capture.specs.Order.{merged}
use Rattle.capture.specs.ReadBack.{is_of as is_on}
use Rattle.judge.specs.Judging.{OnNet}
use Rattle.judge.specs.Types.{Net, Recorded}

-- a packet belongs to a network: any in a capture of that network alone, otherwise the packets of its interface
abbrev pub is_of : Bool → Net → Recorded → Bool
is_of alone net packet = alone || is_on net packet.network

abbrev pub on_net : Net → ℕ → Recorded → OnNet
on_net net number packet = record { net = net; number = number; packet = packet }

-- the packets of a network, with their numbers in the capture, which count from `number`
abbrev pub of_net : Bool → Net → ℕ → List Recorded → List OnNet
of_net alone net number [] = []
of_net alone net number (p ∷ ps) =
    if is_of alone net p then on_net net number p ∷ of_net alone net (number + 1) ps
    else of_net alone net (number + 1) ps

-- the time by which a packet is merged: 0 if none was recorded
abbrev pub time_of : Recorded → ℕ
time_of packet = unwrap_or packet.at 0

-- the time of the first of these packets
abbrev pub first_time : List Recorded → Option ℕ
first_time [] = None
first_time (p ∷ ps) = Some (time_of p)

-- the packets of both networks that are left from these places on, in the order of their times
abbrev pub from_places : Bool → List Recorded → ℕ → List Recorded → ℕ → List OnNet
from_places alone a on_a b on_b =
    merged (λ (p : OnNet). time_of p.packet) (of_net alone A (on_a + 1) (drop on_a a))
    (of_net alone B (on_b + 1) (drop on_b b))

-- there is no packet, or the first one belongs to the network
abbrev pub BeginsOn : Bool → Net → List Recorded → Type 0
BeginsOn alone net [] = ⊤
BeginsOn alone net (p ∷ ps) = is_of alone net p ≡ true
