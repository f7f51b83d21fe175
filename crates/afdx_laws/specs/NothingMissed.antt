-- Nothing missed: the properties of a recording in which a judge finds nothing.
use Rattle.std.specs.Prelude.{ℕ, ◌≡◌, ◌+◌, ◌/◌, ◌^◌, ◌-◌, ◌<◌, ◌≤◌, false, List, [], ◌∷◌, length, map, slice_index, All}
use Rattle.std.specs.List.{AllZip}
use Rattle.afdx_plan.specs.Config.{Plan, IsPlan}
use Rattle.afdx_frame.specs.Profile.{word_at}
use Rattle.afdx_frame.specs.declared.net.Net.{Net}
use Rattle.redundant_mux.specs.Lines.{Entry, entry}
use Rattle.afdx_legal.specs.Accepted.{AreAllowed}
use Rattle.afdx_legal.specs.Legal.{Accepted, IsLegalOn}
use Rattle.afdx_legal.specs.Streams.{TakeTurnsOn, link_stream, more_in, sub_stream}
use Rattle.capture.specs.Recording.{Recorded}
use Rattle.judge.specs.Judging.{OnNet, findings}
use Rattle.judge.specs.Rules.{has_check}
use Rattle.judge.specs.declared.judge.Options.{Options}
use Rattle.afdx_laws.specs.NoFalseAlarm.{packets_of}
use Rattle.afdx_laws.specs.NothingFound.{time_of}

-- an entry that a packet records, its time in microseconds
abbrev pub entry_of : Recorded → Entry
entry_of packet = entry (time_of packet / 1000) packet.bytes

-- the frames that a recording has of a network
abbrev pub sent_to : Net → List OnNet → List Entry
sent_to net recording = map entry_of (packets_of net recording)

-- Packets are bytes. No header checksum is 65,535: no sender computes it, and receivers take it for 0.
pub record IsOctets (packet : Recorded) : Type 0 where
  pub octets : (i : ℕ) → slice_index packet.bytes i < 256
  pub sum : word_at packet.bytes 24 ≡ 65535 → ⊥

-- the frames of a sub-VL of a link
abbrev pub frames_of : (vl sub : ℕ) → List Entry → List (List ℕ)
frames_of vl sub handed = map (λ (e : Entry). e.frame) (sub_stream sub (link_stream vl handed))

-- the last message of these frames is whole
abbrev pub EndsWhole : List (List ℕ) → Type 0
EndsWhole [] = Unit {0}
EndsWhole (f ∷ []) = more_in f ≡ false
EndsWhole (f ∷ (g ∷ fs)) = EndsWhole (g ∷ fs)

-- no frame was recorded with its check sequence
abbrev pub AreUnchecked : Options → List OnNet → Type 0
AreUnchecked options recording = All (λ (p : OnNet). has_check options p.packet ≡ false) recording

-- A judge of a recording from the first frame on, to the end of each message.
pub record IsStrict (plan : Plan) (options : Options) (recording : List OnNet) : Type 0 where
  pub valid : IsPlan plan
  pub profile : options.arinc ≡ false
  pub early : options.late ≡ false
  pub fcs : AreUnchecked options recording
  pub few : length recording < 2 ^ 64 - 1
  pub octets : All (λ (p : OnNet). IsOctets p.packet) recording
  pub whole : (net : Net) (vl sub : ℕ) → EndsWhole (frames_of vl sub (sent_to net recording))

-- Some accepted messages were sent legally to a network, and their sub-VLs take turns.
pub record IsSentTo (plan : Plan) (net : Net) (handed : List Entry) : Type 0 where
  pub accepted : Accepted
  pub allowed : AreAllowed plan accepted
  pub legal : IsLegalOn plan accepted net handed
  pub turns : TakeTurnsOn plan handed

-- A frame was released at most the jitter before it was recorded, and not after it, in whole microseconds. The clock of
-- releases is the jitter ahead, so that none is before its time 0.
pub record IsReleased (jitter : ℕ) (e : Entry) (packet : Recorded) : Type 0 where
  pub frame : e.frame ≡ packet.bytes
  pub least : time_of packet / 1000 ≤ e.at
  pub most : e.at ≤ time_of packet / 1000 + jitter

-- there are release times at which packets were sent legally to a network
pub record IsExplained (plan : Plan) (options : Options) (net : Net) (packets : List Recorded) : Type 0 where
  pub handed : List Entry
  pub released : AllZip (IsReleased options.jitter) handed packets
  pub sent : IsSentTo plan net handed

-- If nothing is found, the recorded frames of each network were sent legally, at times that the jitter explains.
abbrev pub NothingMissed : Type 0
NothingMissed = (plan : Plan) (options : Options) (recording : List OnNet) → IsStrict plan options recording
    → findings plan options recording ≡ [] → (net : Net) → IsExplained plan options net (packets_of net recording)
