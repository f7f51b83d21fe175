-- No false alarm: the findings of a judge in a recording of legal transmission.
use Rattle.std.specs.Prelude.{ℕ, ◌≡◌, ◌+◌, ◌*◌, ◌≤◌, ◌<◌, true, false, List, [], ◌++◌, length, map, filter, All, Contains, Some}
use Rattle.std.specs.List.{AllZip}
use Rattle.afdx_plan.specs.Config.{Plan, IsPlan, link_plan_at}
use Rattle.afdx_plan.specs.Plan.{bag_micros, is_both}
use Rattle.afdx_frame.specs.declared.net.Net.{Net}
use Rattle.afdx_frame.specs.declared.net.Net.TheVariants.{A, B}
use Rattle.redundant_mux.specs.Lines.{Entry}
use Rattle.afdx_legal.specs.Accepted.{AreAllowed}
use Rattle.afdx_legal.specs.Legal.{Accepted, IsLegal}
use Rattle.afdx_legal.specs.Streams.{TakeTurns}
use Rattle.capture.specs.Recording.{Recorded}
use Rattle.judge.specs.Judging.{OnNet, findings}
use Rattle.judge.specs.Merging.{time_of}
use Rattle.judge.specs.Rules.{has_check}
use Rattle.judge.specs.Twins.{apart, same_net}
use Rattle.judge.specs.declared.finding.Finding.{Finding}
use Rattle.judge.specs.declared.finding.FindingKind.TheVariants.{Missing}
use Rattle.judge.specs.declared.judge.Options.{Options}
use Rattle.afdx_laws.specs.Frames.{IsRecordedAs}

-- the frames that an emitter of a valid plan sent to the two networks
pub record IsSent (plan : Plan) (accepted : Accepted) (a b : List Entry) : Type 0 where
  pub valid : IsPlan plan
  pub legal : IsLegal plan accepted a b
  pub allowed : AreAllowed plan accepted
  pub turns : TakeTurns plan a b

-- A packet is an entry's frame, whole, at most the jitter after the entry's time. Time 0 of the network's entries is
-- `origin` on the recording's clock, in nanoseconds, with the network's lag.
pub record IsRecord (origin : ℕ) (options : Options) (e : Entry) (packet : Recorded) : Type 0 where
  pub at : ℕ
  pub told : packet.at ≡ Some at
  pub least : origin + 1000 * e.at ≤ at
  pub most : at ≤ origin + 1000 * (e.at + options.jitter)
  pub whole : packet.original ≡ length packet.bytes
  pub bytes : IsRecordedAs (has_check options packet) e.frame packet.bytes

-- the packets of a network, in order
abbrev pub packets_of : Net → List OnNet → List Recorded
packets_of net recording = map (λ (p : OnNet). p.packet) (filter (λ (p : OnNet). same_net p.net net) recording)

-- Packets record consecutive entries of the frames sent to a network. They begin with the first one, if the recording
-- didn't begin late.
pub record IsRunOf (origin : ℕ) (options : Options) (handed : List Entry) (packets : List Recorded) : Type 0 where
  pub before : List Entry
  pub recorded : List Entry
  pub after : List Entry
  pub whole : handed ≡ before ++ (recorded ++ after)
  pub first : options.late ≡ false → before ≡ []
  pub each : AllZip (IsRecord origin options) recorded packets

-- a recording of both networks, however their packets interleave; each lags by a time of its own
pub record IsRecording (origin : Net → ℕ) (options : Options) (a b : List Entry) (recording : List OnNet) : Type 0 where
  pub of_a : IsRunOf (origin A) options a (packets_of A recording)
  pub of_b : IsRunOf (origin B) options b (packets_of B recording)

-- the lag of one network behind the other, in nanoseconds
abbrev pub lag_of : (Net → ℕ) → ℕ
lag_of origin = apart (origin A) (origin B)

-- The judge expects this project's frames. No twin can be mistaken: a number comes again after 255 gaps.
pub record AreFit (plan : Plan) (options : Options) (origin : Net → ℕ) : Type 0 where
  pub profile : options.arinc ≡ false
  pub skew : (k : ℕ) → k < length plan.links → is_both (link_plan_at plan.links k).networks ≡ true
      → 1000 * (options.skew + options.jitter) + lag_of origin < 255000 * bag_micros (link_plan_at plan.links k).bag

abbrev pub IsMissing : Finding → Type 0
IsMissing finding = finding.kind ≡ Missing

-- In a recording of legal transmission, each finding is a frame without a twin.
abbrev pub NoFalseAlarm : Type 0
NoFalseAlarm = (plan : Plan) (accepted : Accepted) (a b : List Entry) (options : Options) (origin : Net → ℕ)
    (recording : List OnNet) → IsSent plan accepted a b → AreFit plan options origin
    → IsRecording origin options a b recording → All IsMissing (findings plan options recording)

-- the other network has a packet more than the skew before the frame of a finding
pub record IsBegun (options : Options) (recording : List OnNet) (finding : Finding) : Type 0 where
  pub packet : OnNet
  pub member : Contains recording packet
  pub net : same_net packet.net finding.net ≡ false
  pub earlier : time_of packet.packet + 1000 * options.skew < finding.at

-- No finding of such a recording comes from a recorder that began later than the other.
abbrev pub NoneByBeginning : Type 0
NoneByBeginning = (plan : Plan) (accepted : Accepted) (a b : List Entry) (options : Options) (origin : Net → ℕ)
    (recording : List OnNet) → IsSent plan accepted a b → AreFit plan options origin
    → IsRecording origin options a b recording → All (IsBegun options recording) (findings plan options recording)
