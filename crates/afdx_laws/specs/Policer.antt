-- The policer of a switch (ARINC 664 Part 7, traffic policing): a token bucket for each virtual link.
use Rattle.std.specs.Prelude.{◌≡◌, ℕ, ◌+◌, ◌-◌, ◌*◌, ◌≤◌, ◌<◌, min, nat_le, if◌then◌else◌, None, List, [], ◌∷◌, length, map, sum_by, All, replicate}
use Rattle.std.specs.List.{AllZip}
use Rattle.redundant_mux.specs.Lines.{Entry, entry}
use Rattle.afdx_legal.specs.Streams.{IsSpaced}
use Rattle.afdx_laws.specs.Rows.{BothFail}

-- a frame that arrives at the switch: its time in microseconds, and its bytes on the wire
pub record Arrival : Type 0 where
  pub at : ℕ
  pub size : ℕ

-- a switch's rule for a link: its gap in microseconds, its greatest frame in bytes on the wire, and the greatest jitter
-- that it allows, in microseconds
pub record Rule : Type 0 where
  pub gap : ℕ
  pub lmax : ℕ
  pub jitter : ℕ

-- A link's account, and when it was last filled. A credit of one byte counts as `gap`, so that lmax bytes a gap are
-- lmax a microsecond, without fractions.
pub record Account : Type 0 where
  pub credit : ℕ
  pub since : ℕ

-- the account is never above lmax (1 + jitter / gap) bytes
abbrev pub limit : Rule → ℕ
limit rule = rule.lmax * (rule.gap + rule.jitter)

-- an account at its limit, as a switch begins
abbrev pub full : Rule → Account
full rule = record { credit = limit rule; since = 0 }

-- an account at `now`: credit grows by lmax bytes a gap, up to the limit
abbrev pub filled : Rule → Account → ℕ → Account
filled rule account now = record {
  credit = min (limit rule) (account.credit + rule.lmax * (now - account.since));
  since = now;
}

abbrev pub paid : Account → ℕ → Account
paid account price = record { credit = account.credit - price; since = account.since }

-- A frame is charged by its bytes, or each frame as the greatest one.
pub data Charge : Type 0 where
  by_bytes : Charge
  by_frames : Charge

abbrev pub price : Charge → Rule → Arrival → ℕ
price by_bytes rule frame = frame.size * rule.gap
price by_frames rule frame = rule.lmax * rule.gap

-- the frames that pass: the account pays their price
abbrev pub passed : Charge → Rule → Account → List Arrival → List Arrival
passed charge rule account [] = []
passed charge rule account (frame ∷ frames) =
    if nat_le (price charge rule frame) (filled rule account frame.at).credit
    then frame ∷ passed charge rule
    (paid (filled rule account frame.at) (price charge rule frame)) frames
    else passed charge rule (filled rule account frame.at) frames

-- a frame on its way: the times of its release and of its arrival at the switch, and its size
pub record Passage : Type 0 where
  pub released : ℕ
  pub arrived : ℕ
  pub size : ℕ

abbrev pub arrival : Passage → Arrival
arrival passage = record { at = passage.arrived; size = passage.size }

-- a frame that arrives at most the jitter after its release, and is no greater than the rule allows
pub record IsOnTime (rule : Rule) (passage : Passage) : Type 0 where
  pub after : passage.released ≤ passage.arrived
  pub soon : passage.arrived ≤ passage.released + rule.jitter
  pub small : passage.size ≤ rule.lmax

-- frames on time, neighbours released at least a gap apart
abbrev pub AreOnTime : Rule → List Passage → Type 0
AreOnTime rule [] = Unit {0}
AreOnTime rule (first ∷ []) = IsOnTime rule first
AreOnTime rule (first ∷ second ∷ later) = IsOnTime rule first
    × (first.released + rule.gap ≤ second.released)
    × AreOnTime rule (second ∷ later)

-- all frames on their way pass, from a full account on
abbrev pub AllPass : Charge → Rule → List Passage → Type 0
AllPass charge rule passages = passed charge rule (full rule) (map arrival passages) ≡ map arrival passages

-- A switch drops no frame that is on time.
abbrev pub NoneDropped : Type 0
NoneDropped = (charge : Charge) (rule : Rule) (passages : List Passage) → AreOnTime rule passages
    → AllPass charge rule passages

abbrev pub cost : Charge → Rule → List Arrival → ℕ
cost charge rule frames = sum_by (price charge rule) frames

-- times that don't go back, from a start to an end
abbrev pub AreBetween : ℕ → ℕ → List Arrival → Type 0
AreBetween start end [] = start ≤ end
AreBetween start end (frame ∷ later) = (start ≤ frame.at) × AreBetween frame.at end later

-- A switch doesn't let everything pass: whatever arrives, and whatever the credit is, the frames that pass between two
-- times cost at most lmax bytes for each gap between them, and lmax (1 + jitter / gap) more.
abbrev pub NoMorePasses : Type 0
NoMorePasses = (charge : Charge) (rule : Rule) (credit start end : ℕ) (frames : List Arrival)
    → AreBetween start end frames
    → cost charge rule (passed charge rule (record { credit = credit; since = start }) frames)
    ≤ rule.lmax * (rule.gap + rule.jitter + (end - start))

-- With no jitter, of two greatest frames less than a gap apart the second is dropped.
abbrev pub EarlyDropped : Type 0
EarlyDropped = (charge : Charge) (gap lmax a b : ℕ) → 1 ≤ lmax → a ≤ b → b < a + gap
    → passed charge (record { gap = gap; lmax = lmax; jitter = 0 })
    (full (record { gap = gap; lmax = lmax; jitter = 0 }))
    (record { at = a; size = lmax } ∷ record { at = b; size = lmax } ∷ [])
    ≡ record { at = a; size = lmax } ∷ []

-- with its check sequence, a released frame has lmax bytes at most
abbrev pub IsUpTo : ℕ → Entry → Type 0
IsUpTo lmax e = length e.frame + 4 ≤ lmax

-- a released frame on its way to a switch: it arrives at most the jitter after its release, and takes `around` bytes on
-- the wire beside its own (none, or 20 of preamble, delimiter and gap)
pub record IsOnItsWay (around jitter : ℕ) (e : Entry) (passage : Passage) : Type 0 where
  pub released : passage.released ≡ e.at
  pub size : passage.size ≡ length e.frame + 4 + around
  pub after : e.at ≤ passage.arrived
  pub soon : passage.arrived ≤ e.at + jitter

-- a switch's rule if frames take `around` bytes on the wire beside their own
abbrev pub rule_around : (gap lmax jitter around : ℕ) → Rule
rule_around gap lmax jitter around = record { gap = gap; lmax = lmax + around; jitter = jitter }

-- A switch that polices by the gap, the greatest frame and the jitter drops no frame of a spaced stream, if each is
-- delayed by at most the jitter.
abbrev pub StreamPasses : Type 0
StreamPasses = (charge : Charge) (gap lmax jitter around : ℕ) (stream : List Entry) (passages : List Passage)
    → IsSpaced gap None stream → All (IsUpTo lmax) stream → AllZip (IsOnItsWay around jitter) stream passages
    → AllPass charge (rule_around gap lmax jitter around) passages

-- A worked policing: a gap of 1,000 microseconds, frames of up to 100 bytes, and up to 200 microseconds of jitter.

abbrev pub worked_rule : Rule
worked_rule = record { gap = 1000; lmax = 100; jitter = 200 }

abbrev pub passage : (released arrived size : ℕ) → Passage
passage released arrived size = record { released = released; arrived = arrived; size = size }

-- frames released at 0, 1,000 and 2,000, the first of them delayed
abbrev pub three_passages : List Passage
three_passages = passage 0 200 100 ∷ passage 1000 1000 100 ∷ passage 2000 2000 80 ∷ []

-- greatest frames that arrive at these times
abbrev pub greatest_at : List ℕ → List Arrival
greatest_at moments = map (λ (moment : ℕ). record { at = moment; size = 100 }) moments

-- the greatest frames at these times that pass, starting with a full account
abbrev pub pass_of : Rule → List ℕ → List Arrival
pass_of rule moments = passed by_bytes rule (full rule) (greatest_at moments)

-- Three frames on time pass, however the switch charges. Of greatest frames at 200, 1,000 and 1,700 the last is
-- dropped.
pub record PolicesThree : Type 0 where
  pub on_time : AreOnTime worked_rule three_passages
  pub bytes_pass : AllPass by_bytes worked_rule three_passages
  pub frames_pass : AllPass by_frames worked_rule three_passages
  pub early : pass_of worked_rule (200 ∷ 1000 ∷ 1700 ∷ []) ≡ greatest_at (200 ∷ 1000 ∷ [])

-- times of greatest frames; the account cannot pay the second
abbrev pub four_moments : List ℕ
four_moments = 0 ∷ 500 ∷ 800 ∷ 1800 ∷ []

-- With a full account at the start the other three pass, and cost exactly what the rule allows. With twice the credit
-- no more pass.
pub record SpendsAll : Type 0 where
  pub between : AreBetween 0 1800 (greatest_at four_moments)
  pub passes : pass_of worked_rule four_moments ≡ greatest_at (0 ∷ 800 ∷ 1800 ∷ [])
  pub spends : cost by_bytes worked_rule (pass_of worked_rule four_moments)
      ≡ worked_rule.lmax * (worked_rule.gap + worked_rule.jitter + (1800 - 0))
  pub twice : passed by_bytes worked_rule (record { credit = 2 * limit worked_rule; since = 0 })
      (greatest_at four_moments)
      ≡ greatest_at (0 ∷ 800 ∷ 1800 ∷ [])

abbrev pub back_and_forth : List ℕ
back_and_forth = 1000 ∷ 0 ∷ 1000 ∷ 0 ∷ 1000 ∷ []

-- If times go back, the account fills twice for the same time: three frames pass, and cost more than the rule allows.
pub record NeedsRisingMoments : Type 0 where
  pub passes : pass_of worked_rule back_and_forth ≡ greatest_at (1000 ∷ 1000 ∷ 1000 ∷ [])
  pub rising : BothFail (AreBetween 0 1000 (greatest_at back_and_forth))
      (cost by_bytes worked_rule (pass_of worked_rule back_and_forth)
      ≤ worked_rule.lmax * (worked_rule.gap + worked_rule.jitter + (1000 - 0)))

-- a rule that allows no jitter
abbrev pub strict_rule : Rule
strict_rule = record { gap = 1000; lmax = 100; jitter = 0 }

-- Of two greatest frames a microsecond less than the gap apart the switch drops the second; a gap apart it drops none.
pub record DropsTheEarly : Type 0 where
  pub early : pass_of strict_rule (200 ∷ 1199 ∷ []) ≡ greatest_at (200 ∷ [])
  pub in_time : pass_of strict_rule (200 ∷ 1200 ∷ []) ≡ greatest_at (200 ∷ 1200 ∷ [])

-- a stream of two frames of 60 bytes, the second released at `moment`
abbrev pub two_released : ℕ → List Entry
two_released moment = entry 0 (replicate 60 7) ∷ entry moment (replicate 60 7) ∷ []

-- the two frames on their way, with 20 bytes around each: the first arrives at `first`, the second at its release
abbrev pub two_passages : (first second : ℕ) → List Passage
two_passages first second = passage 0 first 84 ∷ passage second second 84 ∷ []

-- Frames a gap apart, the first delayed by all the jitter, meet the premises of the law of streams, and pass.
pub record PassesTwo : Type 0 where
  pub spaced : IsSpaced 1000 None (two_released 1000)
  pub small : All (IsUpTo 64) (two_released 1000)
  pub way : AllZip (IsOnItsWay 20 200) (two_released 1000) (two_passages 200 1000)
  pub bytes_pass : AllPass by_bytes (rule_around 1000 64 200 20) (two_passages 200 1000)
  pub frames_pass : AllPass by_frames (rule_around 1000 64 200 20) (two_passages 200 1000)

-- Half a gap apart, neither of them delayed, the second frame is dropped.
pub record NeedsTheGap : Type 0 where
  pub small : All (IsUpTo 64) (two_released 500)
  pub way : AllZip (IsOnItsWay 20 200) (two_released 500) (two_passages 0 500)
  pub spaced : BothFail (IsSpaced 1000 None (two_released 500))
      (AllPass by_bytes (rule_around 1000 64 200 20) (two_passages 0 500))

-- A frame is also dropped if it is a byte greater than the switch allows.
pub record NeedsTheGreatest : Type 0 where
  pub spaced : IsSpaced 1000 None (two_released 1000)
  pub way : AllZip (IsOnItsWay 20 200) (two_released 1000) (two_passages 200 1000)
  pub small : BothFail (All (IsUpTo 63) (two_released 1000))
      (AllPass by_bytes (rule_around 1000 63 200 20) (two_passages 200 1000))

-- A frame is also dropped if the one before it is delayed by a microsecond more than the jitter.
pub record NeedsTheJitter : Type 0 where
  pub spaced : IsSpaced 1000 None (two_released 1000)
  pub small : All (IsUpTo 64) (two_released 1000)
  pub way : BothFail (AllZip (IsOnItsWay 20 200) (two_released 1000) (two_passages 201 1000))
      (AllPass by_bytes (rule_around 1000 64 200 20) (two_passages 201 1000))
