-- Worked recordings of the demonstration plan: two or three messages of one byte, a frame each, on both networks.
use Rattle.std.specs.Prelude.{◌≡◌, ◌+◌, ◌*◌, ◌≤◌, ℕ, true, false, List, [], ◌∷◌, ◌++◌, All, None, Some, length}
use Rattle.afdx_plan.specs.Demo.{demo_plan, demo_port}
use Rattle.afdx_frame.specs.declared.net.Net.{Net}
use Rattle.afdx_frame.specs.declared.net.Net.TheVariants.{A, B}
use Rattle.afdx_frame.specs.Cutting.{piece_at}
use Rattle.afdx_frame.specs.Frame.{frame_of}
use Rattle.redundant_mux.specs.Lines.{Entry, entry}
use Rattle.afdx_legal.specs.Worked.{one_frame}
use Rattle.afdx_laws.specs.Rows.{BothFail}
use Rattle.afdx_laws.specs.WorkedPlan.{pair_at, second_frame, two_accepted, two_entries}
use Rattle.judge.specs.Judging.{OnNet, findings}
use Rattle.judge.specs.declared.judge.Options.{Options}
use Rattle.afdx_laws.specs.NoFalseAlarm.{AreFit, IsMissing, IsRecording, IsSent, lag_of, packets_of}
use Rattle.afdx_laws.specs.NothingFound.{IsInOrder, IsWhole}
use Rattle.afdx_laws.specs.NothingMissed.{IsExplained, IsSentTo, IsStrict, sent_to}
use Rattle.afdx_laws.specs.TwinsWanted.{HasTwin, IsCommon}

-- nothing is allowed for
abbrev pub strict : Options
strict = record { jitter = 0; skew = 0; late = false; fcs = false; arinc = false }

abbrev pub packet : Net → ℕ → List ℕ → OnNet
packet net at frame = record {
  net = net;
  number = 1;
  packet = record { interface = 0; network = None; at = Some at; original = length frame; bytes = frame; fcs = None };
}

-- the two frames on both networks, at these times in nanoseconds, network B first
abbrev pub both_at : (first second : ℕ) → List OnNet
both_at first second = packet B first (one_frame B) ∷ packet A first (one_frame A)
    ∷ packet A second (second_frame A) ∷ packet B second (second_frame B) ∷ []

abbrev pub seconds_at : ℕ → List OnNet
seconds_at at = packet A at (second_frame A) ∷ packet B at (second_frame B) ∷ []

abbrev pub late : Options
late = record strict { late = true }

-- the frame of a third message
abbrev pub third_frame : Net → List ℕ
third_frame net = frame_of 1 demo_port (3 ∷ []) 2 (piece_at 1479 9 0) net 2

-- network B was recorded from the second frame on, and network A up to it
abbrev pub one_in_common : List OnNet
one_in_common = packet A 7 (one_frame A) ∷ seconds_at 1000007 ++ packet B 2000007 (third_frame B) ∷ []

-- both networks begin at this time
abbrev pub from : ℕ → Net → ℕ
from origin net = origin

-- The recording meets the premises, and nothing is found. Nor is anything in one that began after the first frame, or
-- in one with a single frame on both networks.
pub record FindsNothing : Type 0 where
  pub sent : IsSent demo_plan two_accepted (two_entries A) (two_entries B)
  pub fit : AreFit demo_plan strict (from 7)
  pub recorded : IsRecording (from 7) strict (two_entries A) (two_entries B) (both_at 7 1000007)
  pub nothing : findings demo_plan strict (both_at 7 1000007) ≡ []
  pub late_fit : AreFit demo_plan late (from 7)
  pub late_recorded : IsRecording (from 7) late (two_entries A) (two_entries B) (seconds_at 1000007)
  pub late_nothing : findings demo_plan late (seconds_at 1000007) ≡ []
  pub common_nothing : findings demo_plan late one_in_common ≡ []

abbrev pub OnlyMissing : Options → List OnNet → Type 0
OnlyMissing options recording = All IsMissing (findings demo_plan options recording)

-- frames may be delayed by two gaps
abbrev pub loose : Options
loose = record strict { jitter = 2000 }

abbrev pub half_gap : Options
half_gap = record strict { jitter = 500 }

abbrev pub with_check : Options
with_check = record strict { fcs = true }

-- the two frames were sent, the second at this time in microseconds
abbrev pub PairSent : ℕ → Type 0
PairSent now = IsSent demo_plan two_accepted (pair_at now A) (pair_at now B)

abbrev pub PairRecorded : Options → List OnNet → Type 0
PairRecorded options recording = IsRecording (from 0) options (two_entries A) (two_entries B) recording

-- Each premise is needed. Frames a microsecond less than a gap apart are not sent legally, and one is early. So is one
-- that is recorded a nanosecond before its time, and one after a frame that is delayed by more than the jitter. A frame
-- without its check sequence isn't one with it. A recording that began late lacks a number, if the judge
-- doesn't know that it did. A jitter over the gap may exchange two frames: nothing is found.
pub record NeedsItsPremises : Type 0 where
  pub sent : BothFail (PairSent 999) (OnlyMissing strict (both_at 0 999000))
  pub early : BothFail (PairRecorded strict (both_at 0 999999)) (OnlyMissing strict (both_at 0 999999))
  pub exchanged : PairRecorded loose (both_at 2000000 1000000)
  pub exchanged_nothing : findings demo_plan loose (both_at 2000000 1000000) ≡ []
  pub jitter : BothFail (PairRecorded half_gap (both_at 600000 1000000)) (OnlyMissing half_gap (both_at 600000 1000000))
  pub fcs : BothFail (PairRecorded with_check (both_at 0 1000000)) (OnlyMissing with_check (both_at 0 1000000))
  pub first : BothFail (PairRecorded strict (seconds_at 1000000)) (OnlyMissing strict (seconds_at 1000000))

-- ---- nothing found

abbrev pub three_entries : Net → List Entry
three_entries net = entry 0 (one_frame net) ∷ entry 1000 (second_frame net) ∷ entry 2000 (third_frame net) ∷ []

-- network A's three frames, and then network B's
abbrev pub one_by_one : List OnNet
one_by_one = packet A 0 (one_frame A) ∷ packet A 1000000 (second_frame A) ∷ packet A 2000000 (third_frame A)
    ∷ packet B 0 (one_frame B) ∷ packet B 1000000 (second_frame B) ∷ packet B 2000000 (third_frame B) ∷ []

-- the first frame on network B is delayed by 100 microseconds
abbrev pub lagging : List OnNet
lagging = packet A 0 (one_frame A) ∷ packet B 100000 (one_frame B)
    ∷ packet A 1000000 (second_frame A) ∷ packet B 1000000 (second_frame B) ∷ []

abbrev pub delayed : Options
delayed = record strict { jitter = 100 }

-- both messages, network B's frames 100 microseconds later
abbrev pub apart_by_100 : List OnNet
apart_by_100 = packet A 7 (one_frame A) ∷ packet B 100007 (one_frame B)
    ∷ packet A 1000007 (second_frame A) ∷ packet B 1100007 (second_frame B) ∷ []

abbrev pub behind : Net → ℕ
behind A = 7
behind B = 100007

abbrev pub with_skew : ℕ → Options
with_skew skew = record strict { skew = skew }

-- one network lags by no more than twins may be apart
abbrev pub AreNear : Options → (Net → ℕ) → Type 0
AreNear options origin = 1000 * options.jitter + lag_of origin ≤ 1000 * options.skew

-- The recording of both messages is whole, also if network B lags. Out of the order of time, frames are given up before
-- their twins come. The same happens if twins may be delayed, or one network lag, for longer than the skew.
pub record FindsNoneOfAll : Type 0 where
  pub whole : IsWhole demo_plan (from 7) strict (two_entries A) (two_entries B) (both_at 7 1000007)
  pub lag_whole : IsWhole demo_plan behind (with_skew 100) (two_entries A) (two_entries B) apart_by_100
  pub lag_near : AreNear (with_skew 100) behind
  pub lag_nothing : findings demo_plan (with_skew 100) apart_by_100 ≡ []
  pub lag : BothFail (AreNear (with_skew 99) behind) (findings demo_plan (with_skew 99) apart_by_100 ≡ [])
  pub order : BothFail (IsWhole demo_plan (from 0) strict (three_entries A) (three_entries B) one_by_one)
      (findings demo_plan strict one_by_one ≡ [])
  pub skew : BothFail (AreNear delayed (from 0)) (findings demo_plan delayed lagging ≡ [])

-- ---- nothing missed

-- A recording meets the premises. A judge that allows a jitter finds nothing in frames that were recorded too near to
-- each other: they weren't sent when they were recorded. One of a recording that began late finds nothing in a first
-- number that isn't 0.
pub record MissesNothing : Type 0 where
  pub strict_is : IsStrict demo_plan strict (both_at 7 1000007)
  pub near_nothing : findings demo_plan loose (both_at 0 999000) ≡ []
  pub near : IsSentTo demo_plan A (sent_to A (both_at 0 999000)) → ⊥
  pub late_nothing : findings demo_plan late (seconds_at 1000000) ≡ []
  pub late_missed : BothFail (IsStrict demo_plan late (seconds_at 1000000))
      (IsExplained demo_plan late A (packets_of A (seconds_at 1000000)))

-- ---- twins wanted

-- three messages on both networks
abbrev pub three_on_both : List OnNet
three_on_both = packet A 0 (one_frame A) ∷ packet B 0 (one_frame B)
    ∷ packet A 1000000 (second_frame A) ∷ packet B 1000000 (second_frame B)
    ∷ packet A 2000000 (third_frame A) ∷ packet B 2000000 (third_frame B) ∷ []

abbrev pub middle : OnNet
middle = packet A 1000000 (second_frame A)

-- network B was recorded from the second frame on
abbrev pub begun_later : List OnNet
begun_later = packet A 0 (one_frame A) ∷ packet A 1000000 (second_frame A) ∷ packet B 1000000 (second_frame B) ∷ []

abbrev pub first_alone : OnNet
first_alone = packet A 0 (one_frame A)

-- the two frames on network A, and then on network B, where the first came earlier than both
abbrev pub turned : List OnNet
turned = packet A 1000000 (second_frame A) ∷ packet A 2000000 (third_frame A)
    ∷ packet B 0 (second_frame B) ∷ packet B 2000000 (third_frame B) ∷ []

-- Nothing is found in three messages, and the frame of the second has a twin: both networks were recorded before it and
-- after it.
pub record FindsTwins : Type 0 where
  pub order : IsInOrder 0 three_on_both
  pub nothing : findings demo_plan strict three_on_both ≡ []
  pub common : IsCommon strict three_on_both middle
  pub twin : HasTwin strict three_on_both middle

-- Two premises are needed. Nothing is found either if one network was recorded later, but the frame before has no twin.
-- Out of the order of time a frame may come before the other network's earlier ones, and lack its twin too.
pub record NeedsTheTime : Type 0 where
  pub later_order : IsInOrder 0 begun_later
  pub later_nothing : findings demo_plan late begun_later ≡ []
  pub later : BothFail (IsCommon late begun_later first_alone) (HasTwin late begun_later first_alone)
  pub turned_nothing : findings demo_plan late turned ≡ []
  pub turned_common : IsCommon late turned middle
  pub order : BothFail (IsInOrder 0 turned) (HasTwin late turned middle)
