-- Nothing found: the judge's result for a whole recording, in the order of time, of two networks that got the same
-- frames.
use Rattle.std.specs.Prelude.{ℕ, ◌≡◌, ◌+◌, ◌*◌, ◌≤◌, List, [], ◌∷◌, length, unwrap_or}
use Rattle.std.specs.List.{AllZip}
use Rattle.afdx_plan.specs.Config.{Plan}
use Rattle.afdx_frame.specs.declared.net.Net.{Net}
use Rattle.afdx_frame.specs.declared.net.Net.TheVariants.{A, B}
use Rattle.redundant_mux.specs.Lines.{Entry}
use Rattle.afdx_legal.specs.Legal.{Accepted, on_both}
use Rattle.capture.specs.Recording.{Recorded}
use Rattle.judge.specs.Judging.{OnNet, findings}
use Rattle.judge.specs.declared.judge.Options.{Options}
use Rattle.afdx_laws.specs.NoFalseAlarm.{AreFit, IsRecord, IsSent, lag_of, packets_of}

-- a packet's time, which each has
abbrev pub time_of : Recorded → ℕ
time_of packet = unwrap_or packet.at 0

-- the times of packets don't go back
abbrev pub IsInOrder : ℕ → List OnNet → Type 0
IsInOrder latest [] = Unit {0}
IsInOrder latest (p ∷ ps) = (latest ≤ time_of p.packet) × IsInOrder (time_of p.packet) ps

-- All that was sent is recorded, in the order of time. Of the links on both networks as many frames were sent to the
-- one as to the other.
pub record IsWhole (plan : Plan) (origin : Net → ℕ) (options : Options) (a b : List Entry) (recording : List OnNet)
    : Type 0 where
  pub of_a : AllZip (IsRecord (origin A) options) a (packets_of A recording)
  pub of_b : AllZip (IsRecord (origin B) options) b (packets_of B recording)
  pub same : length (on_both plan.links a) ≡ length (on_both plan.links b)
  pub in_order : IsInOrder 0 recording

-- In a recording of legal transmission nothing is found, if twins may be as far apart as frames may be delayed and one
-- network lag.
abbrev pub NothingFound : Type 0
NothingFound = (plan : Plan) (accepted : Accepted) (a b : List Entry) (options : Options) (origin : Net → ℕ)
    (recording : List OnNet) → IsSent plan accepted a b → AreFit plan options origin
    → 1000 * options.jitter + lag_of origin ≤ 1000 * options.skew
    → IsWhole plan origin options a b recording → findings plan options recording ≡ []
