-- Twins wanted: the frames that have twins in a recording in which a judge finds nothing.
use Rattle.std.specs.Prelude.{ℕ, ◌≡◌, ◌+◌, ◌*◌, ◌<◌, ◌≤◌, true, false, List, [], length, Contains}
use Rattle.afdx_plan.specs.Config.{Plan, IsPlan, link_plan_at}
use Rattle.afdx_plan.specs.Plan.{is_both}
use Rattle.afdx_frame.specs.Header.{link_in, number_in, twin_of}
use Rattle.judge.specs.Judging.{OnNet, findings}
use Rattle.judge.specs.Twins.{apart, same_net}
use Rattle.judge.specs.declared.judge.Options.{Options}
use Rattle.afdx_laws.specs.NothingFound.{IsInOrder, time_of}
use Rattle.afdx_laws.specs.NothingMissed.{AreUnchecked}

-- a frame belongs to a link on both networks
pub record IsOnBoth (plan : Plan) (frame : List ℕ) : Type 0 where
  pub k : ℕ
  pub within : k < length plan.links
  pub link : link_in frame ≡ (link_plan_at plan.links k).id.0
  pub both : is_both (link_plan_at plan.links k).networks ≡ true

-- a packet of the recording, on the other network than this one
pub record IsOnOther (recording : List OnNet) (p q : OnNet) : Type 0 where
  pub member : Contains recording q
  pub net : same_net q.net p.net ≡ false

-- The other network was recorded in all the time in which a packet's twin can come: it has a packet more than the skew
-- before, and one more than the skew after.
pub record IsCommon (options : Options) (recording : List OnNet) (p : OnNet) : Type 0 where
  pub before : OnNet
  pub has_before : IsOnOther recording p before
  pub earlier : time_of before.packet + 1000 * options.skew < time_of p.packet
  pub after : OnNet
  pub has_after : IsOnOther recording p after
  pub later : time_of p.packet + 1000 * options.skew < time_of after.packet

-- A packet has a twin: one of the other network, within the skew, with its frame for that network, which differs in the
-- interface byte alone. So it has the same sequence number.
pub record HasTwin (options : Options) (recording : List OnNet) (p : OnNet) : Type 0 where
  pub twin : OnNet
  pub has : IsOnOther recording p twin
  pub near : apart (time_of twin.packet) (time_of p.packet) ≤ 1000 * options.skew
  pub frame : twin.packet.bytes ≡ twin_of twin.net p.packet.bytes
  pub number : number_in twin.packet.bytes ≡ number_in p.packet.bytes

-- If nothing is found in packets in the order of time, each frame of a link on both networks has a twin, if the other
-- network was recorded in the time in which it can come.
abbrev pub TwinsWanted : Type 0
TwinsWanted = (plan : Plan) (options : Options) (recording : List OnNet) (p : OnNet) → IsPlan plan
    → options.arinc ≡ false → AreUnchecked options recording → IsInOrder 0 recording
    → findings plan options recording ≡ [] → Contains recording p → IsOnBoth plan p.packet.bytes
    → IsCommon options recording p → HasTwin options recording p
