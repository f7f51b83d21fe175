-- Worked rows of the law of the messages that an emitter was told of.
use Rattle.std.specs.Prelude.{◌≡◌, true, [], ◌∷◌}
use Rattle.afdx_plan.specs.Config.{IsPlan, link_plan_at}
use Rattle.redundant_mux.specs.Lines.{Lines, any_up}
use Rattle.subvl_queue.specs.Views.{Brought, ReceiverView}
use Rattle.afdx_laws.specs.Runs.{EmitterPolls}
use Rattle.afdx_laws.specs.MessageInRun.{FindsIt}
use Rattle.afdx_laws.specs.HeardInRun.{IsNextIn, IsItsTurn, ReleasesFirst, held_before}
use Rattle.afdx_laws.specs.WorkedRun.{byte_plan, byte_line, no_line, fresh}

-- a port's sender after one message of one byte
abbrev pub one_sent : Brought
one_sent = record { port = 0; own = (1 ∷ []) ∷ []; places = 0 ∷ [] }

-- a receiver that was told of it before its first poll
abbrev pub told_one : ReceiverView
told_one = record fresh { heard = one_sent ∷ [] }

-- A poll at the turn of a sub-VL that has begun no message, and a network is up afterwards.
pub record IsTurnOf (after : Lines) : Type 0 where
  pub poll : EmitterPolls byte_plan 1000 no_line after
  pub idle : (held_before poll 0 0).left ≡ []
  pub turn : IsItsTurn byte_plan 0 0 1000 no_line
  pub is_up : any_up (link_plan_at byte_plan.links 0).networks after ≡ true

-- An emitter that was told of a message releases it. The premises hold, and the poll finds it.
pub record ReleasesTold : Type 0 where
  pub valid : IsPlan byte_plan
  pub at : IsTurnOf (byte_line 1000)
  pub next : IsNextIn (held_before at.poll 0 0) (0, 1 ∷ [])
  pub found : FindsIt byte_plan 0 0 1 1000 no_line (byte_line 1000)
  pub released : ReleasesFirst byte_plan 0 1000 (held_before at.poll 0 0) (0, 1 ∷ []) no_line (byte_line 1000)

-- An emitter that was told of nothing may find nothing: all other premises hold, and nothing is released.
pub record NeedsToBeTold : Type 0 where
  pub at : IsTurnOf no_line
  pub unreleased : ReleasesFirst byte_plan 0 1000 (held_before at.poll 0 0) (0, 1 ∷ []) no_line no_line → ⊥
