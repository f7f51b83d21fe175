-- Release times of a link's frames on a network, and the frames that a judge finds early.
use Rattle.std.specs.Prelude.{ℕ, ◌≡◌, ◌+◌, ◌≤◌, Bool, List, [], ◌∷◌, map, None, Option}
use Rattle.std.specs.List.{AllZip}
use Rattle.std.specs.Option.{IsSome}
use Rattle.afdx_plan.specs.declared.port_plan.PortPlan.{PortPlan}
use Rattle.judge.specs.Lines.{line_after, new_line, verdict}
use Rattle.judge.specs.State.{Arrived, Line, Measure}

-- A frame was released when it was recorded or at most the jitter before. Releases count from `before` ahead of the
-- recording's time 0.
pub record IsReleaseOf (before jitter release at : ℕ) : Type 0 where
  pub least : before + at ≤ release + jitter
  pub most : release ≤ before + at

-- releases are a gap apart or more (ARINC 664 Part 7, bandwidth allocation gap)
abbrev pub AreApart : ℕ → List ℕ → Type 0
AreApart gap [] = Unit {0}
AreApart gap (r ∷ []) = Unit {0}
AreApart gap (r ∷ (s ∷ rs)) = (r + gap ≤ s) × AreApart gap (s ∷ rs)

-- there are release times that explain when frames were recorded
pub record AreExplained (gap jitter : ℕ) (times : List ℕ) : Type 0 where
  pub before : ℕ
  pub releases : List ℕ
  pub each : AllZip (IsReleaseOf before jitter) releases times
  pub apart : AreApart gap releases

-- release times that explain frames after one that was released when it was recorded
pub record AreExplainedAfter (gap jitter at : ℕ) (times : List ℕ) : Type 0 where
  pub before : ℕ
  pub releases : List ℕ
  pub each : AllZip (IsReleaseOf before jitter) releases times
  pub apart : AreApart gap ((before + at) ∷ releases)

-- ---- frames that come to a line

pub record Heard : Type 0 where
  pub port : Option PortPlan
  pub arrived : Arrived

abbrev pub times_of : List Heard → List ℕ
times_of hs = map (λ (h : Heard). h.arrived.at) hs

abbrev pub is_after : Measure → Heard → Line → Line
is_after measure h line = line_after measure h.port h.arrived line

-- none of these frames is early
abbrev pub NoneIsEarly : Measure → Line → List Heard → Type 0
NoneIsEarly measure line [] = Unit {0}
NoneIsEarly measure line (h ∷ hs) = ((verdict measure h.port h.arrived line).early ≡ None)
    × NoneIsEarly measure (is_after measure h line) hs

-- Frames from a line's first one on are early exactly if no release times explain them. After an early frame they are
-- so exactly if none do by which that one was released when it was recorded.
pub record EarlyIsExact (measure : Measure) (late : Bool) (hs : List Heard) (line : Line) (h : Heard) : Type 0 where
  pub first : NoneIsEarly measure (new_line late measure.arinc) hs
      → AreExplained measure.gap measure.jitter (times_of hs)
  pub first_back : AreExplained measure.gap measure.jitter (times_of hs)
      → NoneIsEarly measure (new_line late measure.arinc) hs
  pub again : IsSome (verdict measure h.port h.arrived line).early → NoneIsEarly measure (is_after measure h line) hs
      → AreExplainedAfter measure.gap measure.jitter h.arrived.at (times_of hs)
  pub again_back : IsSome (verdict measure h.port h.arrived line).early
      → AreExplainedAfter measure.gap measure.jitter h.arrived.at (times_of hs)
      → NoneIsEarly measure (is_after measure h line) hs

abbrev pub EarlyExactly : Type 0
EarlyExactly = (measure : Measure) (late : Bool) (hs : List Heard) (line : Line) (h : Heard)
    → EarlyIsExact measure late hs line h
