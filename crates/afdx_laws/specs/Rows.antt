-- The shapes of the worked cases of laws.
use Rattle.std.specs.Prelude.{Bool, true, false}

-- a case in which a premise of a law fails, and its conclusion too
pub record BothFail (Premise Conclusion : Type 0) : Type 0 where
  pub premise : Premise → ⊥
  pub conclusion : Conclusion → ⊥

-- A law of three premises: a case in which all hold, and so does the conclusion; and for each premise a case in which
-- it alone fails, and the conclusion with it.
pub record NeedsEach {X Y Z : Type 0} (P : X → Type 0) (Q : Y → Type 0) (R : Z → Type 0)
    (Says : X → Y → Z → Type 0) (x no_x : X) (y no_y : Y) (z no_z : Z) : Type 0 where
  pub first : P x
  pub second : Q y
  pub third : R z
  pub says : Says x y z
  pub not_first : BothFail (P no_x) (Says no_x y z)
  pub not_second : BothFail (Q no_y) (Says x no_y z)
  pub not_third : BothFail (R no_z) (Says x y no_z)

-- the statement holds if the flag is `true`, and fails if it is `false`
abbrev pub Holds : Bool → Type 0 → Type 0
Holds true P = P
Holds false P = P → ⊥
