-- A frame of a link that waits for its twin, and the waiting frames of a link.
use Rattle.std.specs.Prelude.{ℕ, List, Option}
use Rattle.judge.specs.declared.figures.Total.{Total}
use Rattle.judge.specs.declared.finding.Tag.{Tag}

pub record Wait : Type 0 where
  pub tag : Tag
  pub number : ℕ
  pub bytes : List ℕ

-- the waiting frames of both networks, in the order in which they came, the greatest time between twins so far,
-- and all these times
pub record Pairing : Type 0 where
  pub waiting : List Wait
  pub lead : Option ℕ
  pub leads : Total
