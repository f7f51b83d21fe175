-- The sufficiency of a sub-VL's queue for its traffic.
use Rattle.std.specs.Prelude.{ℕ, Bool, false, nat_le, Option, Some, None}
use Rattle.plan_analysis.specs.declared.traffic.Bound.{Bound}
use Rattle.plan_analysis.specs.declared.traffic.Bound.TheVariants.{NoPeriod, Found, Overloaded, TooLong}

-- true if the queue of a sub-VL with a port suffices, by the bound of its traffic
abbrev pub suffices_by : ℕ → Bound → Option Bool
suffices_by capacity NoPeriod = None
suffices_by capacity (Found worst) = Some (nat_le worst.need capacity)
suffices_by capacity Overloaded = Some false
suffices_by capacity TooLong = Some false

-- True if a queue of this capacity has the places that its traffic needs. `None` if there is no port, or one has no
-- period.
abbrev pub suffices : (capacity : ℕ) → Option Bound → Option Bool
suffices capacity None = None
suffices capacity (Some bound) = suffices_by capacity bound
