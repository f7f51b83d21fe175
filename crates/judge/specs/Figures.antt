-- The counts of a link's frames, and times that are added up.
use Rattle.std.specs.Prelude.{ℕ, ◌+◌, ◌-◌, ◌/◌, ◌^◌, nat_eq, nat_lt, Bool, if◌then◌else◌, min, Option, Some, None}
use Rattle.judge.specs.Types.{Figures, Total}

-- a count stops at 2^64 - 1, and a sum of times at 2^128 - 1
abbrev pub counted : ℕ → ℕ → ℕ
counted count more = min (count + more) (2 ^ 64 - 1)

abbrev pub summed : ℕ → ℕ → ℕ
summed sum time = min (sum + time) (2 ^ 128 - 1)

-- times that are added up: none, and one more
abbrev pub no_times : Total
no_times = record { count = 0; sum = 0 }

abbrev pub total_with : ℕ → Total → Total
total_with time total = record { count = counted total.count 1; sum = summed total.sum time }

abbrev pub total_if : Option ℕ → Total → Total
total_if None total = total
total_if (Some time) total = total_with time total

-- the mean of times, rounded down
abbrev pub mean_of : Total → Option ℕ
mean_of total = if nat_eq total.count 0 then None else Some (total.sum / total.count)

abbrev pub least_of : Option ℕ → Option ℕ → Option ℕ
least_of None b = b
least_of (Some a) None = Some a
least_of (Some a) (Some b) = Some (if nat_lt b a then b else a)

abbrev pub greatest_of : Option ℕ → Option ℕ → Option ℕ
greatest_of None b = b
greatest_of (Some a) None = Some a
greatest_of (Some a) (Some b) = Some (if nat_lt a b then b else a)

abbrev pub no_figures : Figures
no_figures = record {
  frames = 0;
  bytes = 0;
  messages = 0;
  least_gap = None;
  greatest_gap = None;
  gaps = no_times;
}

-- the figures with a frame of this length, which may end a message, and comes a gap after the one before it
abbrev pub figures_after : ℕ → Bool → Option ℕ → Figures → Figures
figures_after len ends gap figures = record {
  frames = counted figures.frames 1;
  bytes = counted figures.bytes len;
  messages = counted figures.messages (if ends then 1 else 0);
  least_gap = least_of figures.least_gap gap;
  greatest_gap = greatest_of figures.greatest_gap gap;
  gaps = total_if gap figures.gaps;
}
