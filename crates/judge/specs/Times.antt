-- The times from which and up to which each network was recorded.
use Rattle.std.specs.Prelude.{ℕ, ◌-◌, nat_lt, if◌then◌else◌, option_map, Option, Some, None}
use Rattle.afdx_frame.specs.declared.net.Net.TheVariants.{A, B}
use Rattle.judge.specs.Types.{Net, Span, Times}

-- no packet
abbrev pub no_times : Times
no_times = record { a = None; b = None }

-- the earliest and the latest time of a network, with one more packet's
abbrev pub span_with : ℕ → Option Span → Span
span_with at None = record { earliest = at; latest = at }
span_with at (Some span) = record {
  earliest = if nat_lt at span.earliest then at else span.earliest;
  latest = if nat_lt span.latest at then at else span.latest;
}

-- the times of both networks, with one more packet of a network
abbrev pub times_with : Net → ℕ → Times → Times
times_with A at times = record times { a = Some (span_with at times.a) }
times_with B at times = record times { b = Some (span_with at times.b) }

-- the times of a network
abbrev pub own_span : Net → Times → Option Span
own_span A times = times.a
own_span B times = times.b

-- the time from the earliest packet of a network to the latest
abbrev pub recorded_for : Net → Times → Option ℕ
recorded_for net times = option_map (λ (span : Span). span.latest - span.earliest) (own_span net times)

-- the times of the network that isn't this one
abbrev pub other_span : Net → Times → Option Span
other_span A times = times.b
other_span B times = times.a
