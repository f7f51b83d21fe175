-- The greatest load that a plan puts on its networks, on the wire.
use Rattle.std.specs.Prelude.{ℕ, ◌+◌, ◌*◌, ◌/◌, List, Bool, nat_lt, sum_by, if◌then◌else◌}
use Rattle.std.specs.Int.{div_ceil}
use Rattle.afdx_frame.specs.declared.net.Net.{Net}
use Rattle.afdx_frame.specs.declared.net.Net.TheVariants.{A, B}
use Rattle.afdx_plan.specs.Plan.{carries_a, carries_b, bag_ms}
use Rattle.afdx_plan.specs.declared.link_plan.LinkPlan.{LinkPlan}
use Rattle.afdx_plan.specs.declared.link_plan.Networks.{Networks}

-- A link's greatest frame in bits, with the 20 bytes around it on the wire: preamble, start delimiter and gap.
abbrev pub wire_bits : LinkPlan → ℕ
wire_bits link = 8 * (link.lmax + 20)

-- The most bits of a link in 128 milliseconds, the greatest BAG: a greatest frame each BAG. Every BAG divides it.
abbrev pub window_bits : LinkPlan → ℕ
window_bits link = wire_bits link * (128 / bag_ms link.bag)

-- true if a network carries a link with these networks
abbrev pub carries : Net → Networks → Bool
carries A networks = carries_a networks
carries B networks = carries_b networks

-- the most bits in 128 milliseconds of all links that a network carries
abbrev pub line_bits : Net → List LinkPlan → ℕ
line_bits net links = sum_by (λ link. if carries net link.networks then window_bits link else 0) links

-- bits in 128 milliseconds as bits per second, rounded up
abbrev pub bit_rate : ℕ → ℕ
bit_rate bits = div_ceil (bits * 1000) 128

-- the bits of 100 Mbit/s in 128 milliseconds
abbrev pub line_window : ℕ
line_window = 12800000

-- bits in 128 milliseconds as hundredths of a percent of 100 Mbit/s, rounded up
abbrev pub share : ℕ → ℕ
share bits = div_ceil (bits * 10000) line_window

-- bits in 128 milliseconds are more than 100 Mbit/s
abbrev pub is_over : ℕ → Bool
is_over bits = nat_lt line_window bits
