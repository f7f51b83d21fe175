-- Times of a very fine resolution.
use Rattle.capture.proofs.Names.{arith, div-eq_of_lt, pow-le-pow_right, sym, ℕ, ◌*◌, ◌/◌, ◌<◌, ◌^◌, ◌≡◌, ◌≤◌}

-- fewer units than a second has, each in nanoseconds, are no nanosecond
pub less_divided : (ticks resolution : ℕ) → ticks < 2 ^ 64 → 38 < resolution → 0 ≡ ticks * 1000000000 / 10 ^ resolution
less_divided ticks resolution few fine =
    let most : 10 ^ 39 ≤ 10 ^ resolution =
    pow-le-pow_right {n = 10} (omega arith) {i = 39} {j = resolution} (omega arith) in
    sym (div-eq_of_lt (omega arith))
