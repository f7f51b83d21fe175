use Rattle.capture.proofs.Names.{arith, pow-le-pow_right, ◌-◌}
use Rattle.capture.proofs.Times.{less_divided}
use Rattle.capture.proofs.interface.nanos.Goals as goal

pub pow-requires : goal.pow-requires
pow-requires c =
    omega (arith, pow-le-pow_right {n = 2} (omega arith) {i = c.args.resolution - 128} {j = 127} (omega arith))

pub pow-requires-then-resolution-le38 : goal.pow-requires-then-resolution-le38
pow-requires-then-resolution-le38 c =
    omega (arith, pow-le-pow_right {n = 10} (omega arith) {i = c.args.resolution} {j = 38} (omega arith))

pub nonzero_div-result-then-resolution-le38 : goal.nonzero_div-result-then-resolution-le38
nonzero_div-result-then-resolution-le38 c = omega (
  arith,
  pow-le-pow_right {n = 10}
      (omega arith) {i = 0} {j = c.args.resolution} (omega arith),
)

pub returns-else-resolution-le38-clause-value : goal.returns-else-resolution-le38-clause-value
returns-else-resolution-le38-clause-value c = grind (arith, less_divided)
