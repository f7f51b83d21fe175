use Rattle.capture.proofs.Names.{arith}
use Rattle.capture.proofs.SoFar.{has_read_on, has_read_more, has_read_all}
use Rattle.capture.proofs.reading.read_capture.Goals as goal

pub units-preserved-in-Continue-1 : goal.units-preserved-in-Continue-1
units-preserved-in-Continue-1 c = grind (arith, has_read_more)

pub units-preserved : goal.units-preserved
units-preserved c =
    has_read_on c.args.bytes.now c.units.used c.in-Ok.step.used c.units.reading c.step.new.self c.units.packets.items
    c.in-Ok.step.packet c.units.invariant (let h = c.in-None.is in h) c.in-Ok.ensures.ok

pub returns-in-Err : goal.returns-in-Err
returns-in-Err c = grind (arith, has_read_all)
