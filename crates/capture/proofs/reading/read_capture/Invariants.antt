use Rattle.capture.proofs.Names.{◌-◌, length}
use Rattle.capture.proofs.SoFar.{HasRead}
use Rattle.capture.proofs.reading.read_capture.Given as goal

abbrev pub invariant-units : goal.invariant-units
invariant-units l = HasRead l.bytes l.used l.reading l.packets.items

abbrev pub decreases-units : goal.decreases-units
decreases-units l = length l.bytes - l.used
