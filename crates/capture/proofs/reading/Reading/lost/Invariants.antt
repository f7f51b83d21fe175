use Rattle.capture.proofs.Names.{counted, drop, lost_on, ◌<◌, ◌^◌, ◌≡◌}
use Rattle.capture.proofs.reading.Reading.lost.Given as goal

abbrev pub invariant-loop-interface : goal.invariant-loop-interface
invariant-loop-interface l =
    (l.lost < 2 ^ 64)
    × (counted l.lost (lost_on (drop l.interface-index l.self.interfaces))
    ≡ counted l.self.lost_before (lost_on l.self.interfaces))
