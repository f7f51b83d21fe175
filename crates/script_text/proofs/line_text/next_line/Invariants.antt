use Rattle.script_text.proofs.Names.{◌+◌, ◌-◌, length}
use Rattle.script_text.proofs.LineLemmas.{HasRead}
use Rattle.script_text.proofs.line_text.next_line.Given as goal

abbrev pub invariant-loop-bytes : goal.invariant-loop-bytes
invariant-loop-bytes g l = HasRead l.initial.bytes l.bytes l.line.items

abbrev pub decreases-loop-bytes : goal.decreases-loop-bytes
decreases-loop-bytes g l = 20000 + 2 - length l.line.items
