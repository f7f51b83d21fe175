use Rattle.script_text.proofs.Names.{[], frame_line}
use Rattle.script_text.proofs.Written.{HasWritten}
use Rattle.script_text.proofs.transcript.write_lines.Given as goal

abbrev pub invariant-loop-at : goal.invariant-loop-at
invariant-loop-at g l = HasWritten (frame_line l.net) [] l.log.handed l.at-iterator (g.W.Write.contents l.initial.writer)
    (g.W.Write.contents l.writer)
