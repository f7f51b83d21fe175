use Rattle.script_text.proofs.Names.{[], entry, frame_line}
use Rattle.script_text.proofs.Written.{written_turn}
use Rattle.script_text.proofs.transcript.write_lines.Goals as goal

pub loop-at-preserved : goal.loop-at-preserved
loop-at-preserved g c = written_turn (frame_line c.args.net) [] _ _ _ (entry c.in-Some.at c.in-Some.frame.now) _ _ _
    c.in-Some.ensures.steps.0 c.loop-at.invariant c.in_ok-write_frame.ensures
