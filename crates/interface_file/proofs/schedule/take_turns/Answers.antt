use Rattle.std.proofs.Common.{◌≡◌, arith, slice_index}
use Rattle.std.proofs.lemmas.List.{get_or_default}
use Rattle.interface_file.proofs.Turns.{step}
use Rattle.interface_file.proofs.schedule.take_turns.Goals as goal

pub loop-turn-preserved : goal.loop-turn-preserved
loop-turn-preserved c =
    let slice = c.as_slice.ensures.value in
    let found = rw slice at c.in-Some.ensures.found in
    let least = rw slice at c.in-Some.ensures.least in
    let at : c.index-at.result.now ≡ slice_index c.loop-turn.next.items c.in-Some.flow =
    grind (arith, get_or_default, c.index-at.ensures, found) in
    let later = rw at at c.saturating_add.ensures in
    rw (c.in_ok-push.ensures.items, at)
    (step c.args.next.items c.args.periods.now c.loop-turn.next.items c.args.end c.loop-turn.sent.items
    c.in-Some.flow c.saturating_add.result c.loop-turn.invariant found.0 found.1 c.requires.end least later)
