use Rattle.script_text.proofs.Names.{◌<◌, length, arith}
use Rattle.script_text.proofs.LineLemmas.{read_plain, read_byte, eof_taken, eof_long, feed_taken, feed_long, byte_long}
use Rattle.script_text.proofs.line_text.next_line.Goals as goal

pub returns-in-Ok-None-2-clause-taken : goal.returns-in-Ok-None-2-clause-taken
returns-in-Ok-None-2-clause-taken g c line =
    grind (arith, read_plain _ _ _ _ _ c.loop-bytes.invariant c.in_ok-take_plain.ensures, eof_taken)

pub returns-in-Ok-None-2-clause-long : goal.returns-in-Ok-None-2-clause-long
returns-in-Ok-None-2-clause-long g c line =
    let taken = rw c.in-Ok-None.field-0-is at c.in-Ok-None.ensures.taken in
    let long = c.of_len.ensures.long line in
    eof_long _ _ _ _ (read_plain _ _ _ _ _ c.loop-bytes.invariant c.in_ok-take_plain.ensures) taken
    (grind arith) (omega (arith, long))

pub returns-in-Ok-Some-eq10-clause-taken : goal.returns-in-Ok-Some-eq10-clause-taken
returns-in-Ok-Some-eq10-clause-taken g c line =
    grind (arith, read_plain _ _ _ _ _ c.loop-bytes.invariant c.in_ok-take_plain.ensures, feed_taken)

pub returns-in-Ok-Some-eq10-clause-long : goal.returns-in-Ok-Some-eq10-clause-long
returns-in-Ok-Some-eq10-clause-long g c line =
    let some = rw c.in-Ok-Some-eq10.field-0-is at c.in-Ok-Some-eq10.ensures.taken in
    let taken = rw c.in-Ok-Some-eq10.field-0-0-test at some in
    let long = c.of_len-in-Ok-Some-eq10.ensures.long line in
    let len : 20000 < length c.drop_return.new.line.items = omega (arith, long, c.len-in-Ok-Some-eq10.ensures) in
    feed_long _ _ _ _ (read_plain _ _ _ _ _ c.loop-bytes.invariant c.in_ok-take_plain.ensures) taken (rw c.drop_return.ensures at len)

pub returns-in-Ok-Some-clause-long : goal.returns-in-Ok-Some-clause-long
returns-in-Ok-Some-clause-long g c line =
    grind (arith, read_plain _ _ _ _ _ c.loop-bytes.invariant c.in_ok-take_plain.ensures, byte_long)

pub loop-bytes-preserved : goal.loop-bytes-preserved
loop-bytes-preserved g c =
    let taken = rw c.in-Ok-Some.field-0-is at c.in-Ok-Some.ensures.taken in
    let read = read_plain _ _ _ _ _ c.loop-bytes.invariant c.in_ok-take_plain.ensures in
    rw c.in_ok-push-in-Ok-Some-2.ensures.items
    (read_byte _ _ _ _ c.in-Ok-Some.field-0-0 read taken c.in-Ok-Some.field-0-0-test.1)
