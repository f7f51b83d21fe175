use Rattle.interface_file.proofs.schedule.sendings_until.Goals as goal

pub returns-clause-spaced : goal.returns-clause-spaced
returns-clause-spaced c =
    rw (← c.in_ok-periods.ensures, ← c.as_slice.ensures.value) c.take_turns.ensures.spaced
