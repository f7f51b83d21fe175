use Rattle.script_text.proofs.Names.{◌≡◌, drop, read_on}
use Rattle.script_text.proofs.words.number.Given as goal

abbrev pub invariant-loop-digit : goal.invariant-loop-digit
invariant-loop-digit l = read_on l.value (drop l.digit-index l.word) ≡ read_on 0 l.word
