use Rattle.script_text.proofs.Names.{◌<◌, ◌+◌, ◌*◌, ◌-◌, arith, get_or}
use Rattle.script_text.proofs.WordLemmas.{number_none, too_great}
use Rattle.script_text.proofs.words.number.Goals as goal

pub returns-in-None-clause-value : goal.returns-in-None-clause-value
returns-in-None-clause-value c =
    let over : c.args.most < c.loop-digit.value * 10 + (get_or c.args.word.now c.loop-digit.digit-index 0 - 48) =
    grind arith in
    let great = too_great c.loop-digit.value c.args.most c.args.word.now c.loop-digit.digit-index c.loop-digit-test.true over in
    grind (arith, number_none)
