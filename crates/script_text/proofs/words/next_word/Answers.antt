use Rattle.script_text.proofs.Names.{arith}
use Rattle.script_text.proofs.WordLemmas.{next_some}
use Rattle.script_text.proofs.words.next_word.Goals as goal

pub returns : goal.returns
returns c =
    next_some _ _ _ _ c.first_at.result c.first_at-2.result c.split_at.ensures.back c.first_at.ensures.before
    c.first_at.ensures.found
    c.split_at-2.ensures.front c.split_at-2.ensures.back c.first_at-2.ensures.within c.first_at-2.ensures.before
    c.first_at-2.ensures.found
    (grind arith)
