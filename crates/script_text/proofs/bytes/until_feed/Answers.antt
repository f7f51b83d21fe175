use Rattle.script_text.proofs.Names.{◌∙◌, length, sym, arith, take_all}
use Rattle.script_text.proofs.FeedLemmas.{before_at}
use Rattle.script_text.proofs.bytes.until_feed.Goals as goal

pub returns-in-None : goal.returns-in-None
returns-in-None c =
    let none = c.in-None.ensures in
    sym (grind (arith, take_all))
    ∙ before_at c.args.text.now (length c.args.text.now) (grind arith) (grind arith)
