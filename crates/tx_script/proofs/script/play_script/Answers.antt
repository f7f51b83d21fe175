use Rattle.tx_script.proofs.script.play_script.Goals as goal
use Rattle.tx_script.proofs.RunLemmas.{plays_none}

pub returns-in_default : goal.returns-in_default
returns-in_default g c = plays_none c.args.config (g.R.Read.remaining c.args.reader) _
