use Rattle.afdx_frame.proofs.UdpLemmas.{changed_words_fail}
use Rattle.afdx_frame.proofs.laws.udp_checks.Goals as goal

pub returns-clause-fail : goal.returns-clause-fail
returns-clause-fail c = changed_words_fail
