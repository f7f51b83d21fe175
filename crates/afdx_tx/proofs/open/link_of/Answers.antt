use Rattle.afdx_tx.proofs.Names.{arith}
use Rattle.afdx_tx.proofs.PortLink.{found, found_over}
use Rattle.afdx_tx.proofs.open.link_of.Goals as goal

pub unreachable-requires : goal.unreachable-requires
unreachable-requires c = found c.args.config.now.links c.args.port.now c.requires.linked (grind arith)

pub returns-clause-over : goal.returns-clause-over
returns-clause-over c =
    found_over c.args.config.now c.args.port.now c.in-Some.place c.requires.valid c.requires.linked
    (grind arith)
