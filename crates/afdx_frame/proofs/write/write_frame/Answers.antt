use Rattle.afdx_frame.proofs.Names.{arith, unnumbered, items-with_items}
use Rattle.afdx_frame.proofs.Filled.{headers_there, ports_follow}
use Rattle.afdx_frame.proofs.write.write_frame.Goals as goal

pub put_piece-requires-clause-ports : goal.put_piece-requires-clause-ports
put_piece-requires-clause-ports c =
    ports_follow _ _ _ _ _ _ (grind arith) _ _ c.put_headers.ensures

pub returns-clause-frame : goal.returns-clause-frame
unfolding unnumbered
returns-clause-frame c =
    let headers = headers_there _ _ _ _ _ _ (grind arith) _ _ c.put_headers.ensures in
    grind (arith, items-with_items)
