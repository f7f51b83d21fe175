use Rattle.vl_link.proofs.Names.{sym, subst, arith, IsFullSub}
use Rattle.vl_link.proofs.sub.Sub.gather.Goals as goal

pub into_gathered-requires : goal.into_gathered-requires
into_gathered-requires c =
    let full = rw (← c.in-Receiving.ensures.value) at (subst IsFullSub (sym c.self.view_is) c.requires.full) in
    grind arith
